-- A guard with too large a form ends it; else one more is there.
use Rattle.std.proofs.Common.{◌≡◌, ◌+◌, ◌∙◌, ap, sym, subst, [], ◌∷◌, ◌++◌, take, map, slice_index_or, arith}
use Rattle.std.proofs.lemmas.List.{map_more, get_or-map, length-map}
use Rattle.std.proofs.lemmas.List.Elements.{All-push}
use Rattle.std.proofs.lemmas.Result.{err_from_is_err_and}
use Rattle.burr_forms.specs.Rules.Forms.{Form, substituted, IsSmallForm, AllSmallForms}
use Rattle.burr_frames.proofs.state.calls.guards_with.Goals as goal

pub returns-in_err-substitute : goal.returns-in_err-substitute
returns-in_err-substitute c =
    let symbols = c.args.symbols.now in
    let there = c.args.there.now in
    let k = c.loop-guard.guard in
    let guard = c.index-there-guard.result in
    let change = substituted symbols in
    let given : substituted c.padded-forms.result guard ≡ change guard =
    ap (λ (put : Form → Form). put guard) c.padded-forms.ensures.padded in
    let here : slice_index_or (map change there) k guard ≡ change guard =
    get_or-map change there k guard guard c.loop-guard-test.true ∙ ap change (sym c.index-there-guard.is) in
    let p = err_from_is_err_and c.from_residual.result c.from_residual.ensures.1 in
    rw p.1
    (λ small. c.in_err-substitute.ensures
    (subst IsSmallForm (here ∙ sym given) (small k guard (omega (arith, length-map there change, c.loop-guard-test.true)))))

pub loop-guard-preserved : goal.loop-guard-preserved
loop-guard-preserved c =
    let symbols = c.args.symbols.now in
    let there = c.args.there.now in
    let k = c.loop-guard.guard in
    let guard = c.index-there-guard.result in
    let before = c.loop-guard.guards.items in
    let next = c.in_ok-substitute.field-0 in
    let change = substituted symbols in
    let given : next ≡ change guard =
    c.in_ok-substitute.ensures.0 ∙ ap (λ (put : Form → Form). put guard) c.padded-forms.ensures.padded in
    let items : c.push.new.self.items ≡ before ++ next ∷ [] = c.push.ensures.items in
    let more : map change (take (k + 1) there) ≡ map change (take k there) ++ change guard ∷ [] =
    map_more change there k guard c.loop-guard-test.true
    ∙ ap (λ (f : Form). map change (take k there) ++ change f ∷ []) (sym c.index-there-guard.is) in
    let small : IsSmallForm next = subst IsSmallForm (sym c.in_ok-substitute.ensures.0) c.in_ok-substitute.ensures.1 in
    record {
      is = items ∙ (λ i. c.loop-guard.invariant.is i ++ given i ∷ []) ∙ sym more;
      small = subst AllSmallForms (sym items) (All-push IsSmallForm before next c.loop-guard.invariant.small small);
    }
