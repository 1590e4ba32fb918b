-- A symbol more.
use Rattle.std.proofs.Common.{◌≡◌, suc, ◌+◌, ◌-◌, ◌∙◌, ap, sym, subst, arith, List, [], ◌∷◌, ◌++◌, length, append_assoc}
use Rattle.std.proofs.lemmas.List.{length_push}
use Rattle.std.proofs.lemmas.List.Elements.{All-push}
use Rattle.burr_forms.specs.Rules.Forms.{Form, symbol, IsSmallForm, AllSmallForms}
use Rattle.burr_frames.specs.Rules.ControlRules.{symbols_from}
use Rattle.burr_frames.proofs.state.calls.symbols_from.Goals as goal

pub loop-number-preserved : goal.loop-number-preserved
loop-number-preserved c =
    let n = c.loop-number.number in
    let end = c.args.first + c.args.count in
    let before = c.loop-number.symbols.items in
    let old = c.loop-number.invariant in
    let rest = symbols_from (n + 1) (end - (n + 1)) in
    let left : end - n ≡ suc (end - (n + 1)) = omega (arith, c.loop-number-test.true) in
    let more : suc n ≡ n + 1 = omega arith in
    let step : symbols_from n (end - n) ≡ symbol n ∷ rest =
    ap (symbols_from n) left ∙ ap (λ k. symbol n ∷ symbols_from k (end - (n + 1))) more in
    let items : c.push.new.self.items ≡ before ++ symbol n ∷ [] =
    c.push.ensures.items ∙ ap (λ (f : Form). before ++ f ∷ []) c.symbol.ensures.symbol in
    record {
      is = ap (λ (fs : List Form). fs ++ rest) items ∙ append_assoc before (symbol n ∷ []) rest
          ∙ ap (λ (fs : List Form). before ++ fs) (sym step) ∙ old.is;
      many = omega (arith, ap (length {A = Form}) items, length_push before (symbol n), old.many);
      small = subst AllSmallForms (sym items)
          (All-push IsSmallForm before (symbol n) old.small (subst IsSmallForm c.symbol.ensures.symbol c.symbol.ensures.small));
    }
