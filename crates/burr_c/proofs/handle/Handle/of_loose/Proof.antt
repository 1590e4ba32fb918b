-- `of_loose` makes an open handle, which keeps what the loose box owned.
use Rattle.std.proofs.Common.{[], ◌∷◌, refl}
use mathlib.Core.Bool.{true}
use base.Fml.{ftrue}
use contract.Running.{tables}
use types.Kit.{‵, ◌⊛◌, ◌$◌, ◌∵◌, !, qed, done, keep, move, split, join, suffices}
use types.Run.{stop, fld, of_opd, true_lit, no_more, and_then, returns, enter}
use types.ByLocal.{alloc_all, pass_all, free_all, look_at, get, get_in, sets}
use types.Part.{agg, sub, whole}
use denote.Exit.{yes}
use denote.Signature.{plain}
use denote.Steps.{nothing}
use denote.Triple.Walked.{Stays, stay_dropped, walk_of, says, ends_at, Goes-dropped}
use Rattle.core.proofs.atomic.Steps.{Ptr-Good}
use Rattle.core.specs.declared.option.Option.TheVariants.{Some}
use Rattle.std.proofs.raw_atomic.Walks.{proved}
use Rattle.burr_c.proofs.Boxed.{C-laws}
use Rattle.burr_c.proofs.LooseValues.{Loose, word, word_fits, opens_loose}
use Rattle.burr_c.proofs.HandleValues.{pair, pair_fits, makes_handle}
use Rattle.burr_c.proofs.handle.Loose.TheLaws.{lowers}
use Rattle.burr_c.specs.Boxed.{C}
use Rattle.burr_c.specs.contracts.handle.Handle.of_loose as f
use Rattle.burr_c.proofs.handle.Handle.of_loose.Statement.{statement}
use Rattle.burr_c.proofs.handle.Handle.of_loose.Code as code

abbrev stayed : Stays f.ended.signature.params f.ended.kept
stayed = (stay_dropped (plain (λ _. Loose C)) yes, tt)

pub of_loose_spec : {M : Type 1} → statement M
of_loose_spec 𝓤 𝓛 𝓜 𝓡 wired =
    let c = f.clauses 𝓛 𝓜.mem 𝓡.returns in let W = walk_of 𝓛 f.ended stayed c in let 𝓣 = tables 𝓤 𝓛.H 𝓜 𝓡 𝓡.env in
    proved 𝓛 f.ended stayed c 𝓜 𝓡 (Goes-dropped 𝓛 0 (plain (λ _. Loose C)) yes (λ κs x w. refl), tt)
    f.Key.name code.function (code.unfolded 𝓤 𝓛.H 𝓜 𝓡 wired)
    (λ κs. ((λ loose. word loose.at ∷ []), tt)) (λ κs. ((lowers C C-laws).val_is, tt)) (λ κs qs bounds a _ are.
    let loose = a.0 in
    let y : W.Ghost = ((κs, qs, bounds, a, (word loose.at ∷ [], tt)), tt) in
    qed 𝓛 ((‵ ftrue ⊛ ‵ ((Loose C).own_val loose (word loose.at ∷ [])) ⊛ ‵ ftrue) ∷ ‵ ftrue ∷ []) ∵
    split ! $ move ! (1 ∷ []) $ split ! $ opens_loose C ! loose (word loose.at ∷ []) $ keep ! (0 ∷ []) $
    -- [what the loose box owned]
    enter ! 𝓣.C 𝓣.Λ code.function (word loose.at ∷ []) (W.post y) $ alloc_all ! (λ l. pass_all ! refl (word_fits C loose.at, tt) $
    sets ! (of_opd ! (get_in ! (fld ! refl (stop !)) (sub ! 0 refl (whole !)))) refl (Ptr-Good loose.at) $
    sets ! (of_opd ! (get ! refl)) refl (Ptr-Good loose.at) $
    sets ! (agg ! (and_then ! (get ! refl) (and_then ! (true_lit !) (no_more !)))) refl (pair_fits loose.at true) $
    makes_handle ! loose.at true (Some loose.value) $
    returns ! (look_at ! 0 refl) $ free_all ! refl $
    suffices ! _ (ends_at 𝓛 f.ended stayed c y (pair loose.at true) (record { at = loose.at; is_open = true; value = Some loose.value }) (tt, tt) (tt, tt)) $
    says ! refl $ nothing ! $ nothing ! $ join ! $ nothing ! $ done !))
