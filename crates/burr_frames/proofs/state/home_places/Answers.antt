-- One more piece at home.
use Rattle.std.proofs.Common.{◌≡◌, ◌+◌, ℕ, zero, suc, List, [], ◌∷◌, ◌++◌, sym, subst, ap, ◌∙◌, refl, add-one}
use Rattle.burr_forms.specs.Rules.Forms.{Form}
use Rattle.std.specs.Prelude.{replicate}
use Rattle.burr_code.specs.declared.placement.Placement.{Placement}
use Rattle.burr_code.specs.declared.placement.Placement.TheVariants.{On}
use Rattle.burr_container.specs.Rules.Plans.{FormCell}
use Rattle.burr_frames.specs.Rules.SpaceRules.{AllSmallPlaces}
use Rattle.burr_frames.specs.Rules.Starts.{home_position}
use Rattle.burr_frames.proofs.SmallPlaces.{small_append}
use Rattle.burr_frames.proofs.state.home_places.Goals as goal

one_after : {A : Type 0} (n : ℕ) (x : A) → replicate n x ++ x ∷ [] ≡ replicate (suc n) x
one_after zero x = refl
one_after (suc n) x = ap (λ xs. x ∷ xs) (one_after n x)

one_more : {A : Type 0} (n : ℕ) (x : A) → replicate n x ++ x ∷ [] ≡ replicate (n + 1) x
one_more n x = one_after n x ∙ ap (λ m. replicate m x) (sym (add-one n))

pub loop-preserved : goal.loop-preserved
loop-preserved c =
    let before = c.loop.places.items in
    let zero = c.number_form-zero.result in
    let small = c.number_form-zero.ensures.small in
    let element : Placement FormCell = On 0 (record { x = zero; y = zero; z = zero }) in
    let home : element ≡ On 0 home_position = ap (λ (f : Form). On 0 (record { x = f; y = f; z = f })) c.number_form-zero.ensures.form in
    let items : c.push.new.self.items ≡ before ++ element ∷ [] = c.push.ensures.items in (
      items ∙ ap (λ (e : Placement FormCell). before ++ e ∷ []) home
          ∙ ap (λ (xs : List (Placement FormCell)). xs ++ On 0 home_position ∷ []) c.loop.invariant.0
          ∙ one_more c.loop.counter (On 0 home_position),
      subst AllSmallPlaces (sym items) (small_append before (element ∷ []) c.loop.invariant.1 (small, small, small, tt)),
    )
