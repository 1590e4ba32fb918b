-- What becomes of each piece where a group goes aside.
use Rattle.std.proofs.Common.{◌≡◌, ◌≢◌, ◌⊎◌, ℕ, List, Some, sym, subst, ap, ◌∙◌, inl, inr}
use Rattle.std.specs.Prelude.{slice_get}
use Rattle.burr_text.proofs.Common.Decisions.{Decided}
use Rattle.std.proofs.lemmas.Option.{same_Some}
use native.Mathlib.Decide.{ℕ_discrete}
use Rattle.burr_code.specs.PieceSets.{IsInSet}
use Rattle.burr_code.specs.declared.placement.Placement.{Placement}
use Rattle.burr_code.specs.declared.placement.Placement.TheVariants.{Apart, On}
use Rattle.burr_code.specs.Places.{LiesAt, LiesIn, AllLieIn, IsPartOfTray, IsEmptyTray, changed, to_tray, count_in, parted, aside_places}
use Rattle.burr_code.proofs.Common.PieceSets.{decide_bit}
use Rattle.burr_state.specs.Laws.AsideLaws.{NoneLone, CanGoAside, IsGoneAside}
use Rattle.burr_state.specs.Rules.Space.{LiesApart}
use Rattle.burr_code.proofs.Common.Conditions.{same_tray, same_position}
use Rattle.burr_state.proofs.Common.Trays.Counts.{changed_place, is_changed, is_kept, changed_back, lies_still_at, lies_still, lies_there_at, lies_there, apart_still, group_taken, count_in-third}
use Rattle.burr_state.proofs.Common.Trays.Lone.{one_where_lone, lone_where_one, parted_place, slice_get-parted, parted_back, parted_place-apart, parted_place-other, parted_place-lone, parted_place-kept, not_lone_parted, count_in-parted}
use Rattle.burr_code.proofs.Common.Counts.{length-aside_places}

-- the places where the group has gone to the other tray, and no piece is apart yet
abbrev gone : {Position : Type 0} → ℕ → ℕ → List (Placement Position) → List (Placement Position)
gone group there places = changed (to_tray there) group 0 places

-- Where a piece lay before

-- a piece that lies in a tray afterwards lay at the same position: in the tray that was left, if it is of the group
abbrev pub LayBefore : {Position : Type 0} → ℕ → ℕ → ℕ → List (Placement Position) → ℕ → ℕ → Position → Type 0
LayBefore group here there places p tray position =
    (IsInSet group p × (tray ≡ there) × LiesAt places p here position) ⊎ ((¬ IsInSet group p) × LiesAt places p tray position)

lay_before_going : {Position : Type 0} (group here there : ℕ) (places : List (Placement Position)) (p tray : ℕ) (position : Position)
    → AllLieIn places here group → LiesAt (gone group there places) p tray position → LayBefore group here there places p tray position
lay_before_going {Position} group here there places p tray position lie lies =
    let was = changed_back (to_tray there) group p places (On tray position) lies in
    by_bit was.0 was.1 was.2 (decide_bit group p)
  where
    by_bit : (place : Placement Position) → slice_get places p ≡ Some place → changed_place (to_tray there) group p place ≡ On tray position → Decided (IsInSet group p)
        → LayBefore group here there places p tray position
    by_bit place found is (inl bit) =
        let lay = lie p bit in
        let same : place ≡ On here lay.0 = same_Some _ _ (sym found ∙ lay.1) in
        let goes : On there lay.0 ≡ On tray position = ap (to_tray there) (sym same) ∙ sym (is_changed (to_tray there) group p place bit) ∙ is in
        inl (bit, sym (same_tray there tray lay.0 position goes), lay.1 ∙ ap (λ x. Some (On here x)) (same_position there tray lay.0 position goes))
    by_bit place found is (inr out) = inr (out, found ∙ ap Some (sym (is_kept (to_tray there) group p place out) ∙ is))

pub lay_before : {Position : Type 0} (group here there : ℕ) (places : List (Placement Position)) (p tray : ℕ) (position : Position)
    → AllLieIn places here group → LiesAt (aside_places group here there places) p tray position → LayBefore group here there places p tray position
lay_before group here there places p tray position lie lies =
    lay_before_going group here there places p tray position lie
    (parted_back here p tray position (gone group there places) (parted_back there p tray position (parted here (gone group there places)) lies))

-- Where a piece lies afterwards

-- the place of a piece, by its place where the group has gone
lies_after : {Position : Type 0} (here there p : ℕ) (moved : List (Placement Position)) (place : Placement Position) → slice_get moved p ≡ Some place
    → slice_get (parted there (parted here moved)) p ≡ Some (parted_place there (parted here moved) (parted_place here moved place))
lies_after here there p moved place found = slice_get-parted there p (parted here moved) _ (slice_get-parted here p moved place found)

-- a piece that goes to the other tray
in_other : {Position : Type 0} (here there p : ℕ) (moved : List (Placement Position)) (position : Position) → here ≢ there → LiesAt moved p there position → count_in there moved ≢ 1
    → LiesAt (parted there (parted here moved)) p there position
in_other here there p moved position apart lies several =
    lies_after here there p moved (On there position) lies
    ∙ ap (λ x. Some (parted_place there (parted here moved) x)) (parted_place-other here there position moved (λ e. apart (sym e)))
    ∙ ap Some (parted_place-kept there (On there position) (parted here moved) (λ lone. several (sym (count_in-parted there here moved (λ e. apart (sym e))) ∙ lone)))

-- the only piece that goes there
apart_in_other : {Position : Type 0} (here there p : ℕ) (moved : List (Placement Position)) (position : Position) → here ≢ there → LiesAt moved p there position → count_in there moved ≡ 1
    → LiesApart (parted there (parted here moved)) p
apart_in_other here there p moved position apart lies lone =
    lies_after here there p moved (On there position) lies
    ∙ ap (λ x. Some (parted_place there (parted here moved) x)) (parted_place-other here there position moved (λ e. apart (sym e)))
    ∙ ap Some (parted_place-lone there position (parted here moved) (count_in-parted there here moved (λ e. apart (sym e)) ∙ lone))

-- a piece that stays in the tray
in_same : {Position : Type 0} (here there p : ℕ) (moved : List (Placement Position)) (position : Position) → here ≢ there → LiesAt moved p here position → count_in here moved ≢ 1
    → LiesAt (parted there (parted here moved)) p here position
in_same here there p moved position apart lies several =
    lies_after here there p moved (On here position) lies
    ∙ ap (λ x. Some (parted_place there (parted here moved) x)) (parted_place-kept here (On here position) moved several)
    ∙ ap Some (parted_place-other there here position (parted here moved) apart)

-- a piece that is apart then
apart_then : {Position : Type 0} (here there p : ℕ) (moved : List (Placement Position)) (place : Placement Position) → slice_get moved p ≡ Some place → parted_place here moved place ≡ Apart
    → LiesApart (parted there (parted here moved)) p
apart_then here there p moved place found is =
    lies_after here there p moved place found ∙ ap (λ x. Some (parted_place there (parted here moved) x)) is ∙ ap Some (parted_place-apart there (parted here moved))

-- a piece of a third tray
in_third : {Position : Type 0} (here there p tray : ℕ) (moved : List (Placement Position)) (position : Position) → tray ≢ here → tray ≢ there → LiesAt moved p tray position
    → LiesAt (parted there (parted here moved)) p tray position
in_third here there p tray moved position far near lies =
    lies_after here there p moved (On tray position) lies
    ∙ ap (λ x. Some (parted_place there (parted here moved) x)) (parted_place-other here tray position moved far)
    ∙ ap Some (parted_place-other there tray position (parted here moved) near)

-- The laws

-- a tray in which no piece lies is another than one in which one lies
two_trays : {Position : Type 0} (group here there : ℕ) (places : List (Placement Position)) → IsPartOfTray group places here → IsEmptyTray places there → here ≢ there
two_trays group here there places part empty e = empty part.1 (subst (λ t. LiesIn places part.1 t) e part.2)

-- the pieces of the other tray are then those of the group
of_group : {Position : Type 0} (group here there : ℕ) (places : List (Placement Position)) (p : ℕ)
    → AllLieIn places here group → IsEmptyTray places there → LiesIn (gone group there places) p there → IsInSet group p
of_group group here there places p lie empty lies = elim (lay_before_going group here there places p there lies.0 lie lies.1) [
  | inl was ↦ was.0
  | inr was ↦ absurd (empty p (lies.0, was.1))
]

-- and those of the tray that was left are its rest
of_rest : {Position : Type 0} (group here there : ℕ) (places : List (Placement Position)) (p : ℕ)
    → here ≢ there → AllLieIn places here group → LiesIn (gone group there places) p here → LiesIn places p here × (¬ IsInSet group p)
of_rest group here there places p apart lie lies = elim (lay_before_going group here there places p here lies.0 lie lies.1) [
  | inl was ↦ absurd (apart was.1)
  | inr was ↦ ((lies.0, was.1), was.0)
]

-- after the group went, no tray has exactly one piece, if none had
pub none_lone_aside : {Position : Type 0} (group here there : ℕ) (places : List (Placement Position)) → AllLieIn places here group → NoneLone places → NoneLone (aside_places group here there places)
none_lone_aside group here there places lie lone t one = elim (ℕ_discrete t there) [
  | yes e ↦ not_lone_parted there (parted here (gone group there places)) (subst (λ u. count_in u (aside_places group here there places) ≡ 1) e one)
  | no near ↦
      let still : count_in t (parted here (gone group there places)) ≡ 1 = sym (count_in-parted t there (parted here (gone group there places)) near) ∙ one in
      elim (ℕ_discrete t here) [
        | yes e ↦ not_lone_parted here (gone group there places) (subst (λ u. count_in u (parted here (gone group there places)) ≡ 1) e still)
        | no far ↦
            lone t
            (sym (count_in-third here there t places (gone group there places) far near (group_taken group here there places lie)) ∙ sym (count_in-parted t here (gone group there places) far) ∙ still)
      ]
]

pub group_goes_aside : {Position : Type 0} (group here there : ℕ) (places : List (Placement Position)) → CanGoAside group here there places
    → IsGoneAside group here there places (aside_places group here there places)
group_goes_aside group here there places can =
    let moved = gone group there places in
    let apart = two_trays group here there places can.part can.empty in
    record {
      as_many = length-aside_places group here there places;
      goes = λ p position bit several lies.
          let goes = lies_there_at group p here there position places bit lies in
          in_other here there p moved position apart goes
          (λ lone. several (bit, λ q also. one_where_lone there p q moved lone (position, goes) (lies_there group q here there places also (can.lies q also))));
      goes_apart = λ p only.
          let goes = lies_there group p here there places only.0 (can.lies p only.0) in
          apart_in_other here there p moved goes.0 apart goes.1
          (lone_where_one there p moved goes (λ q there_q. only.1 q (of_group group here there places q can.lies can.empty there_q)));
      stays = λ p position out several lies.
          let stays = lies_still_at (to_tray there) group p here position places out lies in
          in_same here there p moved position apart stays
          (λ lone. several (((position, lies), out), λ q also. one_where_lone here p q moved lone (position, stays) (lies_still (to_tray there) group q here places also.1 also.0)));
      left_apart = λ p only.
          let stays = lies_still (to_tray there) group p here places only.0.1 only.0.0 in
          apart_then here there p moved (On here stays.0) stays.1
          (parted_place-lone here stays.0 moved (lone_where_one here p moved stays (λ q here_q. only.1 q (of_rest group here there places q apart can.lies here_q))));
      elsewhere = λ p tray position far lies.
          in_third here there p tray moved position far (λ e. can.empty p (position, subst (λ t. LiesAt places p t position) e lies))
          (lies_still_at (to_tray there) group p tray position places
          (λ bit. let lay = can.lies p bit in far (same_tray tray here position lay.0 (same_Some _ _ (sym lies ∙ lay.1)))) lies);
      still_apart = λ p was. apart_then here there p moved Apart (apart_still group p there places was) (parted_place-apart here moved);
      none_lone = none_lone_aside group here there places can.lies;
    }
