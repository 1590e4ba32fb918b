-- A bench that stands for a state stands for each frame at which the state arrives.
use Rattle.std.proofs.Common.{◌≡◌, ℕ, zero, suc, List, [], ◌∷◌, ◌++◌, length, Option, Some, None, refl, sym, subst, ap, ◌∙◌, arith, append_assoc, length-append}
use Rattle.std.specs.Prelude.{ℤ, get_or}
use Rattle.std.proofs.lemmas.Option.{none-some, same_Some}
use Rattle.burr_code.proofs.Common.Labels.{with_first_is}
use Rattle.burr_forms.specs.Rules.Forms.{Form, Point, value, values, symbol}
use Rattle.burr_container.specs.Rules.Plans.{Frame}
use Rattle.burr_frames.specs.Rules.States.{AbstractState, state_of, numbered}
use Rattle.burr_frames.specs.Rules.Arrival.{Meets, live_forms}
use Rattle.burr_frames.proofs.Common.Over.{numbered_length}
use Rattle.burr_state.specs.Rules.Bench.{BenchState}
use Rattle.burr_bench.specs.Soundness.Standing.{Stands}
use Rattle.burr_bench.proofs.Soundness.Values.{value_symbol}

-- the value of the symbol of a live slot is that of the form in the slot
live_values : (ranges : List (Option (ℤ × ℤ))) (forms : List (Option Form)) (fs : List Form)
    (point before : Point) (n : ℕ) → length before ≡ n → live_forms ranges forms ≡ Some fs
    → (j : ℕ) (g : Form) → get_or (numbered n ranges) j None ≡ Some g → (h : Form)
    × (get_or forms j None ≡ Some h) × (value (before ++ values point fs) g ≡ value point h)
live_values [] forms fs point before n len live j g e = absurd (none-some _ e)
live_values (None ∷ ranges) [] fs point before n len live zero g e = absurd (none-some _ e)
live_values (None ∷ ranges) [] fs point before n len live (suc j) g e =
    live_values ranges [] fs point before n len live j g e
live_values (None ∷ ranges) (form ∷ forms) fs point before n len live zero g e =
    absurd (none-some _ e)
live_values (None ∷ ranges) (form ∷ forms) fs point before n len live (suc j) g e =
    live_values ranges forms fs point before n len live j g e
live_values (Some range ∷ ranges) [] fs point before n len live j g e = absurd (none-some _ live)
live_values (Some range ∷ ranges) (form ∷ forms) fs point before n len live zero g e =
    let found = with_first_is form (live_forms ranges forms) fs live in
    let v : value (before ++ value point found.0 ∷ values point found.1)
    (symbol n) ≡ value point found.0 =
    value_symbol n before (value point found.0) (values point found.1) len in (
      found.0,
      found.2,
      subst (λ h. value (before ++ values point fs) h ≡ value point found.0)
          (same_Some _ _ e)
          (subst (λ xs. value (before ++ values point xs) (symbol n) ≡ value point found.0)
          found.4 v),
    )
live_values (Some range ∷ ranges) (form ∷ forms) fs point before n len live (suc j) g e =
    let found = with_first_is form (live_forms ranges forms) fs live in
    let x : ℤ = value point found.0 in
    let longer : length (before ++ x ∷ []) ≡ suc n =
    length-append before (x ∷ []) ∙ (let l = len in omega arith) in
    let ih =
    live_values ranges forms found.1 point (before ++ x ∷ []) (suc n) longer found.3 j g e in (
      ih.0,
      ih.1,
      subst (λ xs. value (before ++ values point xs) g ≡ value point ih.0) found.4
          (ap (λ p. value p g) (sym (append_assoc before (x ∷ []) (values point found.1))) ∙ ih.2),
    )

pub stands_at_frame : (s : AbstractState) (f : Frame) (point : Point) (b : BenchState)
    (a : Meets s f) → length f.slots ≡ length s.slots → Stands s point b
    → Stands (state_of f) (values point a.forms) b
stands_at_frame s f point b a as_many st =
    let agrees = a.agrees point st.running.is_point in
    record {
      running = record {
        is_point = agrees.is_point;
        slots_known =
            λ j g e. let l =
            live_values f.slots s.slots a.forms point [] 0 refl a.known j g
            e in st.running.slots_known j l.0 l.1 ∙ ap Some (sym l.2);
        slots_as_many = st.running.slots_as_many ∙ sym as_many ∙ sym (numbered_length 0 f.slots);
        operands_are = st.running.operands_are ∙ agrees.operands;
      };
      lie = record {
        places = st.lie.places ∙ agrees.places;
        tray = st.lie.tray ∙ a.alike.tray;
        grip = st.lie.grip ∙ a.alike.grip;
      };
    }
