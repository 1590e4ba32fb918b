-- What stays true of a bench at work, and what is true at its start.
use Rattle.std.proofs.Common.{◌≡◌, ◌≤◌, ℕ, zero, suc, List, length, ◌∙◌, sym, ap, subst, arith, true, false, pos, map, []}
use Rattle.std.specs.Prelude.{Some, None, replicate}
use Rattle.std.proofs.lemmas.List.{length-map, length-replicate}
use Rattle.std.proofs.lemmas.Simd.{splat_is_map}
use Rattle.burr_voxels.specs.declared.cell.Cell.{Cell}
use Rattle.burr_voxels.specs.declared.direction.Direction.{Direction}
use Rattle.burr_voxels.specs.Grid.{plus, along, origin}
use Rattle.burr_assembly.specs.Rules.Text.{Assembly, IsAssembly}
use Rattle.burr_assembly.specs.Rules.Homes.{home_of, homes_of}
use Rattle.burr_code.specs.declared.placement.Placement.{Placement}
use Rattle.burr_code.specs.declared.placement.Placement.TheVariants.{On}
use Rattle.burr_code.specs.Places.{AllLieIn, IsPartOfTray, IsEmptyTray, aside_places}
use Rattle.burr_state.specs.declared.effect.Motion.{Motion}
use Rattle.burr_state.specs.declared.effect.Mode.{Mode}
use Rattle.burr_state.specs.declared.effect.Mode.TheVariants.{Running}
use Rattle.burr_state.specs.Rules.Bench.{activation, Program, start, BenchState}
use Rattle.burr_state.specs.Rules.Space.{NoOverlapIn, NoOverlap, moved_places}
use Rattle.burr_state.specs.Views.Parts.{parts}
use Rattle.burr_state.specs.Views.Effects.{PiecesStay, NeverMoves, motion_made}
use Rattle.burr_state.specs.declared.effect.Trap.{Trap}
use Rattle.burr_state.specs.declared.effect.Effect.{Effect}
use Rattle.burr_state.specs.declared.effect.Effect.TheVariants as effects
use Rattle.std.specs.Prelude.{Result, Ok, Err, OnOk}
use Rattle.burr_state.specs.Views.StateViews.{at_start, standing}
use Rattle.burr_state.specs.Views.Benches.{Benched, benched, setup_of, GoesOn}
use Rattle.burr_state.proofs.Common.Reached.{disjoint_at_start, homes_are_disjoint}
use Rattle.burr_state.proofs.Common.Pieces.{no_overlap_moved, no_overlap_aside}
use Rattle.burr_state.proofs.Common.Trays.Shifts.{lies_after_shift, parts-shift, length-moved}
use Rattle.burr_code.proofs.Common.Counts.{length-aside_places}
use Rattle.burr_state.proofs.Common.Trays.Parts.{parts_at_most, parts_at_start, parts_after_aside, all_lie_in_nothing}
use Rattle.burr_bench.specs.Sound.{IsSound}

-- there are at most 32 parts
pub few_parts : (b : Benched) → IsSound b → parts b.state.places ≤ 32
few_parts b sound = let most = parts_at_most b.state.places in let few = sound.few in omega (arith, most, few)

-- a step that moves no piece
pub goes_on_still : (old new : Benched) → IsSound old → new.state.places ≡ old.state.places → GoesOn old new None
goes_on_still old new sound still = record {
  outs = let same = ap parts still in omega (arith, same);
  few = let few = few_parts old sound in let same = ap parts still in omega (arith, same, few);
}

-- an instruction that moves no piece makes no motion
pub goes_on_plain : (old new : Benched) (result : Result Effect Trap) → IsSound old → new.state.places ≡ old.state.places → NeverMoves result → OnOk result (GoesOn old new (motion_made result))
goes_on_plain old new (Ok (effects.Goes motion)) sound still none = rw none (goes_on_still old new sound still)
goes_on_plain old new (Ok (effects.Asks low high)) sound still none = goes_on_still old new sound still
goes_on_plain old new (Err trap) sound still none = tt

-- a unit makes no part more
pub goes_on_unit : (old new : Benched) (motion : Motion) (direction : Direction) → IsSound old → motion.out ≡ false
    → new.state.places ≡ moved_places old.state.grip direction old.state.places → GoesOn old new (Some motion)
goes_on_unit old new motion direction sound out places =
    let same : parts new.state.places ≡ parts old.state.places = ap parts places ∙ parts-shift (λ (o : Cell). plus o (along direction (pos 1))) old.state.grip 0 old.state.places in record {
      outs = rw out (let is = same in omega (arith, is));
      few = let few = few_parts old sound in omega (arith, same, few);
    }

-- an out makes one part more
pub goes_on_aside : (old new : Benched) (motion : Motion) (there : ℕ) → IsSound old → motion.out ≡ true
    → IsPartOfTray old.state.grip old.state.places old.state.tray → IsEmptyTray old.state.places there
    → new.state.places ≡ aside_places old.state.grip old.state.tray there old.state.places → GoesOn old new (Some motion)
goes_on_aside old new motion there sound out part empty places = record {
  outs = rw (places, out) (parts_after_aside old.state.grip old.state.tray there old.state.places sound.here part empty);
  few =
      let most = parts_at_most new.state.places in
      let same : length new.state.places ≡ length old.state.places = ap length places ∙ length-aside_places old.state.grip old.state.tray there old.state.places in
      let few = sound.few in
      omega (arith, most, same, few);
}

-- a bench at work is sound after each step that leaves the grip in the current tray and no two pieces of a tray overlapping
sound_after : (old new : Benched) → IsSound old → new.assembly ≡ old.assembly → length new.state.places ≡ length old.state.places
    → AllLieIn new.state.places new.state.tray new.state.grip → NoOverlap (homes_of old.assembly) new.state.places → IsSound new
sound_after old new sound assembly same here apart = record {
  as_many = same ∙ sound.as_many ∙ ap (λ a. length a.pieces) (sym assembly);
  few = let few = sound.few in omega (arith, same, few);
  here = here;
  whole = subst IsAssembly (sym assembly) sound.whole;
  apart = subst (λ (a : Assembly). NoOverlap (homes_of a) new.state.places) (sym assembly) apart;
}

-- where none of its pieces moved
pub sound_staying : (old new : Benched) → IsSound old → new.assembly ≡ old.assembly → PiecesStay old.state new.state → IsSound new
sound_staying old new sound assembly stays =
    sound_after old new sound assembly (ap length stays.places) stays.here
    (subst (λ (ps : List (Placement Cell)). NoOverlap (homes_of old.assembly) ps) (sym stays.places) sound.apart)

-- where its mode changed
pub sound_still : (old new : Benched) (mode : Mode) → IsSound old → new.assembly ≡ old.assembly → new.state ≡ record old.state { mode = mode } → IsSound new
sound_still old new mode sound assembly still =
    sound_staying old new sound assembly (record { places = ap (λ (s : BenchState). s.places) still; here = rw still sound.here })

-- after a unit
pub sound_unit : (old new : Benched) (direction : Direction) → IsSound old → NoOverlapIn (homes_of old.assembly) (moved_places old.state.grip direction old.state.places) old.state.tray → new.assembly ≡ old.assembly
    → new.state.places ≡ moved_places old.state.grip direction old.state.places → new.state.tray ≡ old.state.tray → new.state.grip ≡ old.state.grip → IsSound new
sound_unit old new direction sound none assembly places tray grip =
    sound_after old new sound assembly (ap length places ∙ length-moved old.state.grip direction old.state.places)
    (rw (places, tray, grip) (λ p bit. lies_after_shift (λ (o : Cell). plus o (along direction (pos 1))) old.state.grip p old.state.tray old.state.places (sound.here p bit)))
    (subst (λ (ps : List (Placement Cell)). NoOverlap (homes_of old.assembly) ps) (sym places)
    (no_overlap_moved (homes_of old.assembly) old.state.places old.state.tray old.state.grip direction sound.apart sound.here none))

-- after an `aside`
pub sound_aside : (old new : Benched) (there : ℕ) → IsSound old → IsEmptyTray old.state.places there → new.assembly ≡ old.assembly → new.state.places ≡ aside_places old.state.grip old.state.tray there old.state.places → new.state.grip ≡ 0 → IsSound new
sound_aside old new there sound empty assembly places grip =
    sound_after old new sound assembly (ap length places ∙ length-aside_places old.state.grip old.state.tray there old.state.places)
    (rw grip (all_lie_in_nothing new.state.places new.state.tray))
    (subst (λ (ps : List (Placement Cell)). NoOverlap (homes_of old.assembly) ps) (sym places)
    (no_overlap_aside (homes_of old.assembly) old.state.places old.state.tray there old.state.grip sound.apart sound.here empty))

pub start_parts : {Position : Type 0} (n : ℕ) (position : Position) → 2 ≤ n → parts (replicate n (On 0 position)) ≡ 1
start_parts zero position several = absurd (omega arith)
start_parts (suc n) position several = parts_at_start n position

-- the places at the start, one for each home
places_at_start : (a : Assembly) (count : ℕ) → count ≡ length a.pieces → replicate count (On 0 origin) ≡ map (λ (_ : List Cell). On 0 origin) (homes_of a)
places_at_start a count is = splat_is_map (homes_of a) count (On 0 origin) (length-map a.pieces (home_of a.shapes) ∙ sym is)

-- the state of a bench that starts is the start of what it runs
pub is_start : (a : Assembly) (program : Program) (count : ℕ) → count ≡ length a.pieces → at_start count ≡ start (setup_of (benched a program (at_start count)))
is_start a program count is = ap (λ (places : List (Placement Cell)). standing places 0 0 (activation 0 0 (replicate 8 None) []) [] 0 Running) (places_at_start a count is)

-- a bench that starts is sound
pub sound_start : (a : Assembly) (program : Program) (count : ℕ) → IsAssembly a → count ≡ length a.pieces → IsSound (benched a program (at_start count))
sound_start a program count whole is = record {
  as_many = length-replicate count (On 0 origin) ∙ is;
  few = let most = whole.pieces.1 in let as_many : length (replicate count (On 0 origin)) ≡ count = length-replicate count (On 0 origin) in omega (arith, most, as_many, is);
  here = all_lie_in_nothing (replicate count (On 0 origin)) 0;
  whole = whole;
  apart = rw (places_at_start a count is) (disjoint_at_start (homes_of a) (homes_are_disjoint a whole).0);
}
