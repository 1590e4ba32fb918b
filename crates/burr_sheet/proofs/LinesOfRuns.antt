-- The move lines of each run are those of its motions.
use Rattle.std.proofs.Common.{ℕ, All, refl, sym, subst, ◌∙◌, arith, inl}
use Rattle.std.proofs.lemmas.List.{length-map}
use Rattle.burr_assembly.specs.Rules.Text.{Piece}
use Rattle.burr_assembly.specs.Rules.Homes.{home_of, homes_of}
use Rattle.burr_state.specs.Rules.Bench.{Setup, running, start}
use Rattle.burr_state.specs.Rules.Motions.{IsMotionOf}
use Rattle.burr_state.proofs.Common.Motions.{motions_of_run, motions_are_within_budget}
use Rattle.burr_sheet.specs.Laws.SheetLaws.{LinesOfRunsAreOfMotions}

pub lines_of_runs_are_of_motions : LinesOfRunsAreOfMotions
lines_of_runs_are_of_motions a program answers motions steps closing small run =
    let setup : Setup = running (homes_of a) program in
    let as_many = length-map a.pieces (home_of a.shapes) ∙ sym (length-map a.pieces (λ (p : Piece). p.name)) in
    let counted = motions_are_within_budget setup program.budget (start setup) answers motions steps closing (omega arith) (record { mode = inl refl; within = omega arith }) run in
    record {
      lines = refl;
      each = subst (λ (pieces : ℕ). All (IsMotionOf pieces) motions) as_many (motions_of_run setup program.budget answers motions steps closing run);
      few = omega (arith, counted.0, counted.1);
    }
