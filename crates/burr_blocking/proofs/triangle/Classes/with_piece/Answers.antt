use Rattle.std.proofs.Common.{◌≡◌, ◌<◌, ◌∙◌, ap, length, subst, arith}
use Rattle.std.specs.Prelude.{List, vec_len}
use Rattle.std.proofs.lemmas.List.{length-map}
use Rattle.burr_voxels.specs.declared.cell.Cell.{Cell}
use Rattle.burr_assembly.specs.Rules.Homes.{homes_of, home_of}
use Rattle.burr_blocking.specs.declared.triangle.Classes.{Classes}
use Rattle.burr_blocking.specs.Views.Classes.{IsOfClass}
use Rattle.burr_blocking.proofs.Classed.{one_translate, one_class}
use Rattle.burr_blocking.proofs.Triangles.{home_is}
use Rattle.burr_blocking.proofs.triangle.Classes.with_piece.Goals.{in-Some, in-None+in_ok-push-in-None}
use Rattle.burr_blocking.proofs.triangle.Classes.with_piece.Goals as goal

pub returns : goal.returns
returns c =
    let a = c.args.assembly.now in
    let homes = homes_of a in
    let old : Classes = c.args.self in
    let new : Classes = record { representatives = c.match-find.self.representatives; translates = c.push-2.new.self } in
    elim c.match-find.branch [
      | in-Some w ↦
          one_translate homes c.args.piece old new _ w.in-Some.translate _ c.requires.classes
          (subst (λ (cs : List Cell). IsOfClass homes old.representatives.items cs w.in-Some.translate) (home_is homes c.args.piece c.cells.result.now c.cells.ensures.home) w.in-Some.ensures)
          (ap (λ (k : Classes). k.representatives.items) w.self-is) (ap (λ (k : Classes). k.translates.items) w.self-is) c.in_ok-push.ensures.items
          (ap (λ t. t.0) w.translate-is) (ap (λ t. t.1.0) w.translate-is)
      | in-None+in_ok-push-in-None w ↦
          let lt : c.args.piece < length homes = omega (arith, c.requires.piece, length-map a.pieces (home_of a.shapes)) in
          let whole : vec_len old.representatives ≡ length old.representatives.items = omega (arith, old.representatives.ok.0) in
          one_class homes c.args.piece old new _ _ c.requires.classes lt (ap (λ (k : Classes). k.representatives.items) w.self-is ∙ w.in_ok-push-in-None.ensures.items)
          (ap (λ (k : Classes). k.translates.items) w.self-is) c.in_ok-push.ensures.items
          (ap (λ t. t.0) w.translate-is ∙ w.len-class.ensures ∙ whole) (ap (λ t. t.1.0) w.translate-is)
    ]
