use Rattle.std.proofs.Common.{◌∙◌, refl, length}
use Rattle.burr_voxels.specs.Grid.{origin}
use Rattle.burr_bench.proofs.Stepping.Sound.{start_parts, is_start, sound_start}
use Rattle.burr_bench.proofs.checked.Checked.of.Goals as goal

pub invariant_of-result : goal.invariant_of-result
invariant_of-result g c =
    let a = g.B.Blocking.subject c.args.blocking.now in
    rw c.requires.start (sound_start a c.args.bench.program (length a.pieces) c.requires.whole refl)

pub returns-clause-start : goal.returns-clause-start
returns-clause-start g c =
    let a = g.B.Blocking.subject c.args.blocking.now in record {
      state = c.requires.start ∙ is_start a c.args.bench.program (length a.pieces) refl;
      parts = rw c.requires.start (start_parts (length a.pieces) origin c.requires.whole.pieces.0);
    }
