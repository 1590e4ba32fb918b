-- Which assembly a plan is for.
use Rattle.std.specs.Prelude.{◌≡◌, length}
use Rattle.burr_container.specs.Rules.Plans.{Plan}
use Rattle.burr_assembly.specs.Rules.Text.{Assembly}

abbrev pub FitsAssembly : Plan → Assembly → Type 0
FitsAssembly plan assembly =
    (plan.name ≡ assembly.name) × (plan.pieces ≡ length assembly.pieces)
