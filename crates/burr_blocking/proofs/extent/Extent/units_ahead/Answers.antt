use Rattle.std.proofs.Common.{◌≡◌, rules, to_z-of_z, w32, FitsSigned, ap, subst, sym, ◌∙◌, arith}
use Rattle.std.proofs.lemmas.Int.{ints, clamps}
use Rattle.burr_voxels.specs.Grid.{minus}
use Rattle.burr_voxels.specs.Near.{IsWithin}
use Rattle.burr_blocking.specs.Views.Corners.{units_of}
use Rattle.burr_blocking.proofs.Reaches.{units_within, farther_within, minus_within, greatest_within, first_units, last_units, last_few, one_first, units_to}
use Rattle.burr_blocking.proofs.extent.Extent.units_ahead.Goals as goal

pub units_along-to_least-requires : goal.units_along-to_least-requires
units_along-to_least-requires c =
    let e = c.args.self in
    subst (IsWithin 1016) (sym c.sub.ensures) (farther_within 986 1016 _ (omega arith) (minus_within 158 828 e.least c.args.from e.near c.requires))

pub units_along-to_greatest-requires : goal.units_along-to_greatest-requires
units_along-to_greatest-requires c =
    let e = c.args.self in
    subst (IsWithin 1016) (sym c.sub-2.ensures) (minus_within 188 828 e.greatest c.args.from (greatest_within 158 30 e.least e.greatest e.near e.small) c.requires)

pub returns-clause-within : goal.returns-clause-within
returns-clause-within c = λ k least inside.
    let d = c.args.direction in
    let units = units_within d c.args.self.least c.args.self.greatest c.args.from k inside in
    let to_least : c.units_along-to_least.result ≡ units_of d (minus c.args.self.least c.args.from) = c.units_along-to_least.ensures ∙ ap (units_of d) c.sub.ensures in
    let to_greatest : c.units_along-to_greatest.result ≡ units_of d (minus c.args.self.greatest c.args.from) = c.units_along-to_greatest.ensures ∙ ap (units_of d) c.sub-2.ensures in
    let fits_least : FitsSigned w32 c.units_along-to_least.result = search rules in
    let fits_greatest : FitsSigned w32 c.units_along-to_greatest.result = search rules in
    let fits_min : FitsSigned w32 c.min.result = search rules in
    let fits_max : FitsSigned w32 c.max.result = search rules in
    let nearer = rw (to_least, to_greatest) at (simp to_z-of_z at c.min.ensures.value) in
    let farther = rw (to_least, to_greatest) at (simp to_z-of_z at c.max.ensures.value) in (
      first_units (units_of d (minus c.args.self.least c.args.from)) (units_of d (minus c.args.self.greatest c.args.from)) c.min.result c.at_least_one-first.result k least nearer units.0 (simp to_z-of_z at c.at_least_one-first.ensures),
      last_units (units_of d (minus c.args.self.least c.args.from)) (units_of d (minus c.args.self.greatest c.args.from)) c.max.result c.at_least_one-last.result k farther units.1 (simp to_z-of_z at c.at_least_one-last.ensures),
    )

pub at_least_one-first-requires : goal.at_least_one-first-requires
at_least_one-first-requires c =
    let e = c.args.self in
    let few = units_to c.args.direction 158 e.least c.args.from c.sub.result c.units_along-to_least.result c.units_along-to_least.ensures c.sub.ensures e.near c.requires (omega arith) in
    omega (arith, ints, c.min.ensures.self_bound, few.below)

pub at_least_one-last-requires : goal.at_least_one-last-requires
at_least_one-last-requires c =
    let e = c.args.self in
    let few = units_to c.args.direction 158 e.least c.args.from c.sub.result c.units_along-to_least.result c.units_along-to_least.ensures c.sub.ensures e.near c.requires (omega arith) in
    let also = units_to c.args.direction 188 e.greatest c.args.from c.sub-2.result c.units_along-to_greatest.result c.units_along-to_greatest.ensures c.sub-2.ensures (greatest_within 158 30 e.least e.greatest e.near e.small) c.requires (omega arith) in
    omega (arith, ints, clamps, c.max.ensures.value, few.below, also.below)

pub returns-clause-few : goal.returns-clause-few
returns-clause-few c =
    let e = c.args.self in
    let few = units_to c.args.direction 158 e.least c.args.from c.sub.result c.units_along-to_least.result c.units_along-to_least.ensures c.sub.ensures e.near c.requires (omega arith) in
    let also = units_to c.args.direction 188 e.greatest c.args.from c.sub-2.result c.units_along-to_greatest.result c.units_along-to_greatest.ensures c.sub-2.ensures (greatest_within 158 30 e.least e.greatest e.near e.small) c.requires (omega arith) in
    let fits_least : FitsSigned w32 c.units_along-to_least.result = search rules in
    let fits_greatest : FitsSigned w32 c.units_along-to_greatest.result = search rules in
    let fits_max : FitsSigned w32 c.max.result = search rules in
    last_few _ _ c.max.result c.at_least_one-last.result (simp to_z-of_z at c.max.ensures.value) few.below also.below (simp to_z-of_z at c.at_least_one-last.ensures)

pub returns-clause-first : goal.returns-clause-first
returns-clause-first c =
    let fits_min : FitsSigned w32 c.min.result = search rules in
    one_first c.min.result c.at_least_one-first.result (simp to_z-of_z at c.at_least_one-first.ensures)
