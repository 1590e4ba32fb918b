-- A displacement, turned round by a product.
use Rattle.std.proofs.Common.{rules, ◌≡◌, ◌∙◌, ℤ, pos, ◌-ℤ◌, ◌*ℤ◌, ◌≤ℤ◌, Bool, true, false, refl, sym, ap, subst, arith, FitsSigned, to_z, of_z, to_z-of_z, w32}
use Rattle.std.specs.Prelude.{neg_ℤ}
use Rattle.std.proofs.lemmas.Int.{ints}
use Rattle.burr_voxels.specs.declared.cell.Cell.{Cell}
use Rattle.burr_voxels.specs.Grid.{at}
use Rattle.burr_voxels.specs.Near.{IsWithin}
use Rattle.burr_voxels.proofs.Common.Ahead.{same_cell}
use Rattle.burr_blocking.specs.Views.Translates.{sign_of}
use Rattle.burr_blocking.specs.Views.Triangles.{turned_by}
use Rattle.burr_blocking.proofs.Reaches.{back_within, plus_within}
use Rattle.burr_blocking.proofs.triangle.translate.Pair.way.Goals as goal

abbrev read : ℤ → ℤ
read n = to_z w32 (of_z w32 n)

read_is : (n : ℤ) → neg_ℤ (pos 828) ≤ℤ n → n ≤ℤ pos 828 → read n ≡ n
read_is n low high = let fits : FitsSigned w32 n = search rules in to_z-of_z fits

sign_read : (turned : Bool) → read (sign_of turned) ≡ sign_of turned
sign_read false = refl
sign_read true = refl

-- a coordinate as it is, or turned round
abbrev coordinate : Bool → ℤ → ℤ
coordinate false n = n
coordinate true n = pos 0 -ℤ n

by_sign : (turned : Bool) (n r : ℤ) → neg_ℤ (pos 828) ≤ℤ n → n ≤ℤ pos 828 → r ≡ n *ℤ sign_of turned → read r ≡ coordinate turned n
by_sign false n r low high is = let same : r ≡ n = omega (arith, ints, is) in ap read same ∙ read_is n low high
by_sign true n r low high is =
    let same : r ≡ pos 0 -ℤ n = omega (arith, ints, is) in
    ap read same ∙ read_is (pos 0 -ℤ n) (omega (arith, ints, high)) (omega (arith, ints, low))

signed_is : (turned : Bool) (n r sign : ℤ) → sign ≡ sign_of turned → neg_ℤ (pos 828) ≤ℤ n → n ≤ℤ pos 828 → r ≡ read n *ℤ read sign
    → read r ≡ coordinate turned n
signed_is turned n r sign s low high e =
    by_sign turned n r low high
    (e ∙ ap (λ m. m *ℤ read sign) (read_is n low high) ∙ ap (λ x. n *ℤ read x) s ∙ ap (λ x. n *ℤ x) (sign_read turned))

turned_is : (turned : Bool) (way : Cell) (x y z : ℤ) → x ≡ coordinate turned way.x → y ≡ coordinate turned way.y → z ≡ coordinate turned way.z
    → at x y z ≡ turned_by turned way
turned_is false way x y z p q r = same_cell (at x y z) way p q r
turned_is true way x y z p q r = same_cell (at x y z) (turned_by true way) p q r

turned_within : (turned : Bool) (way : Cell) → IsWithin 828 way → IsWithin 828 (turned_by turned way)
turned_within false way near = near
turned_within true way near = back_within 828 way near

pub signed-requires-3-clause-from : goal.signed-requires-3-clause-from
signed-requires-3-clause-from c =
    let near = subst (IsWithin 828) (sym c.add-way.ensures) (plus_within 316 512 c.args.self.now.shift c.args.displacement c.args.self.now.near c.requires) in
    subst (λ n. neg_ℤ (pos 828) ≤ℤ n) (sym (read_is c.add-way.result.z near.z_above near.z_below)) near.z_above

pub signed-requires-3-clause-to : goal.signed-requires-3-clause-to
signed-requires-3-clause-to c =
    let near = subst (IsWithin 828) (sym c.add-way.ensures) (plus_within 316 512 c.args.self.now.shift c.args.displacement c.args.self.now.near c.requires) in
    subst (λ n. n ≤ℤ pos 828) (sym (read_is c.add-way.result.z near.z_above near.z_below)) near.z_below

pub returns-clause-value : goal.returns-clause-value
returns-clause-value c =
    let pair = c.args.self.now in
    let way = c.add-way.result in
    let near = subst (IsWithin 828) (sym c.add-way.ensures) (plus_within 316 512 pair.shift c.args.displacement pair.near c.requires) in
    turned_is pair.is_turned way _ _ _ (signed_is pair.is_turned way.x _ pair.sign pair.signed near.x_above near.x_below c.signed.ensures)
    (signed_is pair.is_turned way.y _ pair.sign pair.signed near.y_above near.y_below c.signed-2.ensures)
    (signed_is pair.is_turned way.z _ pair.sign pair.signed near.z_above near.z_below c.signed-3.ensures)
    ∙ ap (turned_by pair.is_turned) c.add-way.ensures

pub returns-clause-near : goal.returns-clause-near
returns-clause-near c =
    let pair = c.args.self.now in
    subst (IsWithin 828) (sym (returns-clause-value c))
    (turned_within pair.is_turned _ (plus_within 316 512 pair.shift c.args.displacement pair.near c.requires))
