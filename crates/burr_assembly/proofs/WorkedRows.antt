-- Worked rows of the definitions.
use Rattle.std.proofs.Common.{◌≡◌, [], ◌∷◌, codes, refl, pos}
use Rattle.std.specs.Fmt.{digits}
use Rattle.burr_voxels.specs.Grid.{at}
use Rattle.burr_voxels.specs.declared.direction.Direction.TheVariants.{PlusX, PlusY, MinusY, PlusZ}
use Rattle.burr_assembly.specs.Rules.Text.{Drawing, Assembly, Turn, text_of, drawn_cells, drawn_sides, home_cells}
use Rattle.burr_assembly.specs.Rules.PieceNames.{name_at}

abbrev upright : Turn
upright = record { x = PlusX; y = PlusY; z = PlusZ }

abbrev cube : Drawing
cube = record { name = codes "cube"; layers = ((codes "#" ∷ []) ∷ []) }

abbrev duo : Assembly
duo = record {
  name = codes "duo";
  shapes = cube ∷ [];
  pieces =
      record { name = codes "A"; shape = codes "cube"; turn = upright; position = at (pos 0) (pos 0) (pos 0) }
      ∷ record { name = codes "B"; shape = codes "cube"; turn = upright; position = at (pos 1) (pos 0) (pos 0) }
      ∷ [];
}

duo_text : text_of duo ≡ codes "assembly duo\nshape cube\nlayer\n#\nend\npiece A cube +x+y+z 0 0 0\npiece B cube +x+y+z 1 0 0\n"
unfolding digits
duo_text = refl

-- the shape with the one layer `##`, `#.`, turned and moved
ell_cells : home_cells (record { x = MinusY; y = PlusX; z = PlusZ }) (at (pos 5) (pos 5) (pos 0)) (drawn_cells (((codes "##") ∷ (codes "#.") ∷ []) ∷ []))
    ≡ at (pos 5) (pos 5) (pos 0) ∷ at (pos 5) (pos 4) (pos 0) ∷ at (pos 6) (pos 5) (pos 0) ∷ []
ell_cells = refl

-- a layer of three rows of two places
sides : drawn_sides (((codes "##") ∷ (codes "#.") ∷ (codes "..") ∷ []) ∷ []) ≡ at (pos 2) (pos 3) (pos 1)
sides = refl

-- the second piece of the duo, and the first after lines that are not of a piece's form
second_name : name_at (text_of duo) 1 ≡ codes "B"
unfolding digits
second_name = refl

first_name : name_at (codes "piece\npiece A a 0\npiece B b +x 0 -0 0\npiece C c +x 0 -10 0\npiece D") 0 ≡ codes "C"
first_name = refl
