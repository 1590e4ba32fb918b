-- Whether bytes are the texts of a position, the name of a turn, a line of some form.
use Rattle.std.proofs.Common.{◌≡◌, ℕ, ◌<◌, ◌≤◌, List, [], ◌∷◌, ◌++◌, codes, slice_index, ℤ, pos, negsuc, neg_ℤ, ◌≤ℤ◌, ◌⊎◌, inl, inr, refl, ap, sym, ◌∙◌, subst, arith}
use Rattle.std.specs.Fmt.{signed_decimal}
use Rattle.std.specs.List.{join_with_byte}
use Rattle.std.proofs.lemmas.Int.{ints}
use Rattle.burr_voxels.specs.declared.cell.Cell.{Cell}
use Rattle.burr_voxels.specs.declared.direction.Direction.{Direction}
use Rattle.burr_voxels.specs.declared.direction.Direction.TheVariants.{PlusX, MinusX, PlusY, MinusY, PlusZ, MinusZ}
use Rattle.burr_voxels.specs.Grid.{at, along}
use Rattle.burr_voxels.specs.Turns.{determinant}
use Rattle.burr_assembly.specs.Rules.Text.{IsCoordinate, Turn, IsTurn, IsMark, IsPositionText, turn_name}
use Rattle.burr_assembly.specs.Rules.Lines.{LineForm, PieceWords, AssemblyLine, ShapeLine, LayerLine, RowLine, EndLine, PieceLine, IsMarks, IsPieceWords, IsLine, piece_words_text}
use Rattle.burr_text.specs.Words.{IsWord}
use Rattle.burr_text.specs.Numbers.{IsCount, IsNumber}
use Rattle.burr_text.proofs.Common.Decisions.{Decided, decided_like, decided_and, decided_and_three, decided_or, decided_not, decide_same, decide_at_most, decide_same_whole, decide_same_bytes, decide_empty, decide_all, decide_some_below, decide_parts}

-- whether some direction is so
decide_direction : (P : Direction → Type 0) → ((d : Direction) → Decided (P d)) → Decided ((d : Direction) × P d)
decide_direction P each =
    decided_like to (λ t. from t.0 t.1) (decided_or (each PlusX) (decided_or (each MinusX) (decided_or (each PlusY) (decided_or (each MinusY) (decided_or (each PlusZ) (each MinusZ))))))
  where
    to : P PlusX ⊎ P MinusX ⊎ P PlusY ⊎ P MinusY ⊎ P PlusZ ⊎ P MinusZ → (d : Direction) × P d
    to (inl p) = (PlusX, p)
    to (inr (inl p)) = (MinusX, p)
    to (inr (inr (inl p))) = (PlusY, p)
    to (inr (inr (inr (inl p)))) = (MinusY, p)
    to (inr (inr (inr (inr (inl p))))) = (PlusZ, p)
    to (inr (inr (inr (inr (inr p))))) = (MinusZ, p)

    from : (d : Direction) → P d → P PlusX ⊎ P MinusX ⊎ P PlusY ⊎ P MinusY ⊎ P PlusZ ⊎ P MinusZ
    from PlusX p = inl p
    from MinusX p = inr (inl p)
    from PlusY p = inr (inr (inl p))
    from MinusY p = inr (inr (inr (inl p)))
    from PlusZ p = inr (inr (inr (inr (inl p))))
    from MinusZ p = inr (inr (inr (inr (inr p))))

-- whether some turn is so
decide_some_turn : (P : Turn → Type 0) → ((t : Turn) → Decided (P t)) → Decided ((t : Turn) × P t)
decide_some_turn P each =
    decided_like (λ s. (record { x = s.0; y = s.1.0; z = s.1.1.0 }, s.1.1.1)) (λ s. (s.0.x, (s.0.y, (s.0.z, s.1)))) (decide_direction (λ x. (y : Direction) × ((z : Direction) × P (record { x = x; y = y; z = z }))) (λ x. decide_direction (λ y. (z : Direction) × P (record { x = x; y = y; z = z })) (λ y. decide_direction (λ z. P (record { x = x; y = y; z = z })) (λ z. each (record { x = x; y = y; z = z })))))

-- whether the three images are those of a turn
decide_turn : (t : Turn) → Decided (IsTurn t)
decide_turn t = decide_same_whole (determinant (along t.x (pos 1)) (along t.y (pos 1)) (along t.z (pos 1))) (pos 1)

-- the bytes are the name of this turn
abbrev pub IsNameOf : List ℕ → Turn → Type 0
IsNameOf bytes t = IsTurn t × (bytes ≡ turn_name t)

-- whether bytes are the name of a turn
pub decide_turn_name : (bytes : List ℕ) → Decided ((t : Turn) × IsNameOf bytes t)
decide_turn_name bytes = decide_some_turn (IsNameOf bytes) (λ t. decided_and (decide_turn t) (decide_same_bytes bytes (turn_name t)))

-- whether bytes are this byte and a rest that is so
decide_after : (c : ℕ) (Q : List ℕ → Type 0) → ((s : List ℕ) → Decided (Q s)) → (bytes : List ℕ) → Decided ((rest : List ℕ) × Q rest × (bytes ≡ c ∷ rest))
decide_after c Q each [] = inr (λ t. empty t.0 t.2)
  where
    empty : (s : List ℕ) → [] ≡ c ∷ s → ⊥
    empty s e = cc
decide_after c Q each (b ∷ bytes) = decided_like (λ t. (bytes, t.1, to t.0)) (λ t. from t.0 t.1 t.2) (decided_and (decide_same b c) (each bytes))
  where
    to : b ≡ c → b ∷ bytes ≡ c ∷ bytes
    to e = cc

    from : (rest : List ℕ) → Q rest → b ∷ bytes ≡ c ∷ rest → (b ≡ c) × Q bytes
    from rest q e =
        let first : b ≡ c = cc in
        let same : bytes ≡ rest = cc in
        (first, subst Q (sym same) q)

-- whether bytes are a count
decide_count : (bytes : List ℕ) → Decided (IsCount bytes)
decide_count bytes =
    decided_like (λ t. record { first = t.0; digits = t.1 }) (λ h. (h.first, h.digits)) (decided_and (decide_at_most 49 (slice_index bytes 0)) (decide_all (λ b. (48 ≤ b) × (b ≤ 57)) (λ b. decided_and (decide_at_most 48 b) (decide_at_most b 57)) bytes))

-- whether bytes are a number
decide_number : (bytes : List ℕ) → Decided (IsNumber bytes)
decide_number bytes =
    decided_or (decide_same_bytes bytes (codes "0")) (decided_or (decide_count bytes) (decided_like (λ t. (t.0, t.2, t.1)) (λ t. (t.0, t.2, t.1)) (decide_after 45 IsCount decide_count bytes)))

-- whether a coordinate is so
decide_some_coordinate : (P : ℤ → Type 0) → ((z : ℤ) → Decided (P z)) → Decided ((z : ℤ) × IsCoordinate z × P z)
decide_some_coordinate P each =
    decided_like to (λ t. from t.0 t.1.low t.1.high t.2) (decided_or (decide_some_below (λ k. P (pos k)) (λ k. each (pos k)) 65) (decide_some_below (λ k. P (negsuc k)) (λ k. each (negsuc k)) 64))
  where
    above : (k : ℕ) → k < 65 → IsCoordinate (pos k)
    above k h = record { low = omega (arith, ints); high = omega (arith, ints) }

    below : (k : ℕ) → k < 64 → IsCoordinate (negsuc k)
    below k h = record { low = omega (arith, ints); high = omega (arith, ints) }

    to : ((k : ℕ) × (k < 65) × P (pos k)) ⊎ ((k : ℕ) × (k < 64) × P (negsuc k)) → (z : ℤ) × IsCoordinate z × P z
    to (inl t) = (pos t.0, above t.0 t.1, t.2)
    to (inr t) = (negsuc t.0, below t.0 t.1, t.2)

    from : (z : ℤ) → neg_ℤ (pos 64) ≤ℤ z → z ≤ℤ pos 64 → P z → ((k : ℕ) × (k < 65) × P (pos k)) ⊎ ((k : ℕ) × (k < 64) × P (negsuc k))
    from (pos k) low high p = inl (k, omega (arith, ints), p)
    from (negsuc k) low high p = inr (k, omega (arith, ints), p)

-- whether bytes are the text of a coordinate
decide_coordinate_text : (bytes : List ℕ) → Decided ((z : ℤ) × IsCoordinate z × (bytes ≡ signed_decimal z))
decide_coordinate_text bytes = decide_some_coordinate (λ z. bytes ≡ signed_decimal z) (λ z. decide_same_bytes bytes (signed_decimal z))

-- whether three texts are those of a position's coordinates
pub decide_position_text : (x y z : List ℕ) → Decided ((c : Cell) × IsPositionText x y z c)
decide_position_text x y z =
    decided_like (λ t. (at t.0.0 t.1.0 t.2.0, ((t.0.1, t.1.1, t.2.1), t.0.2, t.1.2, t.2.2))) (λ t. from t.0 t.1) (decided_and_three (decide_coordinate_text x) (decide_coordinate_text y) (decide_coordinate_text z))
  where
    from : (c : Cell) → IsPositionText x y z c → ((k : ℤ) × IsCoordinate k × (x ≡ signed_decimal k)) × ((k : ℤ) × IsCoordinate k × (y ≡ signed_decimal k)) × ((k : ℤ) × IsCoordinate k × (z ≡ signed_decimal k))
    from c h = ((c.x, h.0.0, h.1), (c.y, h.0.1, h.2), (c.z, h.0.2, h.3))

-- whether a byte is a mark
pub decide_mark : (b : ℕ) → Decided (IsMark b)
decide_mark b = decided_or (decide_same b 35) (decide_same b 46)

-- whether bytes are a word
decide_word : (bytes : List ℕ) → Decided (IsWord bytes)
decide_word bytes = decided_and (decided_not (decide_empty bytes)) (decide_all (λ b. (33 ≤ b) × (b ≤ 126)) (λ b. decided_and (decide_at_most 33 b) (decide_at_most b 126)) bytes)

-- a front that is so, a blank, and a rest that is so
abbrev IsCut : (List ℕ → Type 0) → (List ℕ → Type 0) → List ℕ → Type 0
IsCut P Q bytes = (front rest : List ℕ) × P front × Q rest × (bytes ≡ front ++ 32 ∷ rest)

-- whether bytes are so cut at a blank
decide_cut : (P Q : List ℕ → Type 0) → ((s : List ℕ) → Decided (P s)) → ((s : List ℕ) → Decided (Q s)) → (bytes : List ℕ) → Decided (IsCut P Q bytes)
decide_cut P Q has_p has_q bytes =
    decided_like (λ t. (t.0, t.3.0, t.2, t.3.1, t.4 ∙ ap (λ s. t.0 ++ s) t.3.2)) (λ t. (t.0, 32 ∷ t.1, t.2, (t.1, t.3, refl), t.4)) (decide_parts P (λ s. (rest : List ℕ) × Q rest × (s ≡ 32 ∷ rest)) has_p (decide_after 32 Q has_q) bytes)

-- whether bytes are a key word, a blank and a rest that is so
decide_headed : (key : List ℕ) (Q : List ℕ → Type 0) → ((s : List ℕ) → Decided (Q s)) → (bytes : List ℕ) → Decided ((rest : List ℕ) × Q rest × (bytes ≡ key ++ 32 ∷ rest))
decide_headed key Q each bytes =
    decided_like (λ t. (t.1, t.3, t.4 ∙ ap (λ s. s ++ 32 ∷ t.1) t.2)) (λ t. (key, t.0, refl, t.1, t.2)) (decide_cut (λ s. s ≡ key) Q (λ s. decide_same_bytes s key) each bytes)

-- three numbers with blanks between
abbrev IsThreeNumbers : List ℕ → Type 0
IsThreeNumbers bytes = IsCut IsNumber (IsCut IsNumber IsNumber) bytes

-- what stands after the key word of a piece's line
abbrev IsPieceRest : List ℕ → Type 0
IsPieceRest bytes = IsCut IsWord (IsCut IsWord (IsCut IsWord IsThreeNumbers)) bytes

-- whether bytes are three numbers
decide_three_numbers : (bytes : List ℕ) → Decided (IsThreeNumbers bytes)
decide_three_numbers bytes = decide_cut IsNumber (IsCut IsNumber IsNumber) decide_number (decide_cut IsNumber IsNumber decide_number decide_number) bytes

-- whether bytes are what stands after the key word of a piece's line
decide_piece_rest : (bytes : List ℕ) → Decided (IsPieceRest bytes)
decide_piece_rest bytes =
    decide_cut IsWord (IsCut IsWord (IsCut IsWord IsThreeNumbers)) decide_word (decide_cut IsWord (IsCut IsWord IsThreeNumbers) decide_word (decide_cut IsWord IsThreeNumbers decide_word decide_three_numbers)) bytes

-- words that were cut off one after the other are the bytes again
words_joined : (a b c x y z s t u v bytes : List ℕ) → bytes ≡ a ++ 32 ∷ s → s ≡ b ++ 32 ∷ t → t ≡ c ++ 32 ∷ u → u ≡ x ++ 32 ∷ v → v ≡ y ++ 32 ∷ z → bytes ≡ join_with_byte 32 (a ∷ b ∷ c ∷ x ∷ y ∷ z ∷ [])
words_joined a b c x y z s t u v bytes e0 e1 e2 e3 e4 = rw (e0, e1, e2, e3, e4) refl

-- bytes that are so cut are the words of a piece's line
words_from_rest : (bytes : List ℕ) → IsPieceRest bytes → (w : PieceWords) × IsPieceWords w × (bytes ≡ piece_words_text w)
words_from_rest bytes name =
    let shape = name.3 in
    let turn = shape.3 in
    let x = turn.3 in
    let y = x.3 in (
      record { name = name.0; shape = shape.0; orientation = turn.0; x = x.0; y = y.0; z = y.1 },
      record { name = name.2; shape = shape.2; orientation = turn.2; x = x.2; y = y.2; z = y.3 },
      words_joined name.0 shape.0 turn.0 x.0 y.0 y.1 name.1 shape.1 turn.1 x.1 bytes name.4 shape.4 turn.4 x.4 y.4,
    )

-- and the other way round
rest_from_words : (w : PieceWords) → IsPieceWords w → IsPieceRest (piece_words_text w)
rest_from_words w h =
    let last : IsCut IsNumber IsNumber (join_with_byte 32 (w.y ∷ w.z ∷ [])) = (w.y, w.z, h.y, h.z, refl) in
    let numbers : IsThreeNumbers (join_with_byte 32 (w.x ∷ w.y ∷ w.z ∷ [])) = (w.x, join_with_byte 32 (w.y ∷ w.z ∷ []), h.x, last, refl) in
    let turn : IsCut IsWord IsThreeNumbers (join_with_byte 32 (w.orientation ∷ w.x ∷ w.y ∷ w.z ∷ [])) = (w.orientation, join_with_byte 32 (w.x ∷ w.y ∷ w.z ∷ []), h.orientation, numbers, refl) in
    let shape : IsCut IsWord (IsCut IsWord IsThreeNumbers) (join_with_byte 32 (w.shape ∷ w.orientation ∷ w.x ∷ w.y ∷ w.z ∷ [])) = (w.shape, join_with_byte 32 (w.orientation ∷ w.x ∷ w.y ∷ w.z ∷ []), h.shape, turn, refl) in
    (w.name, join_with_byte 32 (w.shape ∷ w.orientation ∷ w.x ∷ w.y ∷ w.z ∷ []), h.name, shape, refl)

-- the bytes are a line of a piece
abbrev IsPieceLine : List ℕ → Type 0
IsPieceLine bytes = (w : PieceWords) × IsLine bytes (PieceLine w)

-- a key word and words of a piece are a line of it
line_from_words : (bytes rest : List ℕ) → (w : PieceWords) × IsPieceWords w × (rest ≡ piece_words_text w) → bytes ≡ codes "piece" ++ 32 ∷ rest → IsPieceLine bytes
line_from_words bytes rest words e = (words.0, (words.1, e ∙ ap (λ s. codes "piece" ++ 32 ∷ s) words.2))

-- whether the bytes are a line of a piece
decide_piece_line : (bytes : List ℕ) → Decided (IsPieceLine bytes)
decide_piece_line bytes =
    decided_like (λ t. line_from_words bytes t.0 (words_from_rest t.0 t.1) t.2) (λ h. (piece_words_text h.0, rest_from_words h.0 h.1.0, h.1.1)) (decide_headed (codes "piece") IsPieceRest decide_piece_rest bytes)

-- the ways in which bytes are a line
abbrev IsSomeLine : List ℕ → Type 0
IsSomeLine bytes =
    ((name : List ℕ) × IsWord name × (bytes ≡ codes "assembly" ++ 32 ∷ name))
    ⊎ ((name : List ℕ) × IsWord name × (bytes ≡ codes "shape" ++ 32 ∷ name))
    ⊎ (bytes ≡ codes "layer")
    ⊎ IsMarks bytes
    ⊎ (bytes ≡ codes "end")
    ⊎ IsPieceLine bytes

-- whether the bytes are a line of some form
pub decide_line : (bytes : List ℕ) → Decided ((form : LineForm) × IsLine bytes form)
decide_line bytes =
    decided_like to (λ t. from t.0 t.1) (decided_or (decide_headed (codes "assembly") IsWord decide_word bytes) (decided_or (decide_headed (codes "shape") IsWord decide_word bytes) (decided_or (decide_same_bytes bytes (codes "layer")) (decided_or (decided_and (decided_not (decide_empty bytes)) (decide_all IsMark decide_mark bytes)) (decided_or (decide_same_bytes bytes (codes "end")) (decide_piece_line bytes))))))
  where
    to : IsSomeLine bytes → (form : LineForm) × IsLine bytes form
    to (inl t) = (AssemblyLine t.0, (t.1, t.2))
    to (inr (inl t)) = (ShapeLine t.0, (t.1, t.2))
    to (inr (inr (inl e))) = (LayerLine, (tt, e))
    to (inr (inr (inr (inl h)))) = (RowLine bytes, (h, refl))
    to (inr (inr (inr (inr (inl e))))) = (EndLine, (tt, e))
    to (inr (inr (inr (inr (inr t))))) = (PieceLine t.0, t.1)

    from : (form : LineForm) → IsLine bytes form → IsSomeLine bytes
    from (AssemblyLine name) h = inl (name, h.0, h.1)
    from (ShapeLine name) h = inr (inl (name, h.0, h.1))
    from LayerLine h = inr (inr (inl h.1))
    from (RowLine marks) h = inr (inr (inr (inl (subst IsMarks (sym h.1) h.0))))
    from EndLine h = inr (inr (inr (inr (inl h.1))))
    from (PieceLine w) h = inr (inr (inr (inr (inr (w, h)))))
