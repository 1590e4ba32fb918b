-- What the words of a shown state come to.
use Rattle.std.proofs.Common.{◌≡◌, ℕ, zero, suc, ◌+◌, ◌<◌, IfSome, List, [], ◌∷◌, ◌++◌, false, length, get_or, slice_get, drop, map, codes, decimal, refl, sym, ap, subst, ◌∙◌, arith, add-one, drop-cons, append_assoc}
use Rattle.std.specs.Prelude.{◌==◌, ℤ, Some, reverse}
use Rattle.std.specs.Fmt.{signed_decimal}
use Rattle.std.specs.List.{join_with_byte}
use Rattle.std.proofs.lemmas.List.{length-map}
use Rattle.std.proofs.lemmas.Option.{none-some, same_Some}
use Rattle.burr_assembly.specs.Rules.Text.{Piece}
use Rattle.burr_code.specs.declared.placement.Placement.{Placement}
use Rattle.burr_voxels.specs.declared.cell.Cell.{Cell}
use Rattle.burr_state.specs.declared.effect.Mode.{Mode}
use Rattle.burr_state.specs.declared.effect.Mode.TheVariants.{Running, Ended, Trapped}
use Rattle.burr_text.specs.Words.{text_line}
use Rattle.burr_step.specs.Rules.StepTexts.{ended_word, grip_word, slot_word, stack_words, piece_line, piece_lines}
use Rattle.burr_state.specs.Rules.Bench.{BenchState}
use Rattle.burr_step.specs.Views.ShownParts.{slots_line, spaced_words, stack_line, tray_line}

-- where the run has not ended, the word for its end is empty
pub not_ended : (mode : Mode) → (¬ mode ≡ Ended) → ended_word mode ≡ []
not_ended Running none = refl
not_ended Ended none = absurd (none refl)
not_ended (Trapped trap) none = refl

-- Lines put in parts

-- a line's words, each after the first with a space before it
pub line_spaced : (word : List ℕ) (words : List (List ℕ)) → text_line (word ∷ words) ≡ word ++ (spaced_words words ++ codes "\n")
line_spaced word [] = refl
line_spaced word (next ∷ words) =
    append_assoc word (32 ∷ join_with_byte 32 (next ∷ words)) (10 ∷ [])
    ∙ ap (λ (t : List ℕ). word ++ (32 ∷ t)) (line_spaced next words ∙ sym (append_assoc next (spaced_words words) (10 ∷ [])))

stack_some : (operands : List ℤ) → 0 < length (reverse operands) → stack_words operands ≡ map signed_decimal (reverse operands)
stack_some [] some = absurd (omega (arith, some))
stack_some (n ∷ operands) some = refl

-- the line of the tray and the grip
tray_parts : (tray names : List ℕ) → text_line (codes "tray" ∷ tray ∷ codes "grip" ∷ names ∷ [])
    ≡ codes "tray " ++ (tray ++ (codes " grip " ++ (names ++ codes "\n")))
tray_parts tray names = simp append_assoc

pub tray_line-parts : (names : List (List ℕ)) (s : BenchState)
    → tray_line names s ≡ codes "tray " ++ (decimal s.tray ++ (codes " grip " ++ (grip_word names s.grip ++ codes "\n")))
tray_line-parts names s = tray_parts (decimal s.tray) (grip_word names s.grip)

-- that of the slots
pub slots_line-parts : (s : BenchState) → slots_line s ≡ codes "slots" ++ (spaced_words (map slot_word s.running.slots) ++ codes "\n")
slots_line-parts s = line_spaced (codes "slots") (map slot_word s.running.slots)

some_of : (n : ℕ) → false ≡ (n == 0) → 0 < n
some_of zero some = cc
some_of (suc n) some = omega arith

-- that of some operands
pub stack_line-some : (s : BenchState) (numbers : List ℤ) → numbers ≡ reverse s.running.operands → false ≡ (length numbers == 0)
    → stack_line s ≡ codes "stack" ++ (spaced_words (map signed_decimal numbers) ++ codes "\n")
stack_line-some s numbers is some =
    let there : 0 < length (reverse s.running.operands) = subst (λ (ns : List ℤ). 0 < length ns) is (some_of (length numbers) some) in
    ap (λ (words : List (List ℕ)). text_line (codes "stack" ∷ words)) (stack_some s.running.operands there)
    ∙ ap (λ (ns : List ℤ). text_line (codes "stack" ∷ map signed_decimal ns)) (sym is)
    ∙ line_spaced (codes "stack") (map signed_decimal numbers)

-- Names

-- the name of the p-th piece
name-at : (pieces : List Piece) (p : ℕ) (name : List ℕ) → p < length pieces → IfSome (slice_get pieces p) (λ (piece : Piece). name ≡ piece.name)
    → get_or (map (λ (piece : Piece). piece.name) pieces) p [] ≡ name
name-at [] p name inside is = absurd (omega arith)
name-at (piece ∷ pieces) zero name inside is = sym is
name-at (piece ∷ pieces) (suc p) name inside is = name-at pieces p name (omega arith) is

module _ (pieces : List Piece) (p : ℕ) (inside : p < length pieces) where
  here : p < length (map (λ (piece : Piece). piece.name) pieces)
  here = rw length-map inside

  -- the next of all names
  pub names-at : (name : List ℕ) → IfSome (slice_get pieces p) (λ (piece : Piece). name ≡ piece.name)
      → drop p (map (λ (piece : Piece). piece.name) pieces) ≡ name ∷ drop (p + 1) (map (λ (piece : Piece). piece.name) pieces)
  names-at name has = rw (add-one, drop-cons (map (λ (piece : Piece). piece.name) pieces) p [] here, name-at pieces p name inside has)

-- Numbers, slots and pieces

-- the next of the words that remain
pub next_word : {X : Type 0} (word : X → List ℕ) (items : List X) (i : ℕ) (d : X) → i < length items
    → spaced_words (map word (drop i items)) ≡ codes " " ++ (word (get_or items i d) ++ spaced_words (map word (drop (i + 1) items)))
next_word {X} word items i d inside =
    let next : drop i items ≡ get_or items i d ∷ drop (i + 1) items = rw (add-one, drop-cons items i d) in
    ap (λ (rest : List X). spaced_words (map word rest)) next

-- the place of the next piece
place-at : (places : List (Placement Cell)) (p : ℕ) (place : Placement Cell) → slice_get places p ≡ Some place
    → drop p places ≡ place ∷ drop (p + 1) places
place-at [] p place is = absurd (none-some place is)
place-at (other ∷ places) zero place is = ap (λ (x : Placement Cell). x ∷ places) (same_Some other place is)
place-at (other ∷ places) (suc p) place is =
    let next : suc p + 1 ≡ suc (p + 1) = omega arith in
    rw next (place-at places p place is)

-- its line, and those of the others
pub next_line : (pieces : List Piece) (places : List (Placement Cell)) (p : ℕ) (name : List ℕ) (place : Placement Cell) → p < length pieces
    → IfSome (slice_get pieces p) (λ (piece : Piece). name ≡ piece.name) → slice_get places p ≡ Some place
    → piece_lines (drop p (map (λ (piece : Piece). piece.name) pieces)) (drop p places)
    ≡ piece_line name place ++ piece_lines (drop (p + 1) (map (λ (piece : Piece). piece.name) pieces)) (drop (p + 1) places)
next_line pieces places p name place inside has is =
    ap (λ (names : List (List ℕ)). piece_lines names (drop p places)) (names-at pieces p inside name has)
    ∙ ap (λ (rest : List (Placement Cell)). piece_lines (name ∷ drop (p + 1) (map (λ (piece : Piece). piece.name) pieces)) rest) (place-at places p place is)
