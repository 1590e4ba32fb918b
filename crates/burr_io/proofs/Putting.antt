-- How far a text has been put.
use Rattle.std.proofs.Common.{◌≡◌, ◌<◌, ℕ, Bool, false, List, [], ◌++◌, length, Option, take, drop, arith, ap, sym, subst, ◌∙◌, length-append}
use lib.Seq.{take-append_seam}
use Rattle.std.proofs.KnownBytes.{Appends-trans, Appends-kept}
use Rattle.std.specs.Io.KnownBytes.{Appends, Keeps}
use Rattle.burr_io.specs.Sink.{TakesShort}
use Rattle.std.proofs.lemmas.Grind.{common_steps}

-- of the whole text all but the rest was taken, and then nothing had failed
pub record HasPut (whole rest : List ℕ) (old new : Option (List ℕ)) (failed : Bool) : Type 0 where
  pub front : List ℕ
  pub parts : whole ≡ front ++ rest
  pub taken : Appends old new front
  pub goes_on : 0 < length front → failed ≡ false

-- one call took some bytes more
pub HasPut-more : (whole rest next : List ℕ) (old mid new : Option (List ℕ)) (failed fails : Bool) (n : ℕ)
    → HasPut whole rest old mid failed → Appends mid new (take n rest) → fails ≡ false → next ≡ drop n rest → HasPut whole next old new fails
HasPut-more whole rest next old mid new failed fails n put went goes after = record {
  front = put.front ++ take n rest;
  parts = let split = put.parts in grind (arith, common_steps, split, after);
  taken = Appends-trans old mid new put.front (take n rest) put.taken went;
  goes_on = λ _. goes;
}

-- where a rest is left there is a text
pub HasPut-some : (whole rest : List ℕ) (old new : Option (List ℕ)) (failed : Bool) → HasPut whole rest old new failed → 0 < length rest → whole ≡ [] → ⊥
HasPut-some whole rest old new failed put some none =
    let split : whole ≡ put.front ++ rest = put.parts in
    let count = length-append put.front rest in
    let same : length whole ≡ length (put.front ++ rest) = ap length split in
    let empty : length whole ≡ 0 = ap length none in
    absurd (omega arith)

-- where a rest is left, and the sink takes no more, not all was taken
pub HasPut-short : (whole rest : List ℕ) (old mid new : Option (List ℕ)) (failed : Bool) → HasPut whole rest old mid failed → 0 < length rest → Keeps mid new → TakesShort old new whole
HasPut-short whole rest old mid new failed put some kept =
    let count = length-append put.front rest in
    let same : length whole ≡ length (put.front ++ rest) = ap length put.parts in
    let front : take (length put.front) whole ≡ put.front = ap (take (length put.front)) put.parts ∙ take-append_seam put.front rest in
    (length put.front, omega arith, subst (Appends old new) (sym front) (Appends-kept old mid new put.front put.taken kept))
