use Rattle.std.proofs.Common.{ℕ, ℤ, List, [], get_or, nat_abs, sym, subst}
use Rattle.std.specs.Int.{w32, FitsUnsignedBits}
use Rattle.std.specs.Result.{OkIff}
use Rattle.std.proofs.lemmas.Int.{to_z-of_z}
use Rattle.burr_text.specs.Numbers.{IsInteger}
use Rattle.burr_lines.specs.TextLines.{TellsNumber, words_of}
use Rattle.burr_lines.proofs.TextLines.{fits, tells}
use Rattle.burr_lines.proofs.lines.Line.number_in.Goals as goal

pub returns : goal.returns
returns c =
    let word : List ℕ = get_or (words_of c.args.self.now.bytes.now) c.args.place [] in
    let is = subst (λ (w : List ℕ). IsInteger w c.integer.result) c.word.ensures c.integer.ensures in
    let z = c.unwrap_or-number.result in
    let same = to_z-of_z w32 z (fits z c.unwrap_or-number.type_inv) in
    let tried = subst (λ (y : ℤ). OkIff c.try_from.result (FitsUnsignedBits 8 y) (nat_abs y)) same c.try_from.ensures in
    subst (λ (answer : ℕ). TellsNumber word answer) (sym c.unwrap_or.ensures) (tells word c.integer.result z c.try_from.result is c.unwrap_or-number.ensures c.unwrap_or-number.type_inv tried)
