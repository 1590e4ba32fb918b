-- Reading the header.
use Rattle.std.proofs.Common.{◌≡◌, ℕ, ◌+◌, ◌==◌, List, ◌∷◌, ◌++◌, length, codes, inl, sym, ap, ◌∙◌, arith, append_assoc, length-append}
use Rattle.std.proofs.lemmas.Bool.{and_parts}
use Rattle.std.proofs.lemmas.Slice.Eq.{bytes_eq-Decides}
use Rattle.byteorder.specs.Endian.{big_bytes}
use Rattle.burr_container.specs.declared.fault.ContainerFault.{ContainerFault}
use Rattle.burr_container.specs.declared.fault.ContainerFault.TheVariants.{C2, C3, C4}
use Rattle.burr_container.specs.declared.reading.cursor.Cursor.{Cursor}
use Rattle.burr_container.specs.declared.container.Header.{Header}
use Rattle.burr_container.specs.Rules.Spelling.{front_bytes}
use Rattle.burr_container.specs.Rules.Fitting.{is_version, is_budget, is_piece_count}
use Rattle.burr_container.specs.Rules.Faults.{Failing, number, raw, first, name, is_magic, ProceduresFail, ContainerFails}
use Rattle.burr_container.specs.Views.Reading.{IsAt}
use Rattle.burr_container.specs.Views.InPlace.{IsHeaderAt}
use Rattle.burr_container.proofs.Common.Fields.{byte_back, number_so}
use Rattle.burr_container.proofs.Chains.{IsAfter, after_part, stands, then_fails}

-- what follows each part of the header

abbrev named_fails : ℕ → ℕ → Failing
named_fails version pieces = first name (λ text. ProceduresFail version pieces)

abbrev pieces_fail : ℕ → Failing
pieces_fail version = first (number 1 C4 is_piece_count) (named_fails version)

abbrev budget_fails : ℕ → Failing
budget_fails version = first (number 4 C4 is_budget) (λ budget. pieces_fail version)

abbrev version_fails : Failing
version_fails = first (number 2 C3 is_version) budget_fails

front_apart : (magic version budget : List ℕ) (pieces size : ℕ) (text r : List ℕ)
    → (magic ++ version ++ budget ++ pieces ∷ size ∷ text) ++ r
    ≡ magic ++ (version ++ (budget ++ (pieces ∷ (size ∷ (text ++ r)))))
front_apart magic version budget pieces size text r = simp append_assoc

-- the magic stands there, and the version fails
pub version_fails_next : (c0 c1 : Cursor) (magic : List ℕ) → IsAt (raw 4 C2 is_magic) c0 magic c1
    → (fault : ContainerFault) → (number 2 C3 is_version).Fails c1.at c1.rest.now fault
    → ContainerFails c0.at c0.rest.now fault
version_fails_next c0 c1 magic magic_at fault fails =
    then_fails (raw 4 C2 is_magic) c0 c1 magic (λ magic. version_fails) fault magic_at (inl fails)

-- the magic and the version stand there, and the budget fails
pub budget_fails_next : (c0 c1 c2 : Cursor) (magic : List ℕ) (version : ℕ)
    → IsAt (raw 4 C2 is_magic) c0 magic c1 → IsAt (number 2 C3 is_version) c1 version c2
    → (fault : ContainerFault) → (number 4 C4 is_budget).Fails c2.at c2.rest.now fault
    → ContainerFails c0.at c0.rest.now fault
budget_fails_next c0 c1 c2 magic version magic_at version_at fault fails =
    then_fails (raw 4 C2 is_magic) c0 c1 magic (λ magic. version_fails) fault magic_at
    (then_fails (number 2 C3 is_version) c1 c2 version budget_fails fault version_at (inl fails))

module _ (c0 c1 c2 c3 : Cursor) (magic : List ℕ) (version budget : ℕ)
    (magic_at : IsAt (raw 4 C2 is_magic) c0 magic c1)
    (version_at : IsAt (number 2 C3 is_version) c1 version c2)
    (budget_at : IsAt (number 4 C4 is_budget) c2 budget c3) where
  then_pieces_fail : (fault : ContainerFault) → pieces_fail version c3.at c3.rest.now fault
      → ContainerFails c0.at c0.rest.now fault
  then_pieces_fail fault fails =
      then_fails (raw 4 C2 is_magic) c0 c1 magic (λ magic. version_fails) fault magic_at
      (then_fails (number 2 C3 is_version) c1 c2 version budget_fails fault version_at
      (then_fails (number 4 C4 is_budget) c2 c3 budget (λ budget. pieces_fail version) fault budget_at
      fails))

  pub piece_count_fails : (fault : ContainerFault)
      → (number 1 C4 is_piece_count).Fails c3.at c3.rest.now fault
      → ContainerFails c0.at c0.rest.now fault
  piece_count_fails fault fails = then_pieces_fail fault (inl fails)

  module _ (c4 : Cursor) (pieces : ℕ) (pieces_at : IsAt (number 1 C4 is_piece_count) c3 pieces c4)
    where
      then_name_fails : (fault : ContainerFault) → named_fails version pieces c4.at c4.rest.now fault
          → ContainerFails c0.at c0.rest.now fault
      then_name_fails fault fails =
          then_pieces_fail fault
          (then_fails (number 1 C4 is_piece_count) c3 c4 pieces (named_fails version) fault pieces_at fails)

      pub name_fails : (fault : ContainerFault) → name.Fails c4.at c4.rest.now fault
          → ContainerFails c0.at c0.rest.now fault
      name_fails fault fails = then_name_fails fault (inl fails)

      module _ (c5 : Cursor) (text : List ℕ) (name_at : IsAt name c4 text c5) where
        all_parts : c0.rest.now ≡ front_bytes version budget pieces text ++ c5.rest.now
        all_parts =
            let text_there =
            (bytes_eq-Decides magic (codes "BPLN")).0
            (and_parts (length magic == 4) (is_magic magic) magic_at.fits).1 in
            let piece =
            byte_back C4 is_piece_count pieces c3.rest.now c4.rest.now
            (stands (number 1 C4 is_piece_count) c3 c4 pieces pieces_at) in
            let after_budget = piece.1 ∙ ap (λ (r : List ℕ). pieces ∷ r) name_at.cut.parts in
            let after_version =
            budget_at.cut.parts ∙ ap (λ (r : List ℕ). big_bytes 4 budget ++ r) after_budget in
            let after_magic =
            version_at.cut.parts ∙ ap (λ (r : List ℕ). big_bytes 2 version ++ r) after_version in
            magic_at.cut.parts ∙ ap (λ (front : List ℕ). front ++ c1.rest.now) text_there
            ∙ ap (λ (r : List ℕ). codes "BPLN" ++ r) after_magic
            ∙ sym (front_apart (codes "BPLN") (big_bytes 2 version) (big_bytes 4 budget) pieces
            (length text) text c5.rest.now)

        all_after : IsAfter c0 c5
        all_after =
            after_part name c4 c5 text name_at
            ∙ after_part (number 1 C4 is_piece_count) c3 c4 pieces pieces_at
            ∙ after_part (number 4 C4 is_budget) c2 c3 budget budget_at
            ∙ after_part (number 2 C3 is_version) c1 c2 version version_at
            ∙ after_part (raw 4 C2 is_magic) c0 c1 magic magic_at

        pub header_at : (h : Header) → h.version ≡ version → h.budget ≡ budget → h.pieces ≡ pieces
            → h.name.now ≡ text → IsHeaderAt c0 h c5
        header_at h v b p t =
            let size : length c0.rest.now ≡ length (front_bytes version budget pieces text)
            + length c5.rest.now =
            ap (λ (all : List ℕ). length all) all_parts
            ∙ length-append (front_bytes version budget pieces text) c5.rest.now in
            let moved : c5.at ≡ c0.at + length (front_bytes version budget pieces text) =
            omega (arith, size, all_after) in
            rw (v, b, p, t)
            (record {
              version = number_so 2 C3 is_version version c1.rest.now c2.rest.now
                  (stands (number 2 C3 is_version) c1 c2 version version_at);
              budget = number_so 4 C4 is_budget budget c2.rest.now c3.rest.now
                  (stands (number 4 C4 is_budget) c2 c3 budget budget_at);
              pieces = number_so 1 C4 is_piece_count pieces c3.rest.now c4.rest.now
                  (stands (number 1 C4 is_piece_count) c3 c4 pieces pieces_at);
              name = name_at.fits;
              cut = record { parts = all_parts; moved = moved };
              fails = λ fault fails. then_name_fails fault
                  (then_fails name c4 c5 text (λ text. ProceduresFail version pieces) fault name_at fails);
            })
