-- The names of a group: which group they are of, and how they are read one after another.
use Rattle.std.proofs.Common.{◌≡◌, ◌≢◌, ℕ, zero, suc, ◌+◌, ◌*◌, ◌^◌, ◌<◌, ◌≤◌, ◌==◌, List, [], ◌∷◌, ◌++◌, length, get_or, drop, map, if◌then◌else◌, Bool, true, false, All, AllPairs, Contains, Option, Some, None, inl, inr, ◌⊎◌, IsTrue, bit_or, refl, sym, ap, subst, ◌∙◌, arith}
use Rattle.std.specs.List.{join_with_byte, list_all}
use Rattle.std.specs.Borrow.{Bor}
use Rattle.std.specs.Int.{bit_at}
use Rattle.std.proofs.lemmas.Bool.{and_parts, cases_lt}
use Rattle.std.proofs.lemmas.Bool.Decides.{nat_tests}
use Rattle.std.proofs.lemmas.List.{length-map, length-drop, get_or-map, get_or-drop, get_or_default, drop_all, length-append}
use Rattle.std.proofs.lemmas.List.Elements.{All-nil, All-head, All-tail, All-cons, All-drop, All-map}
use Rattle.std.proofs.lemmas.Nat.{and_or_self, and_or_apart, pow_apart, pow_below, pow_pos, or_lt}
use Rattle.std.proofs.lemmas.Nat.Bits.{and_pow, bit_at-lt, same_from_bits_below}
use Rattle.burr_text.specs.Names.{IsName, is_name_byte}
use Rattle.burr_text.proofs.Common.Cuts.{Lacks, cut, lacks, contains_cut}
use Rattle.burr_text.proofs.Common.Unended.{EachLacks}
use Rattle.burr_code.specs.PieceSets.{IsInSet, is_left_out}
use Rattle.burr_code.proofs.Common.PieceSets.{left_out, no_bit, no_bit_above, set_bit, not_left_out}
use Rattle.burr_assembly.specs.Rules.Text.{Assembly, IsAssembly, IsPiece, Piece}
use Rattle.burr_assembly.specs.Rules.Homes.{names_of}
use Rattle.burr_sheet.specs.Rules.SheetText.{names_from}
use Rattle.burr_sheet.specs.Views.MotionLines.{IsNamesText, IsFirstName, group_text}
use Rattle.burr_sheet.specs.Views.SheetUnderWay.{spaced_names}
use Rattle.burr_sheet.proofs.LineWords.{names_from-at}

-- Names

-- at most 32 names, no two of them the same
pub record AreNames (names : List (List ℕ)) : Type 0 where
  pub each : All IsName names
  pub apart : AllPairs (λ (a b : List ℕ). a ≢ b) names
  pub few : length names ≤ 32

name_apart : (pieces : List Piece) → AllPairs (λ (p q : Piece). p.name ≢ q.name) pieces → AllPairs (λ (a b : List ℕ). a ≢ b) (map (λ (p : Piece). p.name) pieces)
name_apart [] apart i j d before inside = absurd (omega arith)
name_apart (p ∷ pieces) apart i j d before inside =
    let far : j < length (p ∷ pieces) = rw length-map at inside in
    let near : i < length (p ∷ pieces) = omega arith in
    let first = get_or-map (λ (q : Piece). q.name) (p ∷ pieces) i p d near in
    let second = get_or-map (λ (q : Piece). q.name) (p ∷ pieces) j p d far in
    λ e. apart i j p before far (sym first ∙ e ∙ second)

-- the names of an assembly's pieces are such names
pub names_of_assembly : (a : Assembly) → IsAssembly a → AreNames (names_of a)
names_of_assembly a is = record {
  each = All-map IsName (λ (p : Piece). p.name) a.pieces (λ k d inside. let piece : IsPiece a.shapes (get_or a.pieces k d) = is.each_piece k d inside in piece.name);
  apart = name_apart a.pieces is.piece_names;
  few = rw length-map is.pieces.1;
}

-- a name lacks each byte that no name may have
lacks_other : (c : ℕ) (bytes : List ℕ) → is_name_byte c ≡ false → IsTrue (list_all is_name_byte bytes) → Lacks c bytes
lacks_other c [] other h = tt
lacks_other c (b ∷ bytes) other h =
    let parts = and_parts (is_name_byte b) (list_all is_name_byte bytes) h in
    (λ e. apart (sym parts.0 ∙ ap is_name_byte e ∙ other), lacks_other c bytes other parts.1)
  where
    apart : true ≢ false
    apart e = cc

pub each_lacks : (c : ℕ) → is_name_byte c ≡ false → (names : List (List ℕ)) → All IsName names → EachLacks c names
each_lacks c other [] h = tt
each_lacks c other (name ∷ names) h = (lacks_other c name other (All-head IsName name names h).each, each_lacks c other names (All-tail IsName name names h))

-- a name is not empty
some_name : (name : List ℕ) → IsName name → name ≢ []
some_name [] is e = none is.first
  where
    none : ¬ (false ≡ true)
    none e = cc
some_name (b ∷ name) is e = cc

-- The group of names

each_by : (P : List ℕ → Type 0) (p group : ℕ) (name : List ℕ) (names : List (List ℕ)) (test : Bool) → is_left_out group p ≡ test → P name → All P (names_from (suc p) group names) → All P (names_from p group (name ∷ names))
each_by P p group name names true e head after = rw e after
each_by P p group name names false e head after = rw e (All-cons P name (names_from (suc p) group names) head after)

-- what holds of each name holds of those of a group
pub each_from : (P : List ℕ → Type 0) (p group : ℕ) (names : List (List ℕ)) → All P names → All P (names_from p group names)
each_from P p group [] h = All-nil P
each_from P p group (name ∷ names) h = each_by P p group name names (is_left_out group p) refl (All-head P name names h) (each_from P (suc p) group names (All-tail P name names h))

abbrev Other : List ℕ → List ℕ → Type 0
Other name other = name ≢ other

-- the names after the first are others
pub others : (name : List ℕ) (names : List (List ℕ)) → AllPairs (λ (a b : List ℕ). a ≢ b) (name ∷ names) → All (Other name) names
others name names apart k d inside = apart 0 (suc k) d (omega arith) (omega arith)

pub apart_after : (name : List ℕ) (names : List (List ℕ)) → AllPairs (λ (a b : List ℕ). a ≢ b) (name ∷ names) → AllPairs (λ (a b : List ℕ). a ≢ b) names
apart_after name names apart i j d before inside = apart (suc i) (suc j) d (omega arith) (omega arith)

-- a name that stands at the head of one list or of none
first_or_not : (name : List ℕ) (a b : Bool) (xs ys : List (List ℕ)) → All (Other name) xs → All (Other name) ys → (if a then xs else (name ∷ xs)) ≡ (if b then ys else (name ∷ ys)) → (a ≡ b) × (xs ≡ ys)
first_or_not name true true xs ys p q e = (refl, e)
first_or_not name false false xs ys p q e = (refl, cc)
first_or_not name true false xs ys p q e = absurd (All-head (Other name) name ys (subst (All (Other name)) e p) refl)
first_or_not name false true xs ys p q e = absurd (All-head (Other name) name xs (subst (All (Other name)) (sym e) q) refl)

-- groups of the same names have the same pieces
same_pieces : (p g h : ℕ) (names : List (List ℕ)) → AllPairs (λ (a b : List ℕ). a ≢ b) names → names_from p g names ≡ names_from p h names → (q r : ℕ) → r ≡ p + q → q < length names
    → is_left_out g r ≡ is_left_out h r
same_pieces p g h [] apart e q r is inside = absurd (omega arith)
same_pieces p g h (name ∷ names) apart e q r is inside =
    let after = others name names apart in
    let parts = first_or_not name (is_left_out g p) (is_left_out h p) _ _ (each_from (Other name) (suc p) g names after) (each_from (Other name) (suc p) h names after) e in
    at q is inside parts.0 (λ k is inside. same_pieces (suc p) g h names (apart_after name names apart) parts.1 k r is inside)
  where
    at : (k : ℕ) → r ≡ p + k → k < length (name ∷ names) → is_left_out g p ≡ is_left_out h p → ((j : ℕ) → r ≡ suc p + j → j < length names → is_left_out g r ≡ is_left_out h r) → is_left_out g r ≡ is_left_out h r
    at zero is inside first rest = let same : r ≡ p = omega arith in rw same first
    at (suc k) is inside first rest = rest k (omega arith) (omega arith)

-- a test of a piece tells its bit
told_bit : (x w : ℕ) (t : Bool) → x < 2 → 0 < w → (x * w == 0) ≡ t → x ≡ (if t then 0 else 1)
told_bit zero w true small some e = refl
told_bit zero w false small some e = grind (arith, nat_tests)
told_bit (suc zero) w true small some e = grind (arith, nat_tests)
told_bit (suc zero) w false small some e = refl
told_bit (suc (suc x)) w t small some e = absurd (omega arith)

same_bit : (g h i : ℕ) → is_left_out g i ≡ is_left_out h i → bit_at g i ≡ bit_at h i
same_bit g h i e =
    told_bit (bit_at g i) (2 ^ i) (is_left_out h i) (bit_at-lt g i) (pow_pos i) (ap (λ n. n == 0) (sym (and_pow g i)) ∙ e)
    ∙ sym (told_bit (bit_at h i) (2 ^ i) (is_left_out h i) (bit_at-lt h i) (pow_pos i) (ap (λ n. n == 0) (sym (and_pow h i))))

-- so they are one group
one_group_of : (g h : ℕ) (names : List (List ℕ)) → AreNames names → g < 2 ^ length names → h < 2 ^ length names → names_from 0 g names ≡ names_from 0 h names → g ≡ h
one_group_of g h names are small also e =
    same_from_bits_below (length names) g h small also (λ i inside. same_bit g h i (same_pieces 0 g h names are.apart e i i (omega arith) inside))

-- a group of some pieces has names
has_name : (p g : ℕ) (names : List (List ℕ)) (q r : ℕ) → r ≡ p + q → q < length names → is_left_out g r ≡ false → names_from p g names ≢ []
has_name p g [] q r is inside bit = absurd (omega arith)
has_name p g (name ∷ names) q r is inside bit = by q (is_left_out g p) is inside refl (λ k is inside. has_name (suc p) g names k r is inside bit)
  where
    cons_is_some : (xs : List (List ℕ)) → name ∷ xs ≢ []
    cons_is_some xs e = cc

    differ : true ≢ false
    differ e = cc

    by : (k : ℕ) (test : Bool) → r ≡ p + k → k < length (name ∷ names) → is_left_out g p ≡ test → ((j : ℕ) → r ≡ suc p + j → j < length names → names_from (suc p) g names ≢ []) → names_from p g (name ∷ names) ≢ []
    by k false is inside e rest = rw e (cons_is_some _)
    by zero true is inside e rest = let same : r ≡ p = omega arith in absurd (differ (sym e ∙ ap (is_left_out g) (sym same) ∙ bit))
    by (suc k) true is inside e rest = rw e (rest k (omega arith) (omega arith))

pub some_names : (g : ℕ) (names : List (List ℕ)) → g ≢ 0 → g < 2 ^ length names → names_from 0 g names ≢ []
some_names g names some small = let bit = set_bit g some in by bit.0 bit.1 (cases_lt bit.0 (length names))
  where
    by : (p : ℕ) → IsInSet g p → (p < length names) ⊎ (length names ≤ p) → names_from 0 g names ≢ []
    by p bit (inl inside) = has_name 0 g names p p (omega arith) inside (not_left_out g p bit)
    by p bit (inr far) = absurd (no_bit_above g (length names) p small far bit)

-- the group of no pieces has none
pub no_names : (p : ℕ) (names : List (List ℕ)) → names_from p 0 names ≡ []
no_names p [] = refl
no_names p (name ∷ names) =
    ap (λ (out : Bool). if out then names_from (suc p) 0 names else (name ∷ names_from (suc p) 0 names)) (left_out 0 p (no_bit p)) ∙ no_names (suc p) names

-- no list in which a byte stands lacks it
pub lacks_not : (c : ℕ) (a r : List ℕ) → ¬ Lacks c (a ++ c ∷ r)
lacks_not c [] r h = h.0 refl
lacks_not c (x ∷ a) r h = lacks_not c a r h.1

some_list : (x : List ℕ) (xs : List (List ℕ)) → x ∷ xs ≢ []
some_list x xs e = cc

-- names with a comma between each two are those of one list
same_names : (ns ms : List (List ℕ)) → EachLacks 44 ns → EachLacks 44 ms → ns ≢ [] → ms ≢ [] → join_with_byte 44 ns ≡ join_with_byte 44 ms → ns ≡ ms
same_names [] ms p q some also e = absurd (some refl)
same_names (n ∷ ns) [] p q some also e = absurd (also refl)
same_names (n ∷ []) (m ∷ []) p q some also e = ap (λ (name : List ℕ). name ∷ []) e
same_names (n ∷ []) (m ∷ k ∷ ms) p q some also e = absurd (lacks_not 44 m (join_with_byte 44 (k ∷ ms)) (subst (Lacks 44) e p.0))
same_names (n ∷ k ∷ ns) (m ∷ []) p q some also e = absurd (lacks_not 44 n (join_with_byte 44 (k ∷ ns)) (subst (Lacks 44) (sym e) q.0))
same_names (n ∷ k ∷ ns) (m ∷ l ∷ ms) p q some also e =
    let parts = cut 44 n m (join_with_byte 44 (k ∷ ns)) (join_with_byte 44 (l ∷ ms)) p.0 q.0 e in
    let after = same_names (k ∷ ns) (l ∷ ms) p.1 q.1 (some_list k ns) (some_list l ms) parts.1 in
    λ i. parts.0 i ∷ after i

-- The room that names take

-- a comma after each leaves room
short_joined : (names : List (List ℕ)) → All IsName names → length (join_with_byte 44 names) ≤ length names * 33
short_joined [] each = omega arith
short_joined (name ∷ []) each = let short = (All-head IsName name [] each).short in omega arith
short_joined (name ∷ next ∷ names) each =
    let short = (All-head IsName name (next ∷ names) each).short in
    let after = short_joined (next ∷ names) (All-tail IsName name (next ∷ names) each) in
    omega (arith, length-append name (44 ∷ join_with_byte 44 (next ∷ names)))

-- a group has no more names than there are
fewer_by : (test : Bool) (name : List ℕ) (xs ys : List (List ℕ)) → length xs ≤ length ys → length (if test then xs else (name ∷ xs)) ≤ suc (length ys)
fewer_by true name xs ys few = omega arith
fewer_by false name xs ys few = omega arith

few_from : (p group : ℕ) (names : List (List ℕ)) → length (names_from p group names) ≤ length names
few_from p group [] = omega arith
few_from p group (name ∷ names) = fewer_by (is_left_out group p) name _ names (few_from (suc p) group names)

-- there is room for each part of the names of a group
pub has_room : (names : List (List ℕ)) (group : ℕ) (text part more : List ℕ) → AreNames names → text ++ (part ++ more) ≡ spaced_names names group → length text + length part ≤ 1058
has_room names group text part more are is =
    let ours : List (List ℕ) = names_from 0 group names in
    let short = short_joined ours (each_from IsName 0 group names are.each) in
    let fewer = few_from 0 group names in
    let few = are.few in
    let same : length (text ++ (part ++ more)) ≡ length (spaced_names names group) = ap length is in
    omega (arith, length-append text (part ++ more), length-append part more, length-append (join_with_byte 44 ours) (32 ∷ []))

-- groups whose names are written alike are one
pub one_group : (names : List (List ℕ)) (g h : ℕ) → AreNames names → g ≢ 0 → h ≢ 0 → g < 2 ^ length names → h < 2 ^ length names → group_text names g ≡ group_text names h → g ≡ h
one_group names g h are some also small too e =
    one_group_of g h names are small too
    (same_names _ _ (plain g) (plain h) (some_names g names some small) (some_names h names also too) e)
  where
    plain : (k : ℕ) → EachLacks 44 (names_from 0 k names)
    plain k = each_lacks 44 refl (names_from 0 k names) (each_from IsName 0 k names are.each)

-- The first of the names that are left

-- it is the first of the list
first_of_list : (left : Option (Bor (List ℕ))) (first : List ℕ) (rest : Option (Bor (List ℕ))) (n : List ℕ) (ns : List (List ℕ)) → IsFirstName left first rest → IsNamesText left (n ∷ ns) → Lacks 44 n
    → (first ≡ n) × IsNamesText rest ns
first_of_list None first rest n ns is text plain = absurd (some_list n ns text)
first_of_list (Some t) first None n [] is text plain = (is.0 ∙ text.1, refl)
first_of_list (Some t) first None n (m ∷ ns) is text plain =
    absurd (is.1 (subst (λ (bytes : List ℕ). Contains bytes 44) (sym text.1) (contains_cut 44 n (join_with_byte 44 (m ∷ ns)))))
first_of_list (Some t) first (Some r) n [] is text plain = absurd (lacks_not 44 first r.now (subst (Lacks 44) (sym text.1 ∙ is.parts) plain))
first_of_list (Some t) first (Some r) n (m ∷ ns) is text plain =
    let parts = cut 44 first n r.now (join_with_byte 44 (m ∷ ns)) (lacks 44 first is.first) plain (sym is.parts ∙ text.1) in
    (parts.0, (some_list m ns, parts.1))

-- with it before those that are left after it, the list is whole
whole_list : (left : Option (Bor (List ℕ))) (first : List ℕ) (rest : Option (Bor (List ℕ))) (ns : List (List ℕ)) → IsFirstName left first rest → first ≢ [] → IsNamesText rest ns → IsNamesText left (first ∷ ns)
whole_list None first None ns is some text = absurd (some is)
whole_list None first (Some r) ns is some text = absurd is
whole_list (Some t) first None [] is some text = (some_list first [], sym is.0)
whole_list (Some t) first None (n ∷ ns) is some text = absurd (some_list n ns text)
whole_list (Some t) first (Some r) [] is some text = absurd (text.0 refl)
whole_list (Some t) first (Some r) (n ∷ ns) is some text = (some_list first (n ∷ ns), is.parts ∙ ap (λ (bytes : List ℕ). first ++ 44 ∷ bytes) text.1)

-- where no name is left, it is empty
none_left : (left : Option (Bor (List ℕ))) (first : List ℕ) (rest : Option (Bor (List ℕ))) → IsFirstName left first rest → IsNamesText left [] → first ≡ []
none_left None first None is text = is
none_left None first (Some r) is text = absurd is
none_left (Some t) first rest is text = absurd (text.0 refl)

-- Piece by piece

-- the groups have the same pieces of those before this one
abbrev pub Agree : ℕ → ℕ → ℕ → Type 0
Agree p g h = (q : ℕ) → q < p → is_left_out g q ≡ is_left_out h q

-- the names of a group's pieces from this one on
abbrev pub names_on : List (List ℕ) → ℕ → ℕ → List (List ℕ)
names_on names piece g = names_from piece g (drop piece names)

-- the pieces before this one are read: of each group whose names these are, those of the others are left
pub record ReadsNames (names : List (List ℕ)) (text : List ℕ) (piece group : ℕ) (left : Option (Bor (List ℕ))) : Type 0 where
  pub small : group < 2 ^ piece
  pub goes : (g : ℕ) → names_from 0 g names ≢ [] → text ≡ group_text names g → IsNamesText left (names_on names piece g)
  pub comes : (g : ℕ) → Agree piece g group → IsNamesText left (names_on names piece g) → (names_from 0 g names ≢ []) × (text ≡ group_text names g)

-- a piece's bit
bit_set : (group p : ℕ) → is_left_out (bit_or group (2 ^ p)) p ≡ false
bit_set group p = not_left_out (bit_or group (2 ^ p)) p (λ none. let some = pow_pos p in let same = and_or_self (2 ^ p) group in omega arith)

bit_other : (group p q : ℕ) → q ≢ p → is_left_out (bit_or group (2 ^ p)) q ≡ is_left_out group q
bit_other group p q other = ap (λ n. n == 0) (and_or_apart (2 ^ q) group (2 ^ p) (pow_apart p q (λ e. other (sym e))))

module _ (names : List (List ℕ)) (text : List ℕ) (piece group : ℕ) (left rest : Option (Bor (List ℕ))) (name : List ℕ) (are : AreNames names) (inside : piece < length names) (reads : ReadsNames names text piece group left) (first : IsFirstName left name rest) where
  -- the piece's own name
  abbrev pub own : List ℕ
  own = get_or names piece []

  own_is_name : IsName own
  own_is_name = are.each piece [] inside

  -- its name comes next where it is of the group
  next_in : (g : ℕ) → is_left_out g piece ≡ false → names_on names piece g ≡ own ∷ names_on names (piece + 1) g
  next_in g bit = rw (names_from-at names piece g inside, bit) refl

  next_out : (g : ℕ) → is_left_out g piece ≡ true → names_on names piece g ≡ names_on names (piece + 1) g
  next_out g bit = rw (names_from-at names piece g inside, bit) refl

  -- the names of later pieces are others
  later_are_others : All (Other own) (drop (piece + 1) names)
  later_are_others k d below =
      let here : piece + 1 + k < length names = omega (arith, length-drop (piece + 1) names) in
      let same : get_or (drop (piece + 1) names) k d ≡ get_or names (piece + 1 + k) d = get_or-drop (piece + 1) names k d in
      λ e. are.apart piece (piece + 1 + k) [] (omega arith) here (e ∙ same ∙ get_or_default names (piece + 1 + k) d [] here)

  -- a name that is the piece's comes of it alone
  taken_goes : name ≡ own → (g : ℕ) → IsNamesText left (names_on names piece g) → IsNamesText rest (names_on names (piece + 1) g)
  taken_goes is g is_left = by (is_left_out g piece) refl
    where
      not_later : (ns : List (List ℕ)) → All (Other own) ns → All IsName ns → ¬ IsNamesText left ns
      not_later [] others each none = some_name own own_is_name (sym is ∙ none_left left name rest first none)
      not_later (n ∷ ns) others each some =
          All-head (Other own) n ns others (sym is ∙ (first_of_list left name rest n ns first some (lacks_other 44 n refl (All-head IsName n ns each).each)).0)

      by : (test : Bool) → is_left_out g piece ≡ test → IsNamesText rest (names_on names (piece + 1) g)
      by false bit = (first_of_list left name rest own _ first (subst (IsNamesText left) (next_in g bit) is_left) (lacks_other 44 own refl own_is_name.each)).1
      by true bit =
          absurd (not_later (names_on names (piece + 1) g) (each_from (Other own) (piece + 1) g _ later_are_others) (each_from IsName (piece + 1) g _ (All-drop IsName (piece + 1) names are.each))
          (subst (IsNamesText left) (next_out g bit) is_left))

  -- the piece's name is read
  pub taken : name ≡ own → (after : ℕ) → after ≡ bit_or group (2 ^ piece) → ReadsNames names text (piece + 1) after rest
  taken is after set = record {
    small = rw set (or_lt (piece + 1) group (2 ^ piece) (let more = pow_below piece (piece + 1) (omega arith) in let small = reads.small in omega arith) (pow_below piece (piece + 1) (omega arith)));
    goes = λ g some e. taken_goes is g (reads.goes g some e);
    comes = λ g agree text.
        let bit : is_left_out g piece ≡ false = agree piece (omega arith) ∙ ap (λ n. is_left_out n piece) set ∙ bit_set group piece in
        let before : Agree piece g group = λ q below. agree q (omega arith) ∙ ap (λ n. is_left_out n q) set ∙ bit_other group piece q (omega arith) in
        let whole = whole_list left name rest (names_on names (piece + 1) g) first (λ e. some_name own own_is_name (sym is ∙ e)) text in
        reads.comes g before (subst (IsNamesText left) (ap (λ (n : List ℕ). n ∷ names_on names (piece + 1) g) is ∙ sym (next_in g bit)) whole);
  }

  -- another name than the piece's is read
  pub passed : name ≢ own → ReadsNames names text (piece + 1) group left
  passed other = record {
    small = let more = pow_below piece (piece + 1) (omega arith) in let small = reads.small in omega arith;
    goes = λ g some e. by g (reads.goes g some e) (is_left_out g piece) refl;
    comes = λ g agree text.
        let bit : is_left_out g piece ≡ true = agree piece (omega arith) ∙ left_out group piece (no_bit_above group piece piece reads.small (omega arith)) in
        reads.comes g (λ q below. agree q (omega arith)) (subst (IsNamesText left) (sym (next_out g bit)) text);
  }
    where
      by : (g : ℕ) → IsNamesText left (names_on names piece g) → (test : Bool) → is_left_out g piece ≡ test → IsNamesText left (names_on names (piece + 1) g)
      by g text true bit = subst (IsNamesText left) (next_out g bit) text
      by g text false bit = absurd (other (first_of_list left name rest own _ first (subst (IsNamesText left) (next_in g bit) text) (lacks_other 44 own refl own_is_name.each)).0)

-- At the end

-- where a name is left, these are no group's
pub none_named : (names : List (List ℕ)) (text : List ℕ) (piece group : ℕ) (left : Bor (List ℕ)) → length names ≤ piece → ReadsNames names text piece group (Some left) → (g : ℕ) → g ≢ 0 → g < 2 ^ length names → ¬ (text ≡ group_text names g)
none_named names text piece group left all reads g some small e =
    let goes = subst (IsNamesText (Some left)) (ap (names_from piece g) (drop_all piece names all)) (reads.goes g (some_names g names some small) e) in
    goes.0 refl

-- where none is left, they are those of the group
pub named : (names : List (List ℕ)) (text : List ℕ) (piece group : ℕ) → piece ≡ length names → ReadsNames names text piece group None → (group ≢ 0) × (group < 2 ^ length names) × (text ≡ group_text names group)
named names text piece group all reads =
    let is = reads.comes group (λ q below. refl) (ap (names_from piece group) (drop_all piece names (omega arith))) in
    (λ none. is.0 (ap (λ g. names_from 0 g names) none ∙ no_names 0 names), subst (λ n. group < 2 ^ n) all reads.small, is.1)
