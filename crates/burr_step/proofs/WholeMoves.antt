-- Whole moves: the lines into which a sheet joins their motions, and that there is one way to make them.
use Rattle.std.proofs.Common.{◌≡◌, ◌⊎◌, ℕ, zero, suc, ◌+◌, ◌<◌, List, [], ◌∷◌, ◌++◌, length, Bool, true, false, append-nil, Option, Some, None, refl, sym, ap, subst, ◌∙◌, inl, inr, arith}
use Rattle.std.specs.Prelude.{is_some}
use Rattle.std.proofs.lemmas.Option.{same_Some}
use Rattle.burr_code.specs.Instruction.{Aside, StandsAt}
use Rattle.burr_code.proofs.Common.Reading.{one_stands_at}
use Rattle.burr_voxels.specs.declared.direction.Direction.{Direction}
use Rattle.burr_state.specs.declared.effect.Motion.{Motion}
use Rattle.burr_state.specs.Rules.Bench.{BenchProcedure, BenchState, Setup}
use Rattle.burr_sheet.specs.Rules.SheetText.{MoveLine, alone, goes_onto, longest_lines, motion_count, motion_on, motions_of, is_one}
use Rattle.burr_sheet.specs.Views.MotionLines.{joins}
use Rattle.burr_sheet.proofs.Common.LineMotions.{begins_with, longest_lines-first, none_of_none}
use Rattle.burr_step.specs.declared.drive.Move.{Move}
use Rattle.burr_step.specs.Rules.Moves.{Makes, stays, Rests, line_of, GoesAsideTo, GoesOutTo, AreApartBy, IsWhole, MakesMove, MakesMoves, rests, moves}
use Rattle.burr_step.specs.Laws.MoveLaws.{motions_made, MovesAreJoined, OneMove, OneWay}
use Rattle.burr_step.proofs.Ahead.{aside_rests}
use Rattle.burr_step.proofs.ApartSets.{same_apart}
use Rattle.burr_step.proofs.Making.{makes_on, Either, either, moves_next, rested, same_rest}

-- A line and what follows it

-- of the same group, tray and direction as a line
record IsLike (m : Motion) (l : MoveLine) : Type 0 where
  group : m.group ≡ l.group
  tray : m.tray ≡ l.tray
  direction : m.dir ≡ l.direction

-- the line with this many units, which an aside ends or not
abbrev of_units : MoveLine → ℕ → Bool → MoveLine
of_units l units out = record { group = l.group; tray = l.tray; direction = l.direction; units = units; out = out }

first_in : (m : Motion) (ms more : List Motion) (l : MoveLine) (units : ℕ) (out : Bool) → 0 < motion_count (of_units l units out)
    → m ∷ ms ≡ motions_of (of_units l units out) ++ more → IsLike m l
first_in m ms more l zero true some is =
    let same : m ≡ motion_on l true = cc in
    record { group = ap (λ (n : Motion). n.group) same; tray = ap (λ (n : Motion). n.tray) same; direction = ap (λ (n : Motion). n.dir) same }
first_in m ms more l zero false some is = absurd (omega arith)
first_in m ms more l (suc units) out some is =
    let same : m ≡ motion_on l false = cc in
    record { group = ap (λ (n : Motion). n.group) same; tray = ap (λ (n : Motion). n.tray) same; direction = ap (λ (n : Motion). n.dir) same }

-- the first of motions is like their first line
first_like : (m : Motion) (ms : List Motion) (l : MoveLine) (ls : List MoveLine) → longest_lines (m ∷ ms) ≡ l ∷ ls → IsLike m l
first_like m ms l ls lines =
    let b = begins_with (m ∷ ms) l ls lines in
    first_in m ms b.more l l.units l.out b.some b.parts

like_alone : (l k : MoveLine) (m : Motion) → IsLike m k → is_one l k ≡ is_one l (alone m)
like_alone l k m like = rw (sym like.group, sym like.tray, sym like.direction) refl

not_onto : (l k : MoveLine) (out : Bool) → l.out ≡ out → (l.out ≡ false → is_one l k ≡ false) → goes_onto (motion_on l l.out) k ≡ false
not_onto l k true is apart = rw is refl
not_onto l k false is apart = rw is (apart is)

-- a whole line does not join the lines of what follows
apart_from : (l : MoveLine) (rest : List Motion) (ls : List MoveLine) → longest_lines rest ≡ ls
    → ((m : Motion) (ms : List Motion) → rest ≡ m ∷ ms → l.out ≡ false → is_one l (alone m) ≡ false) → joins l ls ≡ false
apart_from l rest [] lines whole = refl
apart_from l [] (k ∷ ks) lines whole = absurd (none lines)
  where
    none : [] ≡ k ∷ ks → ⊥
    none e = cc
apart_from l (m ∷ ms) (k ∷ ks) lines whole =
    not_onto l k l.out refl (λ step. like_alone l k m (first_like m ms k ks lines) ∙ whole m ms refl step)

-- so it is the first of the lines of its motions and of what follows
whole_first : (setup : Setup) (s t : BenchState) (l : MoveLine) (rest : List Motion) → IsWhole setup l s → Rests setup s → Makes setup s rest t
    → 0 < motion_count l → longest_lines (motions_of l ++ rest) ≡ l ∷ longest_lines rest
whole_first setup s t l rest whole at on some =
    longest_lines-first l rest
    (apart_from l rest (longest_lines rest) refl λ m ms is step.
    whole step m (moves_next setup s t m ms at (subst (λ (r : List Motion). Makes setup s r t) is on))) some

-- the motions of a line have it alone
line_back : (l : MoveLine) → 0 < motion_count l → longest_lines (motions_of l) ≡ l ∷ []
line_back l some = ap longest_lines (sym (append-nil (motions_of l))) ∙ longest_lines-first l [] refl some

pub moves_are_joined : MovesAreJoined
moves_are_joined setup _ _ _ _ (rests n s at) = (stays s, refl)
moves_are_joined setup _ _ _ _ (moves n s new last m ms made more) =
    let rest = moves_are_joined setup (n + 1) new last ms more in (
      makes_on setup s new last (motions_of (line_of m)) (motions_made ms) made.makes rest.0,
      whole_first setup new last (line_of m) (motions_made ms) made.whole made.rests rest.0 made.some
          ∙ ap (λ (ls : List MoveLine). line_of m ∷ ls) rest.1,
    )

-- One move

-- a move whose motions are those of another and more has no more
no_longer : (setup : Setup) (n : ℕ) (s new other : BenchState) (m k : Move) (more : List Motion) → MakesMove setup n s m new → MakesMove setup n s k other
    → motions_of (line_of k) ≡ motions_of (line_of m) ++ more → Makes setup new more other → more ≡ []
no_longer setup n s new other m k more p q is on = by more refl
  where
    lines : longest_lines (motions_of (line_of m) ++ more) ≡ line_of k ∷ []
    lines = ap longest_lines (sym is) ∙ line_back (line_of k) q.some

    by : (rest : List Motion) → more ≡ rest → more ≡ []
    by [] e = e
    by (x ∷ rest) e =
        let first : longest_lines (motions_of (line_of m) ++ more) ≡ line_of m ∷ longest_lines (x ∷ rest) =
        whole_first setup new other (line_of m) more p.whole p.rests on p.some ∙ ap (λ (r : List Motion). line_of m ∷ longest_lines r) e in
        let last : longest_lines (x ∷ rest) ≡ [] = tails (line_of m) (line_of k) (longest_lines (x ∷ rest)) [] (sym first ∙ lines) in
        absurd (some_none x rest (none_of_none (x ∷ rest) last))
      where
        tails : (a b : MoveLine) (ls ks : List MoveLine) → a ∷ ls ≡ b ∷ ks → ls ≡ ks
        tails a b ls ks e = cc

        some_none : (x : Motion) (rest : List Motion) → x ∷ rest ≡ [] → ⊥
        some_none x rest e = cc

-- two moves from one state end where one does, after the same motions
same_end : (setup : Setup) (n : ℕ) (s new other : BenchState) (m k : Move) → MakesMove setup n s m new → MakesMove setup n s k other
    → (motions_of (line_of m) ≡ motions_of (line_of k)) × (new ≡ other)
same_end setup n s new other m k p q = by (either setup s new other (motions_of (line_of m)) (motions_of (line_of k)) p.makes q.makes)
  where
    by : Either setup (motions_of (line_of m)) (motions_of (line_of k)) new other → (motions_of (line_of m) ≡ motions_of (line_of k)) × (new ≡ other)
    by (inl (more, is, on)) =
        let none = no_longer setup n s new other m k more p q is on in (
          sym (is ∙ ap (λ (r : List Motion). motions_of (line_of m) ++ r) none ∙ append-nil (motions_of (line_of m))),
          rested setup new other more p.rests on none,
        )
    by (inr (more, is, on)) =
        let none = no_longer setup n s other new k m more q p is on in (
          is ∙ ap (λ (r : List Motion). motions_of (line_of k) ++ r) none ∙ append-nil (motions_of (line_of k)),
          sym (rested setup other new more q.rests on none),
        )

-- lines of the same motions are the same
same_line : (a b : MoveLine) → 0 < motion_count a → 0 < motion_count b → motions_of a ≡ motions_of b → a ≡ b
same_line a b some also same = heads a b (sym (line_back a some) ∙ ap longest_lines same ∙ line_back b also)
  where
    heads : (a b : MoveLine) → a ∷ [] ≡ b ∷ [] → a ≡ b
    heads a b e = cc

-- an aside that stands next goes to one tray
same_tray : (setup : Setup) (s : BenchState) (tray other : ℕ) → GoesAsideTo setup s tray → GoesAsideTo setup s other → tray ≡ other
same_tray setup s tray other (here, d, at) (there, e, also) =
    let runs : there ≡ here = same_Some there here (sym also.0 ∙ at.0) in
    let stands = subst (λ (p : BenchProcedure). StandsAt p.code s.running.pc (Aside e other)) runs also.1 in
    trays d e (one_stands_at here.code s.running.pc (Aside d tray) (Aside e other) at.1 stands)
  where
    trays : (d e : Direction) → Aside d tray ≡ Aside e other → tray ≡ other
    trays d e same = cc

same_out : (setup : Setup) (s : BenchState) (l : MoveLine) (out other : Option ℕ) → is_some out ≡ is_some other → GoesOutTo setup s l out
    → GoesOutTo setup s l other → out ≡ other
same_out setup s l None None same p q = refl
same_out setup s l None (Some tray) same p q = absurd (no_yes same)
  where
    no_yes : false ≡ true → ⊥
    no_yes e = cc
same_out setup s l (Some tray) None same p q = absurd (yes_no same)
  where
    yes_no : true ≡ false → ⊥
    yes_no e = cc
same_out setup s l (Some tray) (Some other) same (before, on, aside) (also, way, goes) =
    let one = same_rest setup s before also _ on (aside_rests setup before tray aside) way (aside_rests setup also other goes) in
    ap Some (same_tray setup before tray other aside (subst (λ (x : BenchState). GoesAsideTo setup x other) (sym one) goes))

pub one_move : OneMove
one_move setup n s new other m k p q =
    let same = same_end setup n s new other m k p q in
    let line = same_line (line_of m) (line_of k) p.some q.some same.0 in
    let out = same_out setup s (line_of m) m.out k.out (ap (λ (l : MoveLine). l.out) line) p.to
    (subst (λ (l : MoveLine). GoesOutTo setup s l k.out) (sym line) q.to) in
    let apart = same_apart s new m.apart k.apart p.apart (subst (λ (x : BenchState). AreApartBy s k.apart x) (sym same.1) q.apart) in
    let number = p.number ∙ sym q.number in (
      (λ i. record {
        number = number i;
        tray = (line i).tray;
        group = (line i).group;
        direction = (line i).direction;
        units = (line i).units;
        out = out i;
        apart = apart i;
      }),
      same.1,
    )

-- Moves

pub same_more : (m k : Move) (ms ks : List Move) → m ≡ k → ms ≡ ks → m ∷ ms ≡ k ∷ ks
same_more m k ms ks same rest = ap (λ (x : Move). x ∷ ms) same ∙ ap (λ (l : List Move). k ∷ l) rest

-- no move at all, or a first one and those that follow it
abbrev pub Begins : Setup → ℕ → BenchState → List Move → BenchState → Type 0
Begins setup n s ms last =
    ((ms ≡ []) × (s ≡ last))
    ⊎ ((m : Move) × (rest : List Move) × (new : BenchState) × (ms ≡ m ∷ rest) × MakesMove setup n s m new × MakesMoves setup (n + 1) new rest last)

pub begins : (setup : Setup) (n : ℕ) (s last : BenchState) (ms : List Move) → MakesMoves setup n s ms last → Begins setup n s ms last
begins setup _ _ _ _ (rests n s at) = inl (refl, refl)
begins setup _ _ _ _ (moves n s new last m ms made more) = inr (m, ms, new, refl, made, more)

pub one_way : OneWay
one_way setup _ _ _ other _ ks (rests n s at) q count = by (begins setup n s other ks q)
  where
    by : Begins setup n s ks other → ([] ≡ ks) × (s ≡ other)
    by (inl (none, here)) = (sym none, here)
    by (inr (m, rest, new, is, made, more)) = absurd (some (length rest) (count ∙ ap length is))
      where
        some : (k : ℕ) → 0 ≡ suc k → ⊥
        some k e = absurd (omega (arith, e))
one_way setup _ _ _ other _ ks (moves n s new last m ms made more) q count =
    by (begins setup n s other ks q) (λ ls on same. one_way setup (n + 1) new last other ms ls more on same)
  where
    by : Begins setup n s ks other → ((ls : List Move) → MakesMoves setup (n + 1) new ls other → length ms ≡ length ls → (ms ≡ ls) × (last ≡ other))
        → (m ∷ ms ≡ ks) × (last ≡ other)
    by (inl (none, here)) later = absurd (some (length ms) (count ∙ ap length none))
      where
        some : (k : ℕ) → suc k ≡ 0 → ⊥
        some k e = absurd (omega (arith, e))
    by (inr (k, ls, there, is, also, on)) later =
        let one = one_move setup n s new there m k made also in
        let rest = later ls (subst (λ (x : BenchState). MakesMoves setup (n + 1) x ls other) (sym one.1) on)
        (fewer (length ms) (length ls) (count ∙ ap length is)) in
        (same_more m k ms ls one.0 rest.0 ∙ sym is, rest.1)
      where
        fewer : (a b : ℕ) → suc a ≡ suc b → a ≡ b
        fewer a b e = omega (arith, e)
