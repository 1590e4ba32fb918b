-- What a motion closes of what is to come.
use Rattle.std.proofs.Common.{◌≡◌, ◌≢◌, ℕ, suc, ◌+◌, List, [], ◌∷◌, ◌++◌, Bool, true, false, Option, Some, None, refl, sym, ap, ◌∙◌, arith, append_assoc}
use Rattle.std.specs.List.{join_with_byte}
use Rattle.std.proofs.KnownBytes.{Appends-nil, Appends-trans}
use Rattle.std.specs.Io.KnownBytes.{Appends}
use Rattle.burr_io.specs.Sink.{SinkView, FailsWithin}
use Rattle.burr_io.proofs.Common.Puts.{FailsWithin-more, FailsWithin-first}
use Rattle.burr_state.specs.declared.effect.Motion.{Motion}
use Rattle.burr_state.specs.declared.effect.Closing.{Closing}
use Rattle.burr_sheet.specs.Rules.SheetText.{MoveLine, alone, with_motion, longest_lines, levels_from, move_words, move_line, move_lines, levels_line, closing_line, is_one}
use Rattle.burr_sheet.specs.Views.SheetUnderWay.{UnderWay, with_growing, to_come, Closes, ClosesBefore, PutsBefore, PutsMotion, FailsInMotion}
use Rattle.burr_sheet.proofs.GrowingLines.{with_growing-other, with_growing-fresh, with_growing-longer, with_growing-ended, is_one-own}
use Rattle.burr_sheet.proofs.OneClosing.{not_empty}

-- a line is closed
abbrev pub with_line : UnderWay → UnderWay
with_line u = record u { growing = None; lines = u.lines + 1; level = u.level + 1 }

-- a line is closed by an aside
abbrev pub with_out : UnderWay → UnderWay
with_out u = record u { growing = None; lines = u.lines + 1; level = 0; levels = u.levels ++ (u.level + 1) ∷ [] }

levels_from-line : (n : ℕ) (l : MoveLine) (ls : List MoveLine) → l.out ≡ false → levels_from n (l ∷ ls) ≡ levels_from (n + 1) ls
levels_from-line n l ls goes = rw goes

levels_from-out : (n : ℕ) (l : MoveLine) (ls : List MoveLine) → l.out ≡ true → levels_from n (l ∷ ls) ≡ (n + 1) ∷ levels_from 0 ls
levels_from-out n l ls out = rw out

-- what is to come of these lines
abbrev come : UnderWay → List MoveLine → ℕ → Closing → List ℕ
come u lines steps closing =
    move_lines u.names (u.lines + 1) lines ++ levels_line (u.levels ++ levels_from u.level lines) ++ closing_line closing steps

regroup : (a b c d e f : List ℕ) → b ≡ c → d ≡ e → ((a ++ b) ++ d) ++ f ≡ a ++ ((c ++ e) ++ f)
regroup a b c d e f same too = rw (same, too) (simp append_assoc)

-- the first line, and what is to come after it
module _ (u : UnderWay) (lines : List MoveLine) (l : MoveLine) (ls : List MoveLine) (parts : with_growing u.growing lines ≡ l ∷ ls) (steps : ℕ) (closing : Closing) where
  numbered : move_lines u.names (suc (u.lines + 1)) ls ≡ move_lines u.names ((u.lines + 1) + 1) ls
  numbered = let same : suc (u.lines + 1) ≡ (u.lines + 1) + 1 = omega arith in ap (λ n. move_lines u.names n ls) same

  pub to_come-line : l.out ≡ false → to_come u lines steps closing ≡ move_line u.names (u.lines + 1) l ++ to_come (with_line u) ls steps closing
  to_come-line goes =
      ap (λ xs. come u xs steps closing) parts
      ∙ regroup (move_line u.names (u.lines + 1) l) _ _ _ _ (closing_line closing steps) numbered (ap (λ ns. levels_line (u.levels ++ ns)) (levels_from-line u.level l ls goes))

  pub to_come-out : l.out ≡ true → to_come u lines steps closing ≡ move_line u.names (u.lines + 1) l ++ to_come (with_out u) ls steps closing
  to_come-out out =
      ap (λ xs. come u xs steps closing) parts
      ∙ regroup (move_line u.names (u.lines + 1) l) _ _ _ _ (closing_line closing steps) numbered
      (ap levels_line (ap (λ ns. u.levels ++ ns) (levels_from-out u.level l ls out) ∙ sym (append_assoc u.levels ((u.level + 1) ∷ []) (levels_from 0 ls))))

-- the same lines are to come with another growing line
to_come-same : (u : UnderWay) (growing : Option MoveLine) (lines others : List MoveLine) → with_growing u.growing lines ≡ with_growing growing others → (steps : ℕ) (closing : Closing)
    → to_come u lines steps closing ≡ to_come (record u { growing = growing }) others steps closing
to_come-same u growing lines others same steps closing = ap (λ xs. come u xs steps closing) same

-- a line is some bytes, and so is what it ends
some_line : (front : List ℕ) (names : List (List ℕ)) (n : ℕ) (l : MoveLine) → front ++ move_line names n l ≢ []
some_line front names n l e = not_empty front (join_with_byte 32 (move_words names n l)) [] (sym e)

-- The line that a motion goes on

-- it is the first, or the first after an aside
pub PutsBefore-fresh : {S : Type 0} (sink : SinkView S) (old : S) (u : UnderWay) (m : Motion) (g : MoveLine)
    → u.growing ≡ None → is_one g (alone m) ≡ true → g.units ≡ 0
    → PutsBefore sink old old u m (record u { growing = Some g })
PutsBefore-fresh sink old u m g is one none = (
  [],
  Appends-nil (sink.taken old),
  λ lines steps closing.
      to_come-same u (Some g) (with_motion m lines) (with_motion m lines)
      (ap (λ growing. with_growing growing (with_motion m lines)) is ∙ sym (with_growing-fresh g m lines one none))
      steps closing,
)

-- the growing line is another: it is closed before the motion
pub ClosesBefore-other : (u : UnderWay) (m : Motion) (l g : MoveLine)
    → u.growing ≡ Some l → l.out ≡ false → is_one l (alone m) ≡ false → is_one g (alone m) ≡ true → g.units ≡ 0
    → ClosesBefore u m (record (with_line u) { growing = Some g }) (move_line u.names (u.lines + 1) l)
ClosesBefore-other u m l g is goes other one none lines steps closing =
    to_come-line u (with_motion m lines) l (with_motion m lines)
    (ap (λ growing. with_growing growing (with_motion m lines)) is ∙ with_growing-other l m lines other)
    steps closing goes
    ∙ ap (λ t. move_line u.names (u.lines + 1) l ++ t)
    (to_come-same (with_line u) (Some g) (with_motion m lines) (with_motion m lines)
    (sym (with_growing-fresh g m lines one none)) steps closing)

-- What the motion does to it

module _ (u v : UnderWay) (m : Motion) (g : MoveLine) (bytes : List ℕ) (before : ClosesBefore u m v bytes)
    (is : v.growing ≡ Some g) (one : is_one g (alone m) ≡ true) where
  -- a step makes it longer
  Closes-step : m.out ≡ false → g.out ≡ false
      → Closes u m (record v { growing = Some (record g { units = g.units + 1 }) }) bytes
  Closes-step step goes ms steps closing =
      before (longest_lines ms) steps closing
      ∙ ap (λ t. bytes ++ t)
      (to_come-same v (Some (record g { units = g.units + 1 })) (with_motion m (longest_lines ms)) (longest_lines ms)
      (ap (λ growing. with_growing growing (with_motion m (longest_lines ms))) is
      ∙ with_growing-longer g m (longest_lines ms) one step goes) steps closing)

  -- an aside closes it
  Closes-out : m.out ≡ true
      → Closes u m (with_out v) (bytes ++ move_line v.names (v.lines + 1) (record g { out = true }))
  Closes-out out ms steps closing =
      before (longest_lines ms) steps closing
      ∙ ap (λ t. bytes ++ t)
      (to_come-out v (with_motion m (longest_lines ms)) (record g { out = true }) (longest_lines ms)
      (ap (λ growing. with_growing growing (with_motion m (longest_lines ms))) is
      ∙ with_growing-ended g m (longest_lines ms) one out) steps closing refl)
      ∙ sym (append_assoc bytes _ (to_come (with_out v) (longest_lines ms) steps closing))

module _ {S : Type 0} (sink : SinkView S) (old mid : S) (u v : UnderWay) (m : Motion) (g : MoveLine)
    (before : PutsBefore sink old mid u m v) (is : v.growing ≡ Some g) (one : is_one g (alone m) ≡ true) where
  pub PutsMotion-step : m.out ≡ false → g.out ≡ false
      → PutsMotion sink old mid u m (record v { growing = Some (record g { units = g.units + 1 }) })
  PutsMotion-step step goes = (before.0, before.1, Closes-step u v m g before.0 before.2 is one step goes)

  pub PutsMotion-out : (new : S) → m.out ≡ true
      → Appends (sink.taken mid) (sink.taken new) (move_line v.names (v.lines + 1) (record g { out = true }))
      → PutsMotion sink old new u m (with_out v)
  PutsMotion-out new out went = (
    before.0 ++ move_line v.names (v.lines + 1) (record g { out = true }),
    Appends-trans _ _ _ before.0 _ before.1 went,
    Closes-out u v m g before.0 before.2 is one out,
  )

  -- the sink fails within the line that an aside closes
  pub FailsInMotion-out : (new : S) → m.out ≡ true
      → FailsWithin sink mid new (move_line v.names (v.lines + 1) (record g { out = true }))
      → FailsInMotion sink old new u m
  FailsInMotion-out new out short = (
    with_out v,
    before.0 ++ move_line v.names (v.lines + 1) (record g { out = true }),
    Closes-out u v m g before.0 before.2 is one out,
    some_line before.0 v.names (v.lines + 1) (record g { out = true }),
    FailsWithin-more before.0 before.1 short,
  )

-- the sink fails within the growing line, which is another than the motion's
module _ {S : Type 0} (sink : SinkView S) (old new : S) (u : UnderWay) (m : Motion) (l : MoveLine)
    (is : u.growing ≡ Some l) (goes : l.out ≡ false) (other : is_one l (alone m) ≡ false)
    (short : FailsWithin sink old new (move_line u.names (u.lines + 1) l)) where
  -- the line of the motion, which has not yet gone on it
  abbrev own : MoveLine
  own = record (alone m) { units = 0; out = false }

  abbrev next : UnderWay
  next = record (with_line u) { growing = Some own }

  before_it : ClosesBefore u m next (move_line u.names (u.lines + 1) l)
  before_it = ClosesBefore-other u m l own is goes other (is_one-own (alone m) 0 false) refl

  by : (out : Bool) → m.out ≡ out → FailsInMotion sink old new u m
  by false step = (
    record next { growing = Some (record own { units = own.units + 1 }) },
    move_line u.names (u.lines + 1) l,
    Closes-step u next m own _ before_it refl (is_one-own (alone m) 0 false) step refl,
    some_line [] u.names (u.lines + 1) l,
    short,
  )
  by true out = (
    with_out next,
    move_line u.names (u.lines + 1) l ++ move_line next.names (next.lines + 1) (record own { out = true }),
    Closes-out u next m own _ before_it refl (is_one-own (alone m) 0 false) out,
    some_line (move_line u.names (u.lines + 1) l) next.names (next.lines + 1) (record own { out = true }),
    FailsWithin-first _ short,
  )

  pub FailsInMotion-other : FailsInMotion sink old new u m
  FailsInMotion-other = by m.out refl
