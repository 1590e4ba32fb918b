-- A drive, however it is called, tells of the moves of its run.
use Rattle.std.proofs.Common.{◌≡◌, ℕ, ◌+◌, ℤ, List, [], ◌∷◌, ◌++◌, length, length-append, append-nil, append_assoc, refl, sym, ap, subst, ◌∙◌, arith}
use Rattle.burr_state.specs.Rules.Bench.{BenchState, Setup, start}
use Rattle.burr_step.specs.declared.drive.Move.{Move}
use Rattle.burr_step.specs.Rules.Moves.{ComesToRest, MakesMove, MakesMoves, rests, moves, IsLed, leg, moves_of}
use Rattle.burr_step.specs.Rules.Drive.{Led}
use Rattle.burr_step.specs.Laws.MoveLaws.{IsDriven, stands, next, goes, takes, AreAmong, none, one, passed, DriveTellsItsRun}
use Rattle.burr_step.proofs.Driving.{LedTo, led_more, led_answered}

-- what a run is led by, with as many moves more as there are
led_many : (setup : Setup) (n : ℕ) (s last new : BenchState) (legs : List (List Move)) (answers : List ℤ) (ms : List Move) → IsLed setup n s legs answers last
    → (k : ℕ) → k ≡ n + length (moves_of legs) → MakesMoves setup k last ms new → LedTo setup n s legs ms answers new
led_many setup n s _ _ legs answers _ led _ same (rests k last at) = record { all = legs; run = led; moves = sym (append-nil (moves_of legs)) }
led_many setup n s _ _ legs answers _ led _ same (moves k last mid new m ms first rest) =
    let on = led_more setup n s last mid legs answers m led (subst (λ (j : ℕ). MakesMove setup j last m mid) same first) in
    let count : length (moves_of on.all) ≡ length (moves_of legs) + 1 = ap length on.moves ∙ length-append (moves_of legs) (m ∷ []) in
    let more = led_many setup n s mid new on.all answers ms on.run (k + 1) (counted k n (length (moves_of legs)) (length (moves_of on.all)) same count) rest in
    record {
      all = more.all;
      run = more.run;
      moves = more.moves ∙ ap (λ (l : List Move). l ++ ms) on.moves ∙ append_assoc (moves_of legs) (m ∷ []) ms;
    }
  where
    counted : (k n l all : ℕ) → k ≡ n + l → all ≡ l + 1 → k + 1 ≡ n + all
    counted k n l all same count = omega (arith, same, count)

told_among : (setup : Setup) (d last : Led) (made told : List Move) (answers : List ℤ) → IsDriven setup d made told answers last → AreAmong told made
told_among setup d _ _ _ _ stands = none
told_among setup d _ _ _ _ (next e last m made told answers before on) = one m told made (told_among setup d e made told answers before)
told_among setup d _ _ _ _ (goes e last number made told answers before on) = passed told made on.ms (told_among setup d e made told answers before)
told_among setup d _ _ _ _ (takes e last answer made told answers before on) = told_among setup d e made told answers before

-- what a run is led by, where a drive was led so
pub record LedSo (setup : Setup) (made : List Move) (answers : List ℤ) (last : Led) : Type 0 where
  pub legs : List (List Move)
  pub run : IsLed setup 0 (start setup) legs answers last.state
  pub moves : moves_of legs ≡ made
  pub count : last.moves ≡ length made

led_so : (setup : Setup) (d last : Led) (made told : List Move) (answers : List ℤ) → ComesToRest setup (start setup) d.state → d.moves ≡ 0
    → IsDriven setup d made told answers last → LedSo setup made answers last
led_so setup d _ _ _ _ begins none_yet stands = record {
  legs = [] ∷ [];
  run = leg 0 (start setup) d.state d.state [] begins (rests 0 d.state begins.1);
  moves = refl;
  count = none_yet;
}
led_so setup d _ _ _ _ begins none_yet (next e last m made told answers before (s, move, is)) =
    let so = led_so setup d e made told answers begins none_yet before in
    let on = led_more setup 0 (start setup) e.state s so.legs answers m so.run
    (subst (λ (n : ℕ). MakesMove setup n e.state m s) (so.count ∙ sym (ap length so.moves) ∙ none_before (length (moves_of so.legs))) move) in record {
      legs = on.all;
      run = subst (λ (x : BenchState). IsLed setup 0 (start setup) on.all answers x) (sym (ap (λ (l : Led). l.state) is)) on.run;
      moves = on.moves ∙ ap (λ (l : List Move). l ++ m ∷ []) so.moves;
      count = ap (λ (l : Led). l.moves) is ∙ ap (λ (n : ℕ). n + 1) so.count ∙ sym (length-append made (m ∷ []));
    }
  where
    none_before : (n : ℕ) → n ≡ 0 + n
    none_before n = omega arith
led_so setup d _ _ _ _ begins none_yet (goes e last number made told answers before to) =
    let so = led_so setup d e made told answers begins none_yet before in
    let on = led_many setup 0 (start setup) e.state last.state so.legs answers to.ms so.run e.moves
    (so.count ∙ sym (ap length so.moves) ∙ none_before (length (moves_of so.legs))) to.makes in record {
      legs = on.all;
      run = on.run;
      moves = on.moves ∙ ap (λ (l : List Move). l ++ to.ms) so.moves;
      count = to.moves ∙ ap (λ (n : ℕ). n + length to.ms) so.count ∙ sym (length-append made to.ms);
    }
  where
    none_before : (n : ℕ) → n ≡ 0 + n
    none_before n = omega arith
led_so setup d _ _ _ _ begins none_yet (takes e last answer made told answers before (taken, s, called, rest, is)) =
    let so = led_so setup d e made told answers begins none_yet before in
    let on = led_answered setup 0 (start setup) e.state taken s so.legs answers answer so.run called rest in record {
      legs = on.all;
      run = subst (λ (x : BenchState). IsLed setup 0 (start setup) on.all (answers ++ answer ∷ []) x) (sym (ap (λ (l : Led). l.state) is)) on.run;
      moves = on.moves ∙ append-nil (moves_of so.legs) ∙ so.moves;
      count = ap (λ (l : Led). l.moves) is ∙ so.count;
    }

pub tells_run : DriveTellsItsRun
tells_run setup d last made told answers begins none_yet driven =
    let so = led_so setup d last made told answers begins none_yet driven in record {
      legs = so.legs;
      run = so.run;
      made_are = so.moves;
      told_are = told_among setup d last made told answers driven;
      moves = so.count;
    }
