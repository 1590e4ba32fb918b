-- The question of `ask`: each fitting answer leads to a state for which the bench stands.
use Rattle.std.proofs.Common.{◌≡◌, [], ◌∷◌, ◌++◌, length, Some, None, refl, sym, subst, ap, ◌∙◌}
use Rattle.std.specs.Prelude.{ℤ, pos, ◌-ℤ◌, ◌≤ℤ◌}
use Rattle.burr_code.specs.Instruction.{Ask}
use Rattle.burr_forms.specs.Rules.Forms.{Point, value, one_less, symbol}
use Rattle.burr_frames.specs.Rules.FramedPlans.{FramedProcedure}
use Rattle.burr_frames.specs.Rules.QuestionRules.{ask_rule}
use Rattle.burr_frames.specs.Rules.States.{AbstractState}
use Rattle.burr_frames.specs.Rules.Verdicts.{Verdict}
use Rattle.burr_frames.specs.Views.Over.{IsTidy}
use Rattle.burr_state.specs.Rules.Bench.{BenchState}
use Rattle.burr_state.specs.Rules.Next.{Next, Goes, after}
use Rattle.burr_state.specs.Rules.Questions.{Fits}
use Rattle.burr_state.specs.Rules.Numbers.{pushed}
use Rattle.burr_bench.specs.Soundness.Standing.{Stands}
use Rattle.burr_bench.proofs.Soundness.StepOutcomes.{FallsOn}
use Rattle.burr_frames.proofs.Common.FineVerdicts.{IsFine, held, paid}
use Rattle.burr_bench.proofs.Soundness.Operands.{pays}
use Rattle.burr_bench.proofs.Soundness.Values.{value_more, value_symbol, box_length, box_more, values_more, guards_more, places_more}

pub sound_ask : (here : FramedProcedure) (s : AbstractState) (point : Point) (b : BenchState) (v : Verdict) (next : Next) → IsFine v → Stands s point b
    → IsTidy s → (low high x : ℤ) → ask_rule s low high v → Fits low high x → next ≡ Goes (after (Ask low high) (pushed x b.running) b) None
    → FallsOn here (Ask low high) s point b v next
sound_ask here s point b v next fine st tidy low high x t fits goes =
    let is = st.running.is_point in
    let n : length point ≡ length s.ranges = box_length s.ranges point is.0 in
    let more : Point = x ∷ [] in
    let top : value (point ++ more) (symbol (length s.ranges)) ≡ x = value_symbol (length s.ranges) point x [] n in (
      _,
      (paid s fine (held fine (held fine t).1).1).1,
      record {
        new = _;
        motion = _;
        next_is = goes;
        there = point ++ more;
        stands = record {
          running = record {
            is_point = (
              box_more s.ranges ((low, high) ∷ []) point more is.0 (fits, tt),
              guards_more point more _ n s.guards tidy.guards is.1,
            );
            slots_known =
                λ k f e. st.running.slots_known k f e
                ∙ ap Some (sym (value_more point more _ n f (tidy.slots k f e)));
            slots_as_many = st.running.slots_as_many;
            operands_are =
                ap (λ y. y ∷ b.running.operands) (sym top)
                ∙ ap (λ ys. value (point ++ more) (symbol (length s.ranges)) ∷ ys) (st.running.operands_are
                ∙ sym (values_more point more _ n s.operands tidy.operands));
          };
          lie = record {
            places = st.lie.places ∙ sym (places_more point more _ n s.places tidy.places);
            tray = st.lie.tray;
            grip = st.lie.grip;
          };
        };
        paid =
            subst (λ z. z ≤ℤ (value point s.cost -ℤ pos 1))
            (sym (value_more point more _ n (one_less s.cost) tidy.cost)) (pays s.cost point);
        control = refl;
        kept = λ j below. refl;
      },
    )
