use Rattle.std.proofs.Common.{◌≡◌, ◌+◌, ◌^◌, ◌≤◌, ℕ, List, length, refl, sym, ap, subst, ◌∙◌, arith}
use Rattle.std.specs.Prelude.{Result, Ok}
use Rattle.std.proofs.lemmas.List.{length-map}
use Rattle.std.proofs.lemmas.Option.{same_Some}
use Rattle.burr_voxels.specs.declared.cell.Cell.{Cell}
use Rattle.burr_assembly.specs.Rules.Homes.{homes_of, home_of}
use Rattle.burr_blocking.specs.Rules.Counted.{Counted, HasCounted}
use Rattle.burr_blocking.proofs.Common.Counts.{none_more}
use Rattle.burr_code.specs.Instruction.{Instruction, StandsAt}
use Rattle.burr_code.specs.Meaning.{meaning, NoneStandsAt}
use Rattle.burr_frames.specs.Views.Breaks.{broken_of}
use Rattle.burr_frames.specs.declared.rule.Break.{Break}
use Rattle.burr_frames.specs.declared.rule.Rule.TheVariants as rules
use Rattle.burr_frames.specs.Rules.FramedPlans.{FramedPlan, FramedProcedure, framed_plan}
use Rattle.burr_frames.specs.Rules.Looks.{HasRoom, RuleLooks}
use Rattle.burr_frames.specs.Rules.States.{AbstractState}
use Rattle.burr_frames.specs.Rules.Transfer.{Transfer}
use Rattle.burr_frames.proofs.Common.Room.{room_kept}
use Rattle.burr_frames.proofs.Common.RuleLooks.{few_rule_looks}
use Rattle.burr_verify.specs.declared.states.Successor.{Successor}
use Rattle.burr_verify.specs.Rules.Pass.{lacks_instruction, hides, breaks}
use Rattle.burr_verify.specs.Views.LookViews.{HasRoomBefore}
use Rattle.burr_verify.specs.Views.Judgements.{verdict_of}
use Rattle.burr_verify.proofs.JudgedOn.{plainly_refused}
use Rattle.burr_verify.proofs.LookedOn.{looks_fallen, looks_left}
use Rattle.burr_verify.proofs.Stages.{code_read, stops_by, none_found, one_found, none_where, some_where, hides_none, hides_one, told_broken}
use Rattle.burr_verify.proofs.passing.judge_at.Goals as goal

-- what the rule of an instruction says, of the state that there was and of the result that there is
rule_of : (homes : List (List Cell)) (plan : FramedPlan) (n : ℕ) (here : FramedProcedure) (i : Instruction) (new : AbstractState)
    (b s : AbstractState) (r result : Result Successor Break) → b ≡ s → r ≡ result
    → Transfer homes plan n here b i (verdict_of new r) → Transfer homes plan n here s i (verdict_of new result)
rule_of homes plan n here i new b s r result same is rule =
    subst (λ (t : AbstractState). Transfer homes plan n here t i (verdict_of new result)) same
    (subst (λ (q : Result Successor Break). Transfer homes plan n here b i (verdict_of new q)) is rule)

-- the looks of one rule are few
abbrev AreFew : Counted → Counted → Type 0
AreFew old new = (new.count ≤ old.count + 2 ^ 20) × (new.assembly ≡ old.assembly)

rule_is_few : (s : AbstractState) (i : Instruction) (old new : Counted) → length old.assembly.pieces ≤ 32
    → HasRoom s → HasCounted (RuleLooks (homes_of old.assembly) s i) old new → AreFew old new
rule_is_few s i old new few room (n, looks, counted) =
    let homes : length (homes_of old.assembly) ≡ length old.assembly.pieces =
    length-map old.assembly.pieces (home_of old.assembly.shapes) in
    let little = few_rule_looks (homes_of old.assembly) s i n (omega (arith, homes, few)) room looks in
    let sum = ap (λ (l : Counted). l.count) counted in
    (omega (arith, little, sum), ap (λ (l : Counted). l.assembly) counted)

pub returns-in_default-clause-passes : goal.returns-in_default-clause-passes
returns-in_default-clause-passes g c = λ s is p here kept at.
    (let code = code_read c.args.procedure.container.now c.args.procedure.number c.code.result.now c.code.ensures.plan p here kept at in (
      0,
      stops_by (homes_of c.args.looks.now.assembly) (framed_plan p) c.args.procedure.number here _ c.plain.result _ 0 (plainly_refused c.plain.result c.number.result c.args.pc c.args.procedure.number c.args.pc rules.BadCode c.plain.ensures c.number.ensures.number refl)
          (lacks_instruction c.args.pc s (subst (λ (bytes : List ℕ). NoneStandsAt bytes c.args.pc) code c.in_default.ensures.stands), refl),
      none_more c.args.looks.now,
    ))

pub returns-then-is_some-clause-passes : goal.returns-then-is_some-clause-passes
returns-then-is_some-clause-passes g c = λ s is p here kept at.
    (let found = some_where c.label_within.result c.if-is_some.ensures in
    let l = one_found here (c.args.pc + 1) (c.args.pc + c.in-Some.size) found.0 c.label_within.result found.1 (c.label_within.ensures.found p here kept at) in
    let stands = subst (λ (bytes : List ℕ). StandsAt bytes c.args.pc (meaning c.in-Some.instruction)) (code_read c.args.procedure.container.now c.args.procedure.number c.code.result.now c.code.ensures.plan p here kept at) c.in-Some.ensures.stands.0 in (
      0,
      stops_by (homes_of c.args.looks.now.assembly) (framed_plan p) c.args.procedure.number here _ c.plain-then-is_some.result _ 0 (plainly_refused c.plain-then-is_some.result c.number-then-is_some.result c.args.pc c.args.procedure.number c.args.pc rules.BadLabel c.plain-then-is_some.ensures c.number-then-is_some.ensures.number refl) (
        hides c.args.pc s (meaning c.in-Some.instruction) stands
            (hides_one here c.args.pc c.in-Some.size found.0 (meaning c.in-Some.instruction) l.0 c.in-Some.ensures.stands.1 l.1 l.2 l.3),
        refl,
      ),
      none_more c.args.looks.now,
    ))

pub returns-in-Ok-FallsThrough-clause-within : goal.returns-in-Ok-FallsThrough-clause-within
returns-in-Ok-FallsThrough-clause-within g c = λ p here kept at.
    subst (λ (bytes : List ℕ). c.args.pc + c.in-Some.size ≤ length bytes)
    (code_read c.args.procedure.container.now c.args.procedure.number c.code.result.now c.code.ensures.plan p here kept at) c.in-Some.ensures.within

pub returns-in-Ok-FallsThrough-clause-passes : goal.returns-in-Ok-FallsThrough-clause-passes
returns-in-Ok-FallsThrough-clause-passes g c = λ s is p here kept at.
    (let same : c.in-Some-state.before ≡ s = same_Some _ _ (sym c.in-Some-state.is ∙ is) in
    let stands = subst (λ (bytes : List ℕ). StandsAt bytes c.args.pc (meaning c.in-Some.instruction)) (code_read c.args.procedure.container.now c.args.procedure.number c.code.result.now c.code.ensures.plan p here kept at) c.in-Some.ensures.stands.0 in
    let bare = hides_none here c.args.pc c.in-Some.size (meaning c.in-Some.instruction) c.in-Some.ensures.stands.1 (none_found here (c.args.pc + 1) (c.args.pc + c.in-Some.size) c.label_within.result (none_where c.label_within.result c.if-is_some.ensures) (c.label_within.ensures.found p here kept at)) in
    let homes = homes_of c.args.looks.now.assembly in
    let rule = rule_of homes (framed_plan p) c.args.procedure.number here (meaning c.in-Some.instruction) c.transfer.new.state _ _ _ _ same (c.in-Ok-FallsThrough.is ∙ ap Ok c.in-Ok-FallsThrough.field-0-is) (c.transfer.ensures.verdict p here kept at) in
    let counted = c.transfer.ensures.counted in
    let looked = subst (λ (b : AbstractState). RuleLooks homes b (meaning c.in-Some.instruction) counted.0) same counted.1 in (
      counted.0,
      looks_fallen homes (framed_plan p) c.args.procedure.number here c.args.pc c.in-Some.size s c.transfer.new.state (meaning c.in-Some.instruction) counted.0 stands c.in-Some.ensures.stands.1 bare rule looked,
      counted.2,
    ))

pub returns-in-Ok-FallsThrough-clause-points : goal.returns-in-Ok-FallsThrough-clause-points
returns-in-Ok-FallsThrough-clause-points g c =
    let p = c.requires.framed.0 in
    let here = c.requires.framed.1 in
    let kept = c.requires.framed.2 in
    let at = c.requires.framed.3 in
    let homes = homes_of c.args.looks.now.assembly in
    let rule = rule_of homes (framed_plan p) c.args.procedure.number here (meaning c.in-Some.instruction) c.transfer.new.state _ _ _ _ (λ i. c.in-Some-state.before) (c.in-Ok-FallsThrough.is ∙ ap Ok c.in-Ok-FallsThrough.field-0-is) (c.transfer.ensures.verdict p here kept at) in
    room_kept homes (framed_plan p) c.args.procedure.number here c.in-Some-state.before c.transfer.new.state (meaning c.in-Some.instruction) (subst HasRoomBefore c.in-Some-state.is c.requires.points) rule

pub returns-in-Ok-FallsThrough-clause-few : goal.returns-in-Ok-FallsThrough-clause-few
returns-in-Ok-FallsThrough-clause-few g c = (rule_is_few c.in-Some-state.before _ c.args.looks.now _ c.requires.few_pieces (subst HasRoomBefore c.in-Some-state.is c.requires.points) c.transfer.ensures.counted).0

pub returns-in-Ok-FallsThrough-clause-same : goal.returns-in-Ok-FallsThrough-clause-same
returns-in-Ok-FallsThrough-clause-same g c = (rule_is_few c.in-Some-state.before _ c.args.looks.now _ c.requires.few_pieces (subst HasRoomBefore c.in-Some-state.is c.requires.points) c.transfer.ensures.counted).1

pub returns-in-Ok-None-clause-within : goal.returns-in-Ok-None-clause-within
returns-in-Ok-None-clause-within g c = λ p here kept at.
    subst (λ (bytes : List ℕ). c.args.pc + c.in-Some.size ≤ length bytes)
    (code_read c.args.procedure.container.now c.args.procedure.number c.code.result.now c.code.ensures.plan p here kept at) c.in-Some.ensures.within

pub returns-in-Ok-None-clause-passes : goal.returns-in-Ok-None-clause-passes
returns-in-Ok-None-clause-passes g c = λ s is p here kept at.
    (let same : c.in-Some-state.before ≡ s = same_Some _ _ (sym c.in-Some-state.is ∙ is) in
    let stands = subst (λ (bytes : List ℕ). StandsAt bytes c.args.pc (meaning c.in-Some.instruction)) (code_read c.args.procedure.container.now c.args.procedure.number c.code.result.now c.code.ensures.plan p here kept at) c.in-Some.ensures.stands.0 in
    let bare = hides_none here c.args.pc c.in-Some.size (meaning c.in-Some.instruction) c.in-Some.ensures.stands.1 (none_found here (c.args.pc + 1) (c.args.pc + c.in-Some.size) c.label_within.result (none_where c.label_within.result c.if-is_some.ensures) (c.label_within.ensures.found p here kept at)) in
    let homes = homes_of c.args.looks.now.assembly in
    let rule = rule_of homes (framed_plan p) c.args.procedure.number here (meaning c.in-Some.instruction) c.transfer.new.state _ _ _ _ same (c.in-Ok-None.is ∙ ap Ok c.in-Ok-None.field-0-is) (c.transfer.ensures.verdict p here kept at) in
    let counted = c.transfer.ensures.counted in
    let looked = subst (λ (b : AbstractState). RuleLooks homes b (meaning c.in-Some.instruction) counted.0) same counted.1 in (
      counted.0,
      looks_left homes (framed_plan p) c.args.procedure.number here c.args.pc c.in-Some.size s (meaning c.in-Some.instruction) counted.0 stands c.in-Some.ensures.stands.1 bare rule looked,
      counted.2,
    ))

pub returns-in-Ok-None-clause-few : goal.returns-in-Ok-None-clause-few
returns-in-Ok-None-clause-few g c = (rule_is_few c.in-Some-state.before _ c.args.looks.now _ c.requires.few_pieces (subst HasRoomBefore c.in-Some-state.is c.requires.points) c.transfer.ensures.counted).0

pub returns-in-Ok-None-clause-same : goal.returns-in-Ok-None-clause-same
returns-in-Ok-None-clause-same g c = (rule_is_few c.in-Some-state.before _ c.args.looks.now _ c.requires.few_pieces (subst HasRoomBefore c.in-Some-state.is c.requires.points) c.transfer.ensures.counted).1

pub returns-in-Err-clause-passes : goal.returns-in-Err-clause-passes
returns-in-Err-clause-passes g c = λ s is p here kept at.
    (let same : c.in-Some-state.before ≡ s = same_Some _ _ (sym c.in-Some-state.is ∙ is) in
    let stands = subst (λ (bytes : List ℕ). StandsAt bytes c.args.pc (meaning c.in-Some.instruction)) (code_read c.args.procedure.container.now c.args.procedure.number c.code.result.now c.code.ensures.plan p here kept at) c.in-Some.ensures.stands.0 in
    let bare = hides_none here c.args.pc c.in-Some.size (meaning c.in-Some.instruction) c.in-Some.ensures.stands.1 (none_found here (c.args.pc + 1) (c.args.pc + c.in-Some.size) c.label_within.result (none_where c.label_within.result c.if-is_some.ensures) (c.label_within.ensures.found p here kept at)) in
    let homes = homes_of c.args.looks.now.assembly in
    let rule = rule_of homes (framed_plan p) c.args.procedure.number here (meaning c.in-Some.instruction) c.transfer.new.state _ _ _ _ same (c.in-Err.is) (c.transfer.ensures.verdict p here kept at) in
    let counted = c.transfer.ensures.counted in
    let looked = subst (λ (b : AbstractState). RuleLooks homes b (meaning c.in-Some.instruction) counted.0) same counted.1 in (
      counted.0,
      stops_by homes (framed_plan p) c.args.procedure.number here _ c.of.result _ counted.0
          (told_broken c.of.result c.number-in-Err.result c.args.procedure.number c.args.pc (broken_of c.in-Err.broken) c.of.ensures c.number-in-Err.ensures.number)
          (breaks c.args.pc s (meaning c.in-Some.instruction) (broken_of c.in-Err.broken) stands bare rule, looked),
      counted.2,
    ))

pub returns-in-Err-clause-few : goal.returns-in-Err-clause-few
returns-in-Err-clause-few g c = (rule_is_few c.in-Some-state.before _ c.args.looks.now _ c.requires.few_pieces (subst HasRoomBefore c.in-Some-state.is c.requires.points) c.transfer.ensures.counted).0

pub returns-in-Err-clause-same : goal.returns-in-Err-clause-same
returns-in-Err-clause-same g c = (rule_is_few c.in-Some-state.before _ c.args.looks.now _ c.requires.few_pieces (subst HasRoomBefore c.in-Some-state.is c.requires.points) c.transfer.ensures.counted).1
