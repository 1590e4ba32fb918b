use Rattle.std.proofs.Common.{rules, sym, subst, ap, ◌∙◌, arith}
use Rattle.std.specs.Option.{is_some}
use Rattle.burr_asm.specs.Views.LineWords.{procedure_words}
use Rattle.burr_asm.specs.Views.Routines.{OutlineParts, RoutineParts, begun}
use Rattle.burr_asm.specs.Views.Exits.{IsSignature}
use Rattle.burr_asm.specs.declared.text.signature.Signature.{Signature}
use Rattle.burr_asm.proofs.HeadRefusals.{head_counts, head_full, head_known, head_passed, no_number}
use Rattle.burr_asm.proofs.text.outline.Outline.begin.Goals as goal

pub returns-then-count-ge-MOST_PROCEDURES : goal.returns-then-count-ge-MOST_PROCEDURES
returns-then-count-ge-MOST_PROCEDURES c =
    head_full c.args.self.now (procedure_words c.args.words) c.args.line c.self.inside.names (ap (λ (o : OutlineParts). o.names) c.self.view_is)
    (c.if-is_some.ensures ∙ ap is_some c.number.ensures) c.count.result c.in-Some.ensures.0 c.count.ensures c.if-count-ge-MOST_PROCEDURES.true

pub returns-then-is_some : goal.returns-then-is_some
returns-then-is_some c =
    head_known c.args.self.now (procedure_words c.args.words) c.args.line c.self.inside.names
    (ap (λ (o : OutlineParts). o.names) c.self.view_is) (c.if-is_some.ensures ∙ ap is_some c.number.ensures)

pub returns-in_default : goal.returns-in_default
returns-in_default c =
    head_counts c.args.self.now (procedure_words c.args.words) c.args.line c.self.inside.names
    (ap (λ (o : OutlineParts). o.names) c.self.view_is) (c.if-is_some.ensures ∙ ap is_some c.number.ensures) c.in_default.ensures

pub add-requires-clause-room : goal.add-requires-clause-room
add-requires-clause-room c = omega arith

pub add-requires-clause-new : goal.add-requires-clause-new
add-requires-clause-new c = no_number _ _ (c.if-is_some.ensures ∙ ap is_some c.number.ensures)

pub returns : goal.returns
returns c =
    let signature = ap (λ (r : RoutineParts). r.signature) c.new.ensures in (
      head_passed c.args.self.now (procedure_words c.args.words) c.args.line c.self.inside.names (ap (λ (o : OutlineParts). o.names) c.self.view_is)
          (c.if-is_some.ensures ∙ ap is_some c.number.ensures) c.count.result c.in-Some.ensures.0 c.count.ensures c.if-count-ge-MOST_PROCEDURES.false,
      c.new.ensures ∙ ap begun (sym signature),
      subst (λ (s : Signature). IsSignature s c.args.self.now.version (procedure_words c.args.words)) (sym signature) c.in-Some.ensures.1,
      search rules,
    )
