use Rattle.std.proofs.Common.{◌∙◌, map}
use Rattle.burr_code.specs.Instruction.{AreLabels}
use Rattle.burr_plantext.specs.Rules.Meaning.{number_of}
use Rattle.burr_plantext.specs.Rules.Texts.{words_of}
use Rattle.burr_asm.proofs.StatementBytes.{are_labels, picked}
use Rattle.burr_asm.proofs.text.statement.pick.Goals as goal

pub unreachable-requires : goal.unreachable-requires
unreachable-requires c =
    let numbers = map (number_of c.args.labels.now) (words_of c.args.offer.names.now) in
    let may_be : AreLabels numbers = are_labels c.args.labels.now (words_of c.args.offer.names.now) c.args.offer.count c.args.offer.counted c.args.offer.several c.args.offer.few c.in_ok-bytes.ensures.1 in
    c.in-None.ensures numbers may_be (c.deref.ensures.value ∙ c.in_ok-bytes.ensures.2)

pub returns : goal.returns
returns c =
    let numbers = map (number_of c.args.labels.now) (words_of c.args.offer.names.now) in (
      c.in_ok-bytes.ensures.0,
      c.in_ok-encode-in-Some.ensures ∙ picked c.in-Some.offer numbers c.deref.result.now c.in-Some.ensures.1 (c.deref.ensures.value ∙ c.in_ok-bytes.ensures.2),
    )
