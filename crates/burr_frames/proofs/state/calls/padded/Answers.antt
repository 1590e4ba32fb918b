-- A form more in its place.
use Rattle.std.proofs.Common.{◌-◌, ◌∙◌, ap, sym, subst, length, pos, arith}
use Rattle.std.specs.Prelude.{replicate}
use Rattle.std.proofs.lemmas.Int.{ints}
use Rattle.std.proofs.lemmas.List.Elements.{All-append, All-replicate}
use Rattle.burr_forms.specs.Rules.Forms.{number, substituted, IsSmall, IsSmallForm, AllSmallForms}
use Rattle.burr_frames.proofs.CallArguments.{one_put, all_put}
use Rattle.burr_frames.proofs.Common.FormValues.{substituted_filled}
use Rattle.burr_frames.proofs.state.calls.padded.Goals as goal

pub loop-symbol-preserved : goal.loop-symbol-preserved
loop-symbol-preserved c =
    one_put (number (pos 0)) c.index-forms-symbol.result c.loop-symbol.symbol c.args.forms.now c.loop-symbol.padded c.loop-symbol-test.true c.requires.few
    c.index-forms-symbol.is c.loop-symbol.invariant

zero_small : IsSmall (pos 0)
zero_small = (omega (arith, ints), omega (arith, ints))

pub returns : goal.returns
returns c =
    let forms = c.args.forms.now in
    let rest = 8 - length forms in
    let is = all_put (number (pos 0)) c.loop-symbol.symbol forms c.loop-symbol.padded c.loop-symbol-test.false c.loop-symbol.auto.symbol-end c.loop-symbol.invariant in
    record {
      padded = ap substituted is ∙ substituted_filled forms rest;
      small = subst AllSmallForms (sym is)
          (All-append IsSmallForm forms (replicate rest (number (pos 0))) c.requires.small
          (All-replicate IsSmallForm rest (number (pos 0)) (zero_small, All-replicate IsSmall 8 (pos 0) zero_small)));
    }
