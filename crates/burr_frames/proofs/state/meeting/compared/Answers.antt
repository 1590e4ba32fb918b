-- Small forms after small forms.
use Rattle.std.proofs.Common.{◌≡◌, ◌++◌, List, sym, subst}
use Rattle.std.proofs.lemmas.List.Elements.{All-append, All-nil}
use Rattle.burr_forms.specs.Rules.Forms.{Form, IsSmallForm, AllSmallForms}
use Rattle.burr_frames.specs.Views.Comparing.{offset_forms}
use Rattle.burr_frames.proofs.Offsets.{small_offsets}
use Rattle.burr_frames.proofs.state.meeting.compared.Goals as goal

more : (front forms now : List Form) → now ≡ front ++ forms → AllSmallForms front → AllSmallForms forms → AllSmallForms now
more front forms now is small of_forms = subst AllSmallForms (sym is) (All-append IsSmallForm front forms small of_forms)

pub returns-clause-small : goal.returns-clause-small
returns-clause-small c =
    more _ (offset_forms c.args.places.now) _ c.append_offsets.ensures
    (more _ c.args.operands.now _ c.extend-3.ensures
    (more _ c.args.others.now _ c.extend-2.ensures
    (more _ c.args.symbols.now _ c.extend.ensures (subst AllSmallForms (sym c.new-forms.ensures) (All-nil IsSmallForm)) c.requires.small) c.requires.others_small)
    c.requires.operands_small) (small_offsets c.args.places.now c.requires.places_small)
