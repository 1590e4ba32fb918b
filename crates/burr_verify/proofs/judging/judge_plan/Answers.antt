use Rattle.std.proofs.Common.{◌≡◌, length, refl, sym, subst, ap, ◌∙◌}
use Rattle.std.proofs.lemmas.Result.{err_from_is_err_and}
use Rattle.std.proofs.lemmas.Bool.{false≢true}
use Rattle.burr_assembly.specs.Rules.Homes.{homes_of}
use Rattle.burr_assembly.specs.Rules.Text.{Assembly}
use Rattle.burr_verify.specs.Rules.Fitting.{FitsAssembly}
use Rattle.burr_verify.specs.Views.Judgements.{judgement_of}
use Rattle.burr_verify.proofs.Parts.{as_many_homes, fits_refused, frames_refused, start_refused, code_judged}
use Rattle.burr_verify.proofs.judging.judge_plan.Goals as goal

pub returns-in_err-fits_assembly-clause-looked : goal.returns-in_err-fits_assembly-clause-looked
returns-in_err-fits_assembly-clause-looked g c =
    let a = c.args.looks.now.assembly in
    let e = err_from_is_err_and c.from_residual.result c.from_residual.ensures.1 in
    rw (e.1, e.2)
    (λ p is. fits_refused p a _ c.args.looks.now.count c.requires.none
    (λ fits. absurd (false≢true ((c.in_err-fits_assembly.ensures.fits p is).1
    (subst (λ (b : Assembly). FitsAssembly p b) (sym c.assembly.ensures) fits))))
    c.in_err-fits_assembly.ensures.refusal)

pub returns-in_err-judge_all_frames-clause-looked : goal.returns-in_err-judge_all_frames-clause-looked
returns-in_err-judge_all_frames-clause-looked g c =
    let a = c.args.looks.now.assembly in
    let e =
    err_from_is_err_and c.from_residual-in_err-judge_all_frames.result c.from_residual-in_err-judge_all_frames.ensures.1 in
    rw (e.1, e.2)
    (λ p is. frames_refused p a _ c.args.looks.now.count c.requires.none
    (subst (λ (b : Assembly). FitsAssembly p b) c.assembly.ensures ((c.in_ok-fits_assembly.ensures.fits p is).0 refl))
    (c.in_err-judge_all_frames.ensures p is))

pub returns-in_err-judge_start-clause-looked : goal.returns-in_err-judge_start-clause-looked
returns-in_err-judge_start-clause-looked g c =
    let a = c.args.looks.now.assembly in
    let e = err_from_is_err_and c.from_residual-in_err-judge_start.result c.from_residual-in_err-judge_start.ensures.1 in
    let many : length (homes_of a) ≡ c.piece_count.result =
    as_many_homes a ∙ ap (λ (b : Assembly). length b.pieces) (sym c.assembly-2.ensures) ∙ sym c.piece_count.ensures.count in
    rw (e.1, e.2)
    (λ p is. start_refused p a _ c.args.looks.now.count c.requires.none
    (subst (λ (b : Assembly). FitsAssembly p b) c.assembly.ensures ((c.in_ok-fits_assembly.ensures.fits p is).0 refl))
    (c.in_ok-judge_all_frames.ensures p is) (c.in_err-judge_start.ensures p (homes_of a) is many))

pub returns-clause-looked : goal.returns-clause-looked
returns-clause-looked g c =
    let a = c.args.looks.now.assembly in
    let many : length (homes_of a) ≡ c.piece_count.result =
    as_many_homes a ∙ ap (λ (b : Assembly). length b.pieces) (sym c.assembly-2.ensures) ∙ sym c.piece_count.ensures.count in
    λ p is.
    code_judged p a (judgement_of c.judge_all_code.result) c.judge_all_code.new.looks.count
    (subst (λ (b : Assembly). FitsAssembly p b) c.assembly.ensures ((c.in_ok-fits_assembly.ensures.fits p is).0 refl))
    (c.in_ok-judge_all_frames.ensures p is) (c.in_ok-judge_start.ensures p (homes_of a) is many)
    (c.judge_all_code.ensures.looked p is)
