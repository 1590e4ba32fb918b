-- The parts of the judgement, put together.
use Rattle.std.proofs.Common.{◌≡◌, ℕ, length, sym, ap, ◌∙◌, inl, inr}
use Rattle.std.proofs.lemmas.List.{length-map}
use Rattle.burr_assembly.specs.Rules.Text.{Assembly}
use Rattle.burr_assembly.specs.Rules.Homes.{home_of, homes_of}
use Rattle.burr_container.specs.Rules.Plans.{Plan}
use Rattle.burr_frames.specs.Rules.FramedPlans.{framed_plan}
use Rattle.burr_frames.specs.declared.rule.Rule.TheVariants as rules
use Rattle.burr_verify.specs.declared.refusal.Refusal.{Refusal}
use Rattle.burr_verify.specs.Rules.Fitting.{FitsAssembly}
use Rattle.burr_verify.specs.Rules.Judging.{judging_frames, judging_start, nothing, passes}
use Rattle.burr_verify.specs.Rules.Pass.{Judgement, Passed, Refuses}
use Rattle.burr_verify.specs.Rules.PassLooks.{Looking, looking_code}
use Rattle.burr_verify.specs.Views.Judgements.{failed_check}
use Rattle.burr_verify.specs.Views.Refusals.{plain_refusal}
use Rattle.burr_verify.proofs.Before.{checks_frames, part_after, part_refuses}

-- there are as many homes as pieces
pub as_many_homes : (a : Assembly) → length (homes_of a) ≡ length a.pieces
as_many_homes a = length-map a.pieces (home_of a.shapes)

-- the judgement of the plan for the assembly, by this many looks
abbrev LookedFor : Plan → Assembly → Judgement → ℕ → Type 0
LookedFor p a j looks = Looking a.name (homes_of a) (framed_plan p) j looks

for_homes : (p : Plan) (a : Assembly) → FitsAssembly p a → (p.name ≡ a.name) × (p.pieces ≡ length (homes_of a))
for_homes p a fits = (fits.0, fits.1 ∙ sym (as_many_homes a))

pub fits_refused : (p : Plan) (a : Assembly) (r : Refusal) (looks : ℕ) → looks ≡ 0 → (¬ FitsAssembly p a)
    → r ≡ plain_refusal 0 0 rules.OtherAssembly → LookedFor p a (Refuses (failed_check r)) looks
fits_refused p a r looks none other is =
    inl (
      inl (
        (λ fits. other (fits.0, fits.1 ∙ as_many_homes a)),
        ap (λ q. Refuses (failed_check q)) is,
      ),
      none,
    )

pub frames_refused : (p : Plan) (a : Assembly) (r : Refusal) (looks : ℕ) → looks ≡ 0 → FitsAssembly p a
    → judging_frames 0 (framed_plan p).procedures nothing (Refuses (failed_check r))
    → LookedFor p a (Refuses (failed_check r)) looks
frames_refused p a r looks none fits refused =
    inl (
      inr (
        for_homes p a fits,
        part_refuses (checks_frames 0 (framed_plan p).procedures) _ refused (judging_start (homes_of a) (framed_plan p) nothing),
      ),
      none,
    )

-- the frames hold, and then the start
framed : (p : Plan) (a : Assembly) (rest : Judgement → Type 0) (j : Judgement)
    → judging_frames 0 (framed_plan p).procedures passes Passed → judging_start (homes_of a) (framed_plan p) rest j
    → judging_frames 0 (framed_plan p).procedures (judging_start (homes_of a) (framed_plan p) rest) j
framed p a rest j holds start =
    part_after (checks_frames 0 (framed_plan p).procedures) holds (judging_start (homes_of a) (framed_plan p) rest) j start

pub start_refused : (p : Plan) (a : Assembly) (r : Refusal) (looks : ℕ) → looks ≡ 0 → FitsAssembly p a
    → judging_frames 0 (framed_plan p).procedures passes Passed
    → judging_start (homes_of a) (framed_plan p) nothing (Refuses (failed_check r))
    → LookedFor p a (Refuses (failed_check r)) looks
start_refused p a r looks none fits frames refused =
    inl (inr (for_homes p a fits, framed p a nothing _ frames refused), none)

pub code_judged : (p : Plan) (a : Assembly) (j : Judgement) (looks : ℕ) → FitsAssembly p a
    → judging_frames 0 (framed_plan p).procedures passes Passed
    → judging_start (homes_of a) (framed_plan p) passes Passed
    → looking_code (homes_of a) (framed_plan p) 0 (framed_plan p).procedures j looks → LookedFor p a j looks
code_judged p a j looks fits frames start code =
    inr (inr (for_homes p a fits, framed p a passes Passed frames start), code)
