-- For crates above: exit frames that are read in place are the plan's.
use Rattle.std.proofs.Common.{◌≡◌, ℕ, ◌∙◌, Option, Some, None, length, refl, sym, ap}
use Rattle.std.specs.Prelude.{option_map}
use Rattle.burr_container.specs.declared.frame_ref.ExitRef.{ExitRef}
use Rattle.burr_container.specs.Rules.Plans.{ExitFrame, exit_symbols}
use Rattle.burr_container.specs.Views.InPlace.{IsExit}
use Rattle.burr_container.specs.Views.Refs.{parameters_of}
use Rattle.burr_frames.specs.Rules.FramedPlans.{framed_exit}
use Rattle.burr_frames.specs.Views.Exits.{framed_ref}

pub no_exit : (pieces parameters results : ℕ) (exit : Option ExitFrame) → IsExit pieces parameters results None exit
    → option_map (framed_exit (exit_symbols parameters results)) exit ≡ None
no_exit pieces parameters results None is = refl
no_exit pieces parameters results (Some f) is = absurd is

pub exit_there : (pieces parameters results : ℕ) (kept : ExitRef) (exit : Option ExitFrame)
    → IsExit pieces parameters results (Some kept) exit
    → option_map (framed_exit (exit_symbols parameters results)) exit ≡ Some (framed_ref kept)
exit_there pieces parameters results kept None is = absurd is
exit_there pieces parameters results kept (Some f) is = λ i. Some (framed_exit (sym is.live i) (sym is.frame i))

-- it knows how many parameters there are
pub parameters_there : (pieces parameters results : ℕ) (kept : ExitRef) (exit : Option ExitFrame)
    → IsExit pieces parameters results (Some kept) exit → parameters_of kept ≡ parameters
parameters_there pieces parameters results kept None is = absurd is
parameters_there pieces parameters results kept (Some f) is = is.over

-- it has a range for each result
pub ranges_there : (pieces parameters results : ℕ) (kept : ExitRef) (exit : Option ExitFrame)
    → IsExit pieces parameters results (Some kept) exit → length (framed_ref kept).results ≡ results
ranges_there pieces parameters results kept None is = absurd is
ranges_there pieces parameters results kept (Some f) is = ap (λ (e : ExitFrame). length e.results) is.frame ∙ is.many
