-- Steps without an answer, the motions that they make, and where a run rests.
use Rattle.std.proofs.Common.{◌≡◌, ◌⊎◌, List, [], ◌∷◌, ◌++◌, append_assoc, append-nil, Option, Some, None, Result, Ok, refl, sym, ap, subst, ◌∙◌, inl, inr}
use Rattle.std.specs.Option.{option_to_list}
use Rattle.burr_state.specs.declared.effect.Motion.{Motion}
use Rattle.burr_state.specs.declared.effect.Progress.{Progress}
use Rattle.burr_state.specs.declared.effect.Progress.TheVariants as progress
use Rattle.burr_state.specs.declared.effect.Trap.{Trap}
use Rattle.burr_state.specs.Rules.Bench.{BenchState, Setup}
use Rattle.burr_state.specs.Rules.Step.{Called}
use Rattle.burr_state.proofs.Common.StepCalls.{call_is_one}
use Rattle.burr_step.specs.Rules.Moves.{Makes, stays, makes, Rests, MovesNext}

-- steps after steps
pub makes_on : (setup : Setup) (s t u : BenchState) (a b : List Motion) → Makes setup s a t → Makes setup t b u
    → Makes setup s (a ++ b) u
makes_on setup _ _ u _ b (stays s) q = q
makes_on setup _ _ u _ b (makes s new last motion motions called rest) q =
    subst (λ (l : List Motion). Makes setup s l u) (sym (append_assoc (option_to_list motion) motions b))
    (makes s new u motion (motions ++ b) called (makes_on setup new last u motions b rest q))

-- one step
pub one_made : (setup : Setup) (s new : BenchState) (motion : Option Motion)
    → Called setup s None (Ok (progress.Went motion)) new → Makes setup s (option_to_list motion) new
one_made setup s new motion called =
    subst (λ (l : List Motion). Makes setup s l new) (append-nil (option_to_list motion))
    (makes s new new motion [] called (stays new))

-- no step at all, or a first one and those that follow it
abbrev pub Begins : Setup → BenchState → List Motion → BenchState → Type 0
Begins setup s motions t =
    ((motions ≡ []) × (s ≡ t))
    ⊎ ((motion : Option Motion) × (rest : List Motion) × (new : BenchState) × (motions ≡ option_to_list motion ++ rest)
    × Called setup s None (Ok (progress.Went motion)) new × Makes setup new rest t)

pub begins : (setup : Setup) (s t : BenchState) (motions : List Motion) → Makes setup s motions t → Begins setup s motions t
begins setup _ _ _ (stays s) = inl (refl, refl)
begins setup _ _ _ (makes s new last motion motions called rest) = inr (motion, motions, new, refl, called, rest)

-- two steps from one state are one
motion_told : Result Progress Trap → Option Motion → Option Motion
motion_told (Ok (progress.Went motion)) other = motion
motion_told result other = other

pub same_step : (setup : Setup) (s new other : BenchState) (motion more : Option Motion)
    → Called setup s None (Ok (progress.Went motion)) new → Called setup s None (Ok (progress.Went more)) other
    → (motion ≡ more) × (new ≡ other)
unfolding motion_told
same_step setup s new other motion more p q =
    let one = call_is_one setup s new other None _ _ p q in
    (ap (λ (result : Result Progress Trap). motion_told result more) one.0, one.1)

-- Of two ways from a state one goes on where the other ends.
abbrev pub Either : Setup → List Motion → List Motion → BenchState → BenchState → Type 0
Either setup a b t u =
    ((more : List Motion) × (b ≡ a ++ more) × Makes setup t more u)
    ⊎ ((more : List Motion) × (a ≡ b ++ more) × Makes setup u more t)

before_both : (setup : Setup) (first a b : List Motion) (t u : BenchState) → Either setup a b t u
    → Either setup (first ++ a) (first ++ b) t u
before_both setup first a b t u (inl (more, is, on)) =
    inl (more, ap (λ (l : List Motion). first ++ l) is ∙ sym (append_assoc first a more), on)
before_both setup first a b t u (inr (more, is, on)) =
    inr (more, ap (λ (l : List Motion). first ++ l) is ∙ sym (append_assoc first b more), on)

pub either : (setup : Setup) (s t u : BenchState) (a b : List Motion) → Makes setup s a t → Makes setup s b u
    → Either setup a b t u
either setup _ _ u _ b (stays s) q = inl (b, refl, q)
either setup _ _ u _ b (makes s new last motion motions called rest) q =
    by_other (begins setup s u b q) (λ other l more. either setup new last u motions l rest more)
  where
    by_other : Begins setup s b u
        → ((other : BenchState) (l : List Motion) → Makes setup new l u → Either setup motions l last u)
        → Either setup (option_to_list motion ++ motions) b last u
    by_other (inl (none, here)) later =
        inr (
          option_to_list motion ++ motions,
          ap (λ (l : List Motion). l ++ (option_to_list motion ++ motions)) (sym none),
          subst (λ (x : BenchState). Makes setup x (option_to_list motion ++ motions) last) here
              (makes s new last motion motions called rest),
        )
    by_other (inr (first, l, other, is, also, more)) later =
        let same = same_step setup s new other motion first called also in
        let on = subst (λ (x : BenchState). Makes setup x l u) (sym same.1) more in
        let list : option_to_list motion ++ l ≡ b =
        ap (λ (m : Option Motion). option_to_list m ++ l) same.0 ∙ sym is in
        subst (λ (x : List Motion). Either setup (option_to_list motion ++ motions) x last u) list
        (before_both setup (option_to_list motion) motions l last u (later new l on))

-- Where a run rests

-- from there steps make no motion only where there are none
pub rested : (setup : Setup) (s t : BenchState) (motions : List Motion) → Rests setup s → Makes setup s motions t
    → motions ≡ [] → s ≡ t
rested setup s t motions rests on none = by_first (begins setup s t motions on)
  where
    some_none : (motion : Motion) (rest : List Motion) → motion ∷ rest ≡ [] → ⊥
    some_none motion rest e = cc

    by_first : Begins setup s motions t → s ≡ t
    by_first (inl (_, here)) = here
    by_first (inr (None, rest, new, is, called, on)) = absurd (rests new called)
    by_first (inr (Some motion, rest, new, is, called, on)) = absurd (some_none motion rest (sym is ∙ none))

-- else a motion stands next, the first of them
pub moves_next : (setup : Setup) (s t : BenchState) (motion : Motion) (motions : List Motion) → Rests setup s
    → Makes setup s (motion ∷ motions) t → MovesNext setup s motion
moves_next setup s t motion motions rests on = by_first (begins setup s t (motion ∷ motions) on)
  where
    some_none : motion ∷ motions ≡ [] → ⊥
    some_none e = cc

    same_first : (first : Motion) (rest : List Motion) → motion ∷ motions ≡ first ∷ rest → first ≡ motion
    same_first first rest e = cc

    by_first : Begins setup s (motion ∷ motions) t → MovesNext setup s motion
    by_first (inl (none, here)) = absurd (some_none none)
    by_first (inr (None, rest, new, is, called, on)) = absurd (rests new called)
    by_first (inr (Some first, rest, new, is, called, on)) =
        (new, subst (λ (m : Motion). Called setup s None (Ok (progress.Went (Some m))) new) (same_first first rest is) called)

-- nothing is left of a list that is the front of itself
nothing_more : (a more : List Motion) → a ≡ a ++ more → more ≡ []
nothing_more [] more is = sym is
nothing_more (m ∷ a) more is = nothing_more a more (rest_same is)
  where
    rest_same : m ∷ a ≡ m ∷ (a ++ more) → a ≡ a ++ more
    rest_same e = cc

-- where the same motions lead to rests, they lead to one
pub same_rest : (setup : Setup) (s t u : BenchState) (motions : List Motion) → Makes setup s motions t → Rests setup t
    → Makes setup s motions u → Rests setup u → t ≡ u
same_rest setup s t u motions p at q there = by_other (either setup s t u motions motions p q)
  where
    by_other : Either setup motions motions t u → t ≡ u
    by_other (inl (more, is, on)) = rested setup t u more at on (nothing_more motions more is)
    by_other (inr (more, is, on)) = sym (rested setup u t more there on (nothing_more motions more is))
