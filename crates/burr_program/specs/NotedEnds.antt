-- How `why` and `trace` end: what they print begins with the line that `asm` prints of the plan text,
-- or with what `check` or `try` prints of the container.
use Rattle.std.specs.Prelude.{◌≡◌, ◌++◌, ℕ, List}
use Rattle.burr_judge.specs.declared.tasks.Task.{Task}
use Rattle.burr_judge.specs.declared.tasks.Task.TheVariants.{Try}
use Rattle.burr_lines.specs.FilledTexts.{IsFilledIn}
use Rattle.burr_judge.specs.PlanEnds.{Ends, TaskEnds, ContainerEnds, PlanTextEnds, TextEnds}

-- what is printed begins with what is printed where it ends so, and the status is the same
abbrev pub Begins : Ends → Ends
Begins AreEnds output status =
    (first more : List ℕ) × (output ≡ first ++ more) × AreEnds first status

-- The first fault of the assembly's text or of the plan text is refused, or its container is checked
-- or tried, with a text of answers; and more is said below.
abbrev pub NotedEnds : Task → List ℕ → List ℕ → List ℕ → Ends
NotedEnds task text plan answers = Begins (TextEnds text (λ a.
    PlanTextEnds plan (λ bytes. ContainerEnds bytes (λ kept. TaskEnds task kept a answers))))

-- The same of `trace`, whose plan text may have `auto` in place of frames: the text is run with frames
-- that say nothing there.
abbrev pub TracedEnds : List ℕ → List ℕ → List ℕ → Ends
TracedEnds text plan answers output status =
    (framed : List ℕ) × IsFilledIn plan framed × NotedEnds Try text framed answers output status
