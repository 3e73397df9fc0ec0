-- Turns of the run of a whole plan.
use Rattle.std.specs.Prelude.{ℕ, min, List, length, Some, None, Option}
use Rattle.server.specs.Kind.{Kind}
use Rattle.plan.specs.declared.line.Line.{Line}
use Rattle.report.specs.Plans.{plan_letter, kind_of}
use Rattle.report.specs.Results.{admitted_lines}
use Rattle.run.specs.Machine.{started}
use Rattle.drive.specs.Turns.{sum_turns}

-- the sum over the turns of a run of these lines, with so many places for requests, at most 64, and 64 for completions; 0 for none
abbrev pub driven_lines : Kind → (ticks amount places : ℕ) → Option (List Line) → ℕ
driven_lines k ticks amount places None = 0
driven_lines k ticks amount places (Some ls) = sum_turns (length ls) amount (started {k = k} ls (min places 64) 64) ticks

-- the same for a whole plan, by its kind
abbrev pub driven : List ℕ → (ticks amount places : ℕ) → ℕ
driven bs ticks amount places =
    driven_lines (kind_of (plan_letter bs)) ticks amount places (admitted_lines (kind_of (plan_letter bs)) bs)
