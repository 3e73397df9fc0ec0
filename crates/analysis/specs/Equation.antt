-- The response-time equation: what a line and the lines above it ask of the processor in a window of ticks.
use Rattle.std.specs.Prelude.{ℕ, ◌+◌, ◌*◌, List, sum_by}
use Rattle.server.specs.Kind.{Kind}
use Rattle.server.specs.Rounding.{ceil_div}
pub use Rattle.server.specs.View.{terms_on}
use Rattle.plan.specs.declared.line.Line.{Line}
use Rattle.plan.specs.declared.line.Line.TheVariants.{Task, Server}

-- a line's own work: the work of a task, the budget of a server
abbrev pub own : Line → ℕ
own (Task t) = t.work
own (Server s) = s.budget

-- the time that it must not pass: the deadline of a task, the period of a server
abbrev pub limit : Line → ℕ
limit (Task t) = t.deadline
limit (Server s) = s.period

-- the most that a line takes from the lines below it in w ticks
abbrev pub share : Kind → ℕ → Line → ℕ
share k w (Task t) = ceil_div w t.period * t.work
share k w (Server s) = k.ceiling (terms_on s) w

-- own work and the shares of all lines above
abbrev pub demand : Kind → List Line → Line → ℕ → ℕ
demand k above l w = own l + sum_by (share k w) above
