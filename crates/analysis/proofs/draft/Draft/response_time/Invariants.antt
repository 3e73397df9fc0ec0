use Rattle.std.proofs.Common.{ℕ, suc, ◌-◌, ◌≤◌, take, get_or}
use Rattle.plan.specs.Records.{blank}
use Rattle.analysis.specs.Response.{Solves}
use Rattle.analysis.proofs.draft.Draft.response_time.Given as goal

-- no solution lies below the time that is tried
abbrev pub invariant-loop-w : goal.invariant-loop-w
invariant-loop-w g l = (1 ≤ l.w) × ((v : ℕ) → Solves g.S.Server.kind (take l.i l.self.lines.items) (get_or l.self.lines.items l.i blank) v → l.w ≤ v)

abbrev pub decreases-loop-w : goal.decreases-loop-w
decreases-loop-w g l = suc l.limit - l.w
