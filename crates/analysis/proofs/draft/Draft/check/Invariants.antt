use Rattle.std.proofs.Common.{◌≡◌, ℕ, ◌<◌, get_or, take}
use Rattle.plan.specs.Records.{blank}
use Rattle.analysis.specs.Response.{time_of}
use Rattle.analysis.proofs.draft.Draft.check.Given as goal

-- the lines so far pass
abbrev pub invariant-loop-i : goal.invariant-loop-i
invariant-loop-i g l = (j : ℕ) → j < l.i → time_of g.S.Server.kind (take j l.self.lines.items) (get_or l.self.lines.items j blank) ≡ 0 → ⊥
