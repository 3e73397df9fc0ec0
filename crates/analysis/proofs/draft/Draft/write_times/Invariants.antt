use Rattle.std.proofs.Common.{◌≡◌, ◌++◌, take, drop}
use Rattle.analysis.specs.Times.{times}
use Rattle.analysis.proofs.draft.Draft.write_times.Given as goal

-- the lines so far have their times, and the rest is untouched
abbrev pub invariant-loop-i : goal.invariant-loop-i
invariant-loop-i g l = l.out ≡ times g.S.Server.kind (take l.i l.self.lines.items) ++ drop l.i l.initial.out
