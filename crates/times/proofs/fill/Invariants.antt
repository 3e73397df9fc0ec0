use Rattle.std.proofs.Common.{◌≤◌, length}
use Rattle.times.proofs.fill.Given as goal

abbrev pub invariant-loop : goal.invariant-loop
invariant-loop l = l.have ≤ length l.buffer
