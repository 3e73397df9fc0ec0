use Rattle.std.proofs.Common.{◌≡◌, ◌*◌, ◌++◌, take, drop}
use Rattle.host.specs.Entry.{pairs}
use Rattle.host.proofs.layout.put_pairs.Given as goal

-- the lines so far are written, and the rest is untouched
abbrev pub invariant-loop-i : goal.invariant-loop-i
invariant-loop-i l = l.out ≡ pairs 1 (take l.i l.times) ++ drop (8 * l.i) l.initial.out
