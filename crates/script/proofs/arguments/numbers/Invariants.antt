use Rattle.script.proofs.Counting.{SoFar}
use Rattle.script.proofs.arguments.numbers.Given as goal

abbrev pub invariant-loop-n : goal.invariant-loop-n
invariant-loop-n g l = SoFar l.line l.n-items l.words.rest.now l.n-index g.row.N
