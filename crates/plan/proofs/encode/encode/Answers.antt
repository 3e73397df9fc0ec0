-- The bytes are those of `encoded` at each kind of line, so a line within its bounds comes back from them.
use Rattle.std.proofs.Common.{◌≡◌, ℕ, List, rules}
use Rattle.plan.proofs.RoundTrip.{decoded_encoded}
use Rattle.plan.proofs.encode.encode.Goals as goal
use Rattle.plan.specs.Records.{line, decoded, encoded, Fit}
use Rattle.plan.specs.declared.line.Line.{Line}

both : (bs : List ℕ) (l : Line) → bs ≡ encoded l → record { exact : bs ≡ encoded l; back : Fit l → decoded bs ≡ line l }
both bs l e = record { exact = e; back = λ fit. rw e (decoded_encoded l fit) }

pub returns-in-Task : goal.returns-in-Task
unfolding encoded
returns-in-Task c = both c.record_of.result c.args.line.now (search rules)

pub returns-in-Server : goal.returns-in-Server
unfolding encoded
returns-in-Server c = both c.record_of-in-Server.result c.args.line.now (search rules)
