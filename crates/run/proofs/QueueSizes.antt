-- How many items a queue holds at most.
use Rattle.std.proofs.Common.{◌≤◌, length, arith}
use Rattle.std.proofs.lemmas.List.{length-take}
use Rattle.queue.specs.Items.{items}
use Rattle.queue.specs.declared.bounded.Queue.{Queue}

pub items_few : {T : Type 0} (q : Queue T) → length (items q) ≤ 64
unfolding items
items_few q = simp length-take (omega (arith, q.within))
