use Rattle.std.proofs.Common.{arith}
use Rattle.queue.specs.Items.{items}
use Rattle.queue.proofs.Changes.{closed, taken_place}
use Rattle.queue.proofs.bounded.Queue.take.Goals as goal

pub returns-clause-items : goal.returns-clause-items
unfolding items
returns-clause-items g c =
    closed c.args.self.now.places.now _ c.args.self.now.taken c.args.place (taken_place _ _ _ _ c.in_ok-item.ensures)
    (omega (arith, c.args.self.now.within))
    c.copy_within.ensures.after
