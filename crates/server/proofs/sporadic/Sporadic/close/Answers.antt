-- What the slice took goes over to the entries, so all together is still the budget.
use Rattle.std.proofs.Common.{ap, ◌∙◌, arith}
use Rattle.server.specs.PendingView.{pending_of}
use Rattle.server.specs.Replenishments.{total}
use Rattle.server.specs.ReplenishmentLaws.{total_written}
use Rattle.server.proofs.sporadic.Sporadic.close.Goals as goal

pub invariant_of-self : goal.invariant_of-self
invariant_of-self c =
    let self = c.args.self.now in
    let more = ap total c.write.ensures ∙ total_written (pending_of self.pending) (record { due = _; amount = self.slice }) in
    omega arith
