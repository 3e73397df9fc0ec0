use Rattle.report.proofs.Choosing.{times_by}
use Rattle.report.proofs.whole.plan_times.Goals as goal

pub returns-in-Polling : goal.returns-in-Polling
returns-in-Polling c = rw (times_by c.args.plan.now 80 c.in-Polling.ensures) c.times_for.ensures

pub returns-in-Deferrable : goal.returns-in-Deferrable
returns-in-Deferrable c =
    rw (times_by c.args.plan.now 68 c.in-Deferrable.ensures) c.times_for-in-Deferrable.ensures

pub returns-in-Sporadic : goal.returns-in-Sporadic
returns-in-Sporadic c =
    rw (times_by c.args.plan.now 83 c.in-Sporadic.ensures) c.times_for-in-Sporadic.ensures
