use Rattle.std.proofs.Common.{rules}
use Rattle.report.proofs.Choosing.{counted_timed, filled_written}
use Rattle.report.proofs.whole.times_for.Goals as goal

pub returns : goal.returns
returns g c = search (rules, counted_timed, filled_written)
