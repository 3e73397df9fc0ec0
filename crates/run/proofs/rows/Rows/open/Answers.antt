use Rattle.std.proofs.Common.{◌≡◌, ◌+◌, take, arith, rules}
use Rattle.run.specs.Requests.{wanted}
use Rattle.run.specs.Rows.{opened, opened_by}
use Rattle.run.specs.Views.{view}
use Rattle.run.proofs.RowByRow.{seen_more}
use Rattle.run.proofs.rows.Rows.open.Goals as goal

pub loop-i-preserved : goal.loop-i-preserved
loop-i-preserved g c ws marks =
    let v = view g.S.Server in
    let told : v c.open.new.self ≡ opened_by c.args.time (wanted (c.loop-i.i + 1) ws) (v c.row-item.result) =
    let e = c.open.ensures in
    let w = marks c.loop-i.i (omega arith) in
    search rules in
    seen_more v (opened c.args.time ws) (take c.args.self.now.count c.args.self.now.all) c.loop-i.row-items c.loop-i.i c.row-item.result
    c.open.new.self (c.loop-i.invariant ws marks) c.row-item.is told
