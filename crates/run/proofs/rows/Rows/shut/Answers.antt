use Rattle.std.proofs.Common.{◌≡◌, ◌+◌, take, rules}
use Rattle.run.specs.Rows.{shut}
use Rattle.run.specs.Views.{view}
use Rattle.run.proofs.RowByRow.{seen_more}
use Rattle.run.proofs.rows.Rows.shut.Goals as goal

pub loop-i-preserved : goal.loop-i-preserved
loop-i-preserved g c =
    let v = view g.S.Server in
    let told : v c.shut.new.self ≡ shut c.args.chosen (c.loop-i.i + 1) (v c.row-item.result) = search rules in
    seen_more v (shut c.args.chosen) (take c.args.self.now.count c.args.self.now.all) c.loop-i.row-items c.loop-i.i c.row-item.result
    c.shut.new.self c.loop-i.invariant c.row-item.is told
