use Rattle.std.proofs.Common.{◌^◌, take, cond, ap, ◌∙◌, arith}
use Rattle.run.specs.Rows.{ready_by}
use Rattle.run.specs.Views.{view}
use Rattle.run.proofs.ReadyRows.{bits_more, bit_small}
use Rattle.run.proofs.rows.Rows.ready_bits.Goals as goal

pub loop-i-preserved : goal.loop-i-preserved
loop-i-preserved g c = (
  omega (arith, bit_small c.is_ready.result c.loop-i.i c.loop-i.bits c.loop-i.invariant.0, c.bit-bits.ensures),
  λ ws marks.
      let v = view g.S.Server in
      let on = c.is_ready.ensures ∙ ap (λ w. ready_by w (v c.row-item.result)) (marks c.loop-i.i (omega arith)) in
      let more = bits_more v ws (take c.args.self.now.count c.args.self.now.all) c.loop-i.i c.row-item.result c.loop-i-test.true c.row-item.is in
      omega (arith, c.loop-i.invariant.1 ws marks, c.bit-bits.ensures, ap (λ b. cond b (2 ^ c.loop-i.i) 0) on, more),
)
