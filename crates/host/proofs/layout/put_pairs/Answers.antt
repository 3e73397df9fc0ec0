use Rattle.host.proofs.Laying.{pairs_more}
use Rattle.host.proofs.layout.put_pairs.Goals as goal

pub loop-i-preserved : goal.loop-i-preserved
loop-i-preserved c =
    pairs_more c.args.times.now c.args.out.now c.loop-i.out c.put.new.out c.put-in-loop-i.new.out c.loop-i.i c.loop-i-test.true
    c.loop-i.invariant c.put.ensures c.put-in-loop-i.ensures
