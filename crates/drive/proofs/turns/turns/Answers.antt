use Rattle.run.specs.Sessions.{played}
use Rattle.drive.proofs.Turning.{after_more, sum_more}
use Rattle.drive.proofs.turns.turns.Goals as goal

pub loop-i-preserved : goal.loop-i-preserved
loop-i-preserved g c =
    let m = played g.S.Server c.args.session.now in
    let a = played g.S.Server c.loop-i.session in
    let t = c.turn.ensures in (
      sum_more c.args.lines c.args.amount c.loop-i.i m a _ _ _ c.loop-i.invariant.0 c.loop-i.invariant.1 t.value c.add-sum.ensures,
      after_more c.args.lines c.args.amount c.loop-i.i m a _ c.loop-i.invariant.1 t.after,
    )
