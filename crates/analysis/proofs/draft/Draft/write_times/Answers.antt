use Rattle.std.proofs.Common.{get_or, take, sym, refl, ◌∙◌, arith}
use Rattle.plan.specs.Records.{blank}
use Rattle.analysis.specs.Times.{times}
use Rattle.analysis.proofs.Counting.{time_from_response}
use Rattle.analysis.proofs.Sweeps.{times_more}
use Rattle.analysis.proofs.draft.Draft.write_times.Goals as goal

pub loop-i-init : goal.loop-i-init
unfolding times
loop-i-init g c = refl

pub loop-i-preserved : goal.loop-i-preserved
loop-i-preserved g c =
    let k = g.S.Server.kind in
    let ls = c.args.self.now.lines.items in
    let response = time_from_response k (take c.loop-i.i ls) (get_or ls c.loop-i.i blank) c.response_time.result c.response_time.ensures in
    times_more k ls c.args.out.now c.loop-i.out c.loop-i.i c.unwrap_or.result (omega (arith, c.requires)) (omega (arith, c.requires))
    c.loop-i.invariant (c.unwrap_or.ensures ∙ sym response)
