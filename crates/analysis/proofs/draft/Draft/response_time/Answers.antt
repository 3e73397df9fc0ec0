use Rattle.std.proofs.Common.{take, get_or, arith}
use Rattle.std.proofs.lemmas.List.Elements.{All-take}
use Rattle.plan.specs.Records.{Fit, blank}
use Rattle.analysis.proofs.Monotone.{demand_rises}
use Rattle.analysis.proofs.draft.Draft.response_time.Goals as goal

-- a solution is at or above the time tried, so its demand is at or above that time's, and it meets its demand
pub loop-w-preserved : goal.loop-w-preserved
loop-w-preserved g c =
    let d = c.args.self.now in
    let above = take c.args.i d.lines.items in
    let rises = demand_rises g.S.Server.kind g.met.S.Server.steady c.loop-w.w in (
      omega arith,
      λ v solves.
          omega (arith, rises v (c.loop-w.invariant.1 v solves) above (get_or d.lines.items c.args.i blank) (All-take Fit c.args.i d.lines.items d.fit), solves.met, c.demand-next.ensures),
    )

pub returns : goal.returns
returns g c = λ v solves. grind (arith, c.loop-w.invariant.1 v solves, solves.within, c.limit_of-limit.ensures, c.deref.ensures)
