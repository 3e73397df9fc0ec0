use Rattle.std.proofs.Common.{get_or, take, arith}
use Rattle.std.proofs.lemmas.List.{length-take}
use Rattle.std.proofs.lemmas.List.Elements.{All-take}
use Rattle.plan.specs.Records.{Fit, blank}
use Rattle.analysis.proofs.Monotone.{demand_small}
use Rattle.analysis.proofs.draft.Draft.demand.Goals as goal

pub overflow_add-result : goal.overflow_add-result
overflow_add-result g c =
    let d = c.args.self.now in
    let i = c.args.i in
    let ls = d.lines.items in
    let small = demand_small g.S.Server.kind g.met.S.Server.steady c.args.w c.requires.window (take i ls) (get_or ls i blank) (All-take Fit i ls d.fit)
    (simp length-take (omega (arith, d.few))) (d.fit i blank c.requires.place) in
    grind (arith, small, c.own_work.ensures, c.shares.ensures, c.deref.ensures.0, c.deref-2.ensures.0)
