use Rattle.std.proofs.Common.{sym, subst}
use Rattle.std.proofs.lemmas.List.Elements.{recursion_from_All}
use Rattle.plan.specs.Records.{Fit}
use Rattle.analysis.specs.Admission.{plan_lines}
use Rattle.run.specs.Promises.{Law, Timing}
use Rattle.run.proofs.RunLaw.{law, timing}
use Rattle.run.proofs.run.Run.start.Goals as goal

pub returns-clause-law : goal.returns-clause-law
returns-clause-law g c =
    let ls = plan_lines c.args.plan in
    subst (Law g.S.Server.kind ls) (sym c.begin.ensures)
    (law g.S.Server.kind g.met.S.Server.lawful ls (recursion_from_All Fit ls c.args.plan.plan.fit) c.args.plan.plan.served _ _)

pub returns-clause-timing : goal.returns-clause-timing
returns-clause-timing g c =
    let ls = plan_lines c.args.plan in
    subst (Timing g.S.Server.kind ls) (sym c.begin.ensures)
    (timing g.S.Server.kind g.met.S.Server.lawful ls (recursion_from_All Fit ls c.args.plan.plan.fit) c.args.plan.plan.served _ _)
