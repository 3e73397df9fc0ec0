-- The lines of an admitted plan at time 0.
use Rattle.std.proofs.Common.{◌≤◌, length, refl}
use Rattle.server.specs.declared.kind.Server.{Ghosts}
use Rattle.analysis.specs.Admission.{plan_lines}
use Rattle.analysis.specs.declared.admitted.AdmittedPlan.{AdmittedPlan}
use Rattle.analysis.proofs.StoredLines.{part_few}

pub plan_few : {S : Type 0} {g : Ghosts S} (plan : AdmittedPlan S g) → length (plan_lines plan) ≤ 20
plan_few plan = part_few plan.plan (plan_lines plan) refl
