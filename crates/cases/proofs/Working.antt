-- The cases hold.
use Rattle.std.proofs.Common.{◌≡◌, ◌≤◌, [], ◌∷◌, Some, refl, ap, arith, lit≤}
use Rattle.std.specs.List.{AllByRecursion}
use Rattle.server.specs.Kind.{Kind}
use Rattle.plan.specs.Answers.{granted}
use Rattle.plan.specs.Records.{decoded, encoded}
use Rattle.plan.specs.declared.line.Line.{Line}
use Rattle.analysis.specs.Equation.{own, limit}
use Rattle.analysis.specs.Growth.{added}
use Rattle.analysis.specs.Response.{time_of}
use Rattle.analysis.specs.Times.{times}
use Rattle.analysis.proofs.Counting.{time_from_response}
use Rattle.report.specs.Plans.{plan_for, plan_letter}
use Rattle.report.specs.Results.{plan_times}
use Rattle.run.specs.Machine.{ticked, offered}
use Rattle.cases.specs.Case.{Holds}
use Rattle.cases.specs.Worked.{cases, longest}

-- a line with no line above it takes its own work
top_time : (k : Kind) (l : Line) → 1 ≤ own l → own l ≤ limit l → time_of k [] l ≡ own l
top_time k l some within =
    time_from_response k [] l (Some (own l)) (record { some = some; within = within; met = omega arith }, λ v solves. omega (arith, solves.met))

-- this time is too large to be counted up to
longest_holds : Holds longest
unfolding plan_times plan_letter plan_for added decoded encoded times
longest_holds = (ap (λ t. granted (t ∷ [])) (top_time _ _ (lit≤ tt) (lit≤ tt)), refl)

-- every other case is computed
pub all_hold : AllByRecursion Holds cases
unfolding plan_times plan_letter plan_for added decoded encoded times time_of ticked offered
all_hold = (
  (refl, refl),
  (
    (refl, refl),
    (
      (refl, refl),
      (
        (refl, refl),
        (
          (refl, refl),
          (
            (refl, refl),
            (
              (refl, refl),
              (
                longest_holds,
                (
                  (refl, refl),
                  (
                    (refl, refl),
                    (
                      (refl, refl),
                      (
                        (refl, refl),
                        (refl, (refl, (refl, (refl, (refl, (refl, (refl, (refl, (refl, (refl, tt)))))))))),
                      ),
                    ),
                  ),
                ),
              ),
            ),
          ),
        ),
      ),
    ),
  ),
)
