-- The kind by which a whole plan is read, and the times of its lines.
use Rattle.std.proofs.Common.{◌≡◌, ℕ, cond, leb, List, ◌++◌, length, drop, sym, ap}
use Rattle.server.specs.Kind.{Kind}
use Rattle.plan.specs.Answers.{granted, refused}
use Rattle.plan.specs.declared.line.Line.{Line}
use Rattle.analysis.specs.Times.{times, timed, written}
use Rattle.analysis.proofs.Sweeps.{times_length}
use Rattle.report.specs.Plans.{plan_for, plan_letter, kind_of}
use Rattle.report.specs.Results.{times_of, plan_times, counted, filled}

-- a draft's answer and numbers, as those of a whole plan
pub counted_timed : (k : Kind) (ls : List Line) (out : List ℕ) → timed ls out ≡ counted (granted (times k ls)) (length out)
counted_timed k ls out = ap (λ n. cond (leb n (length out)) (granted n) (refused 9 0 0)) (sym (times_length k ls))

pub filled_written : (k : Kind) (ls : List Line) (out : List ℕ) → written k ls out ≡ filled (granted (times k ls)) out
filled_written k ls out = ap (λ n. cond (leb n (length out)) (times k ls ++ drop n out) out) (sym (times_length k ls))

-- the times of a plan, by its letter
pub times_by : (bs : List ℕ) (letter : ℕ) → letter ≡ plan_letter bs → plan_times bs ≡ times_of (kind_of letter) (plan_for (kind_of letter) bs)
unfolding plan_times
times_by bs letter is = ap (λ l. times_of (kind_of l) (plan_for (kind_of l) bs)) (sym is)
