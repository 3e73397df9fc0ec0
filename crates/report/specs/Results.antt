-- What is answered for a whole plan.
use Rattle.std.specs.Prelude.{ℕ, cond, List, ◌++◌, length, drop, Some, None, Ok, Err, Option, Result, nat_le}
use Rattle.arrayvec.specs.ArrayVec.{ArrayVec}
use Rattle.server.specs.declared.kind.Server.{Ghosts}
use Rattle.server.specs.Kind.{Kind}
use Rattle.plan.specs.Answers.{Answer, granted, refused, number_of}
use Rattle.plan.specs.declared.fault.Fault.{Fault}
use Rattle.plan.specs.declared.line.Line.{Line}
use Rattle.analysis.specs.Drafts.{lines}
use Rattle.analysis.specs.Times.{times}
use Rattle.analysis.specs.Verdicts.{Verdict, passes, fails, verdict}
use Rattle.analysis.specs.declared.draft.Draft.{Draft}
use Rattle.report.specs.Plans.{plan_for, plan_letter, kind_of}

-- a draft that was read, by its lines
abbrev pub drafted : {S : Type 0} {g : Ghosts S} → Result (Draft S g) Fault → Answer (List Line)
drafted (Ok d) = granted (lines d)
drafted (Err f) = refused (number_of f.refusal) f.«record» f.byte

-- the times of the lines that were read
abbrev pub times_of : Kind → Answer (List Line) → Answer (List ℕ)
times_of k (granted ls) = granted (times k ls)
times_of k (refused number «record» byte) = refused number «record» byte

-- the times of a whole plan, or its fault
unfoldable pub plan_times : List ℕ → Answer (List ℕ)
plan_times bs = times_of (kind_of (plan_letter bs)) (plan_for (kind_of (plan_letter bs)) bs)

-- the answer where times are to be written into so many numbers: how many lines there are, or 9 where the numbers are too few
abbrev pub counted : Answer (List ℕ) → ℕ → Answer ℕ
counted (granted ts) room = cond (nat_le (length ts) room) (granted (length ts)) (refused 9 0 0)
counted (refused number «record» byte) room = refused number «record» byte

-- the numbers then: the times first, further numbers untouched; a refusal writes nothing
abbrev pub filled : Answer (List ℕ) → List ℕ → List ℕ
filled (granted ts) out = cond (nat_le (length ts) (length out)) (ts ++ drop (length ts) out) out
filled (refused number «record» byte) out = out

-- times in a vector of their own
abbrev pub listed : Result (ArrayVec ℕ) Fault → Answer (List ℕ)
listed (Ok times) = granted times.items
listed (Err f) = refused (number_of f.refusal) f.«record» f.byte

-- the lines, if the verdict on them is that all pass
abbrev pub passing : List Line → Verdict → Option (List Line)
passing ls passes = Some ls
passing ls (fails number n) = None

-- the lines that were read, if they pass
abbrev pub admitted_of : Kind → Answer (List Line) → Option (List Line)
admitted_of k (granted ls) = passing ls (verdict k ls)
admitted_of k (refused number «record» byte) = None

-- the lines of a plan for one kind; none where it is refused or does not pass
unfoldable pub admitted_lines : Kind → List ℕ → Option (List Line)
admitted_lines k bs = admitted_of k (plan_for k bs)
