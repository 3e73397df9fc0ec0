-- Whether a plan passes.
use Rattle.std.specs.Prelude.{◌≡◌, ℕ, suc, ◌-◌, ◌<◌, ◌≤◌, Bool, true, false, cond, List, [], ◌∷◌, length, take, Ok, Err, Result, ◌==◌, slice_index_or}
use Rattle.server.specs.Kind.{Kind}
use Rattle.plan.specs.Answers.{number_of}
use Rattle.plan.specs.Records.{blank}
use Rattle.plan.specs.declared.line.Line.{Line}
use Rattle.analysis.specs.declared.fault.LineFault.{LineFault}
use Rattle.analysis.specs.Response.{Solves}
use Rattle.analysis.specs.Times.{times}

-- all lines pass, or a refusal by its number with the first line that does not
pub data Verdict : Type 0 where
  passes : Verdict
  fails : (number line : ℕ) → Verdict

-- whether it is that all lines pass
abbrev pub accepts : Verdict → Bool
accepts passes = true
accepts (fails number line) = false

-- a verdict as it is answered
abbrev pub judged : Result Unit LineFault → Verdict
judged (Ok _) = passes
judged (Err f) = fails (number_of f.refusal) f.line

-- the verdict on these times, the first of which is that of line i
abbrev pub verdict_from : ℕ → List ℕ → Verdict
verdict_from i [] = passes
verdict_from i (t ∷ ts) = cond (t == 0) (fails 18 i) (verdict_from (suc i) ts)

unfoldable pub verdict : Kind → List Line → Verdict
verdict k ls = verdict_from 1 (times k ls)

-- the line at place i (from 0) passes: its equation has a solution
abbrev pub Passes : Kind → List Line → ℕ → Type 0
Passes k ls i = (w : ℕ) × Solves k (take i ls) (slice_index_or ls i blank) w

abbrev pub AllPass : Kind → List Line → Type 0
AllPass k ls = (i : ℕ) → i < length ls → Passes k ls i

-- what a verdict says: every line passes, or line n is the first that does not
abbrev pub Judges : Kind → List Line → Verdict → Type 0
Judges k ls passes = AllPass k ls
Judges k ls (fails number n) =
    (number ≡ 18) × (1 ≤ n) × (n ≤ length ls) × (Passes k ls (n - 1) → ⊥) × ((i : ℕ) → i < n - 1 → Passes k ls i)
