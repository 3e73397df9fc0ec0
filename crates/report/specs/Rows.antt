-- The text that shows the times of a plan: a row for each line, and a verdict; or why the plan is refused.
use Rattle.std.specs.Prelude.{ℕ, suc, ◌*◌, cond, List, [], ◌∷◌, ◌++◌, codes, decimal, ◌==◌, slice_index}
use Rattle.plan.specs.Answers.{Answer, granted, refused}
use Rattle.text.specs.Written.{labelled}
use Rattle.analysis.specs.Verdicts.{Verdict, passes, fails, verdict_from}
use Rattle.report.specs.Results.{plan_times}

-- a space, a line feed
abbrev pub space : ℕ
space = 32

abbrev pub feed : ℕ
feed = 10

-- a response time, or "-" where there is none
abbrev pub shown_time : ℕ → List ℕ
shown_time t = cond (t == 0) (codes "-") (decimal t)

-- a line's number, its letter and its time
unfoldable pub row : (n letter time : ℕ) → List ℕ
row n letter time = decimal n ++ (space ∷ (letter ∷ (space ∷ (shown_time time ++ (feed ∷ [])))))

-- the rows of the lines from place i on; a line's letter is the first byte of its record
abbrev pub rows : List ℕ → ℕ → List ℕ → List ℕ
rows bs i [] = []
rows bs i (t ∷ ts) = row (suc i) (slice_index bs (20 * i)) t ++ rows bs (suc i) ts

-- the verdict
abbrev pub verdict_row : Verdict → List ℕ
verdict_row passes = codes "passes" ++ (feed ∷ [])
verdict_row (fails number n) = labelled (codes "fails ") n ++ (feed ∷ [])

unfoldable pub fault_row : (number «record» byte : ℕ) → List ℕ
fault_row number «record» byte =
    labelled (codes "refused ") number ++ (labelled (codes " record ") «record» ++ (labelled (codes " byte ") byte ++ (feed ∷ [])))

-- what is shown of the times of a plan with these bytes
abbrev pub shown : List ℕ → Answer (List ℕ) → List ℕ
shown bs (granted ts) = rows bs 0 ts ++ verdict_row (verdict_from 1 ts)
shown bs (refused number «record» byte) = fault_row number «record» byte

-- the whole text
unfoldable pub plan_text : List ℕ → List ℕ
plan_text bs = shown bs (plan_times bs)
