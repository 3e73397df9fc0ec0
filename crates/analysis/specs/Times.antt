-- The response times of all lines of a plan, in line order; 0 for a line that does not pass.
use Rattle.std.specs.Prelude.{ℕ, cond, List, [], ◌∷◌, ◌++◌, length, drop, nat_le}
use Rattle.server.specs.Kind.{Kind}
use Rattle.plan.specs.Answers.{Answer, granted, refused}
use Rattle.plan.specs.declared.line.Line.{Line}
use Rattle.analysis.specs.Response.{time_of}

-- the times of lines that stand below the lines `above`
abbrev pub times_below : Kind → List Line → List Line → List ℕ
times_below k above [] = []
times_below k above (l ∷ ls) = time_of k above l ∷ times_below k (above ++ (l ∷ [])) ls

unfoldable pub times : Kind → List Line → List ℕ
times k ls = times_below k [] ls

-- the answer where times are asked for: how many lines there are, or 9 where the numbers are too few for them
abbrev pub timed : List Line → List ℕ → Answer ℕ
timed ls out = cond (nat_le (length ls) (length out)) (granted (length ls)) (refused 9 0 0)

-- the numbers then: further numbers are untouched, and a refusal writes nothing
abbrev pub written : Kind → List Line → List ℕ → List ℕ
written k ls out = cond (nat_le (length ls) (length out)) (times k ls ++ drop (length ls) out) out
