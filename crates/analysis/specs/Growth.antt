-- One record more at the end of a plan.
use Rattle.std.specs.Prelude.{◌≡◌, ℕ, suc, Bool, true, false, not, ◌||◌, List, [], ◌∷◌, ◌++◌, length, count_by, nat_lt}
use Rattle.std.specs.List.{AllByRecursion}
use Rattle.server.specs.Kind.{Kind}
use Rattle.plan.specs.Answers.{Answer, granted, refused, placed}
use Rattle.plan.specs.Records.{decoded}
use Rattle.plan.specs.declared.line.Line.{Line}
use Rattle.plan.specs.declared.line.Line.TheVariants.{Task, Server}

-- the rest where the test holds, else the refusal of record n
abbrev pub verify : {A : Type 0} → Bool → ℕ → ℕ → Answer A → Answer A
verify true number n rest = rest
verify false number n rest = refused number n 0

abbrev pub is_server_line : Line → Bool
is_server_line (Task t) = false
is_server_line (Server s) = true

abbrev pub servers : List Line → ℕ
servers ls = count_by is_server_line ls

-- a task, or a server whose letter the kind serves
abbrev pub served : Kind → Line → Bool
served k (Task t) = true
served k (Server s) = k.serves s.letter

-- a line after so many lines and servers, as the record after them: at most 20 lines (11), at most 4 servers (12), no
-- letter that the kind does not serve (13)
abbrev pub joins : Kind → (count server_count : ℕ) → Line → Answer Line
joins k count server_count l =
    verify (nat_lt count 20) 11 (suc count)
    (verify (not (is_server_line l) || nat_lt server_count 4) 12 (suc count) (verify (served k l) 13 (suc count) (granted l)))

-- the same of what a record decoded to
abbrev pub joins_if : Kind → (count server_count : ℕ) → Answer Line → Answer Line
joins_if k count server_count (granted l) = joins k count server_count l
joins_if k count server_count (refused number «record» byte) = refused number «record» byte

-- the line that the bytes add after the lines ls, or the refusal; the record has the number that its line would get
unfoldable pub added : Kind → List Line → List ℕ → Answer Line
added k ls bs = joins_if k (length ls) (servers ls) (placed (suc (length ls)) (decoded bs))

-- the lines then: a refusal changes nothing
abbrev pub grown : List Line → Answer Line → List Line
grown ls (granted l) = ls ++ (l ∷ [])
grown ls (refused number «record» byte) = ls

-- the number that the new line got, or the refusal
abbrev pub numbered : List Line → Answer Line → Answer ℕ
numbered ls (granted l) = granted (suc (length ls))
numbered ls (refused number «record» byte) = refused number «record» byte

-- every server's letter is one that the kind serves
abbrev pub Served : Kind → List Line → Type 0
Served k ls = AllByRecursion (λ l. served k l ≡ true) ls
