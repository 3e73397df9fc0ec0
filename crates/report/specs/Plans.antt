-- Whole plans: a row of records, without a header.
use Rattle.std.specs.Prelude.{ℕ, zero, suc, ◌+◌, ◌*◌, ◌/◌, ◌%◌, Bool, true, false, cond, List, [], ◌∷◌, ◌++◌, length, map, ◌==◌, slice_index}
use Rattle.std.specs.List.{between}
use Rattle.server.specs.Kind.{Kind}
use Rattle.server.specs.DeferrableKind.{deferrable}
use Rattle.server.specs.PollingKind.{polling}
use Rattle.server.specs.SporadicKind.{sporadic}
use Rattle.plan.specs.Answers.{Answer, granted, refused}
use Rattle.plan.specs.Records.{is_server}
use Rattle.plan.specs.declared.line.Line.{Line}
use Rattle.analysis.specs.Growth.{added}

-- the record at place i, counted from 0
abbrev pub record_at : List ℕ → ℕ → List ℕ
record_at bs i = between (20 * i) (20 * i + 20) bs

-- the lines with one more, or the refusal
abbrev pub extended : List Line → Answer Line → Answer (List Line)
extended ls (granted l) = granted (ls ++ (l ∷ []))
extended ls (refused number «record» byte) = refused number «record» byte

-- a record after what was read before it: the first fault stays
abbrev pub further : Kind → Answer (List Line) → List ℕ → Answer (List Line)
further k (granted ls) bs = extended ls (added k ls bs)
further k (refused number «record» byte) bs = refused number «record» byte

-- the lines of the first n records
abbrev pub lines_to : Kind → List ℕ → ℕ → Answer (List Line)
lines_to k bs zero = granted []
lines_to k bs (suc n) = further k (lines_to k bs n) (record_at bs n)

-- the lines of a plan for one kind: its length first, then record by record
unfoldable pub plan_for : Kind → List ℕ → Answer (List Line)
plan_for k bs = cond (length bs % 20 == 0) (lines_to k bs (length bs / 20)) (refused 1 0 0)

-- the letters of records
abbrev pub letters : List (List ℕ) → List ℕ
letters = map (λ «record». slice_index «record» 0)

-- the first letter of a server among the n records from place i on; P where there is none
abbrev pub server_from : List ℕ → ℕ → ℕ → ℕ
server_from bs i zero = 80
server_from bs i (suc n) = cond (is_server (slice_index bs (20 * i))) (slice_index bs (20 * i)) (server_from bs (suc i) n)

-- the letter by which a whole plan is read
unfoldable pub plan_letter : List ℕ → ℕ
plan_letter bs = server_from bs 0 (length bs / 20)

abbrev pub pick : Bool → Bool → Kind
pick true sporadic_too = deferrable
pick false true = sporadic
pick false false = polling

-- the kind of a letter: D deferrable, S sporadic, else polling
abbrev pub kind_of : ℕ → Kind
kind_of letter = pick (letter == 68) (letter == 83)
