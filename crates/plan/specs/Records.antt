-- A line of a plan as 20 bytes: a letter, three zero bytes, and four numbers.
--   byte 0         T task, P polling server, D deferrable server, S sporadic server
--   bytes 1 to 3   zero
--   bytes 4 to 7   work of a task, or budget of a server, from 1 to the period
--   bytes 8 to 11  period, from 1 to 1,000,000
--   bytes 12 to 15 deadline of a task, from its work to its period; zero for a server
--   bytes 16 to 19 first arrival of a task, below its period; zero for a server
use Rattle.std.specs.Prelude.{◌≡◌, ℕ, suc, ◌<◌, ◌≤◌, Bool, true, false, cond, ◌&&◌, ◌||◌, List, [], ◌∷◌, length, ◌==◌, nat_le, nat_lt, slice_index}
use Rattle.std.specs.List.{flat_map}
use Rattle.plan.specs.Bytes.{number, bytes}
use Rattle.plan.specs.declared.line.Line.{Line}
use Rattle.plan.specs.declared.line.Line.TheVariants.{Task, Server}

-- what a record decodes to: a line, or a fault by its number and the byte that it names
pub data Decoded : Type 0 where
  line : Line → Decoded
  fault : (number byte : ℕ) → Decoded

-- the rest where the test holds, else the fault
abbrev pub check : Bool → ℕ → ℕ → Decoded → Decoded
check true n b rest = rest
check false n b rest = fault n b

-- low ≤ n ≤ high
abbrev pub within : ℕ → ℕ → ℕ → Bool
within low n high = nat_le low n && nat_le n high

-- the letter of a server
abbrev pub is_server : ℕ → Bool
is_server letter = letter == 80 || (letter == 68 || letter == 83)

abbrev pub is_letter : ℕ → Bool
is_letter letter = letter == 84 || is_server letter

abbrev pub task : (work period deadline first : ℕ) → Decoded
task work period deadline first =
    check (within work deadline period) 6 12
    (check (nat_lt first period) 6 16 (line (Task (record { work = work; period = period; deadline = deadline; first = first }))))

abbrev pub server : (letter budget period deadline first : ℕ) → Decoded
server letter budget period deadline first =
    check (deadline == 0) 6 12
    (check (first == 0) 6 16 (line (Server (record { letter = letter; budget = budget; period = period }))))

-- the four numbers of a record with this letter
abbrev pub numbers : (letter work period deadline first : ℕ) → Decoded
numbers letter work period deadline first =
    check (within 1 period 1000000) 4 8
    (check (within 1 work period) 5 4 (cond (letter == 84) (task work period deadline first) (server letter work period deadline first)))

-- bytes that have to be zero, the first of them byte k, then the rest of the record
abbrev pub zeros : (k : ℕ) → List ℕ → Decoded → Decoded
zeros k [] rest = rest
zeros k (z ∷ zs) rest = check (z == 0) 3 k (zeros (suc k) zs rest)

-- the letter and the three zero bytes of a record, then the rest of it
abbrev pub head : (letter : ℕ) → List ℕ → Decoded → Decoded
head letter zs rest = check (is_letter letter) 2 0 (zeros 1 zs rest)

-- the faults are looked for in rising order of their numbers
unfoldable pub decoded : List ℕ → Decoded
decoded bs =
    check (length bs == 20) 1 0
    (head (slice_index bs 0) (slice_index bs 1 ∷ slice_index bs 2 ∷ slice_index bs 3 ∷ [])
    (numbers (slice_index bs 0) (number bs 4) (number bs 8) (number bs 12) (number bs 16)))

-- the letter of a line
abbrev pub letter_of : Line → ℕ
letter_of (Task t) = 84
letter_of (Server s) = s.letter

-- stands where a list has no line; no plan holds it
abbrev pub blank : Line
blank = Task (record { work = 0; period = 0; deadline = 0; first = 0 })

-- the record of a letter and numbers
abbrev pub record_of : ℕ → List ℕ → List ℕ
record_of letter ns = letter ∷ 0 ∷ 0 ∷ 0 ∷ flat_map bytes ns

-- the 20 bytes of a line
unfoldable pub encoded : Line → List ℕ
encoded (Task t) = record_of 84 (t.work ∷ t.period ∷ t.deadline ∷ t.first ∷ [])
encoded (Server s) = record_of s.letter (s.budget ∷ s.period ∷ 0 ∷ 0 ∷ [])

-- a line within its bounds
abbrev pub Fit : Line → Type 0
Fit (Task t) = (1 ≤ t.work) × (t.work ≤ t.deadline) × (t.deadline ≤ t.period) × (t.period ≤ 1000000) × (t.first < t.period)
Fit (Server s) = (is_server s.letter ≡ true) × (1 ≤ s.budget) × (s.budget ≤ s.period) × (s.period ≤ 1000000)
