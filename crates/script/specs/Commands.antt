-- What a line of text says.
use Rattle.std.specs.Prelude.{ℕ, zero, suc, ◌+◌, Bool, cond, ◌&&◌, ◌||◌, List, [], ◌∷◌, length, Some, None, codes, Option, option_and_then, ◌==◌, nat_le, slice_index}
use Rattle.std.specs.Option.{option_map, option_or}
use Rattle.std.specs.Str.{bytes_eq}
use Rattle.plan.specs.Records.{is_server}
use Rattle.plan.specs.declared.line.Line.TheVariants.{Task, Server}
use Rattle.script.specs.Numbers.{number}
use Rattle.script.specs.Words.{is_empty, word}
use Rattle.script.specs.declared.command.Command.{Command}
use Rattle.script.specs.declared.command.Command.TheVariants as says

-- the line has no word n
abbrev pub ends_at : List ℕ → ℕ → Bool
ends_at bs n = is_empty (word bs n)

-- a value put before others, if there are all
abbrev pub with_first : {A : Type 0} → Option A → Option (List A) → Option (List A)
with_first None all = None
with_first (Some x) None = None
with_first (Some x) (Some xs) = Some (x ∷ xs)

-- the numbers that so many words are, from word n on
abbrev pub numbers_from : (n : ℕ) (count : ℕ) → List ℕ → Option (List ℕ)
numbers_from n zero bs = Some []
numbers_from n (suc count) bs = with_first (number (word bs n)) (numbers_from (n + 1) count bs)

-- so many numbers, and no more, after the first word
unfoldable pub numbers : (count : ℕ) → List ℕ → Option (List ℕ)
numbers count bs = cond (ends_at bs (count + 1)) (numbers_from 1 count bs) None

-- a line of a plan: T work period deadline first; P, D or S budget period
abbrev pub task : List ℕ → Command
task n = says.Line (Task (record { work = slice_index n 0; period = slice_index n 1; deadline = slice_index n 2; first = slice_index n 3 }))

abbrev pub server : ℕ → List ℕ → Command
server letter n = says.Line (Server (record { letter = letter; budget = slice_index n 0; period = slice_index n 1 }))

abbrev pub plan_line : (letter : ℕ) → List ℕ → Option Command
plan_line letter bs = cond (letter == 84) (option_map task (numbers 4 bs)) (cond (is_server letter) (option_map (server letter) (numbers 2 bs)) None)

-- queues requests completions, each at most 64
abbrev pub sized : List ℕ → Option Command
sized n = cond (nat_le (slice_index n 0) 64 && nat_le (slice_index n 1) 64) (Some (says.Queues (slice_index n 0) (slice_index n 1))) None

abbrev pub queues : List ℕ → Option Command
queues bs = option_and_then sized (numbers 2 bs)

-- a word alone
abbrev pub alone : List ℕ → Command → Option Command
alone bs c = option_map (λ _. c) (numbers 0 bs)

-- a word and one number
abbrev pub one : List ℕ → Option ℕ
one bs = option_map (λ n. slice_index n 0) (numbers 1 bs)

abbrev pub with_one : List ℕ → (ℕ → Command) → Option Command
with_one bs f = option_map f (one bs)

-- tick, or tick n
abbrev pub ticks : List ℕ → Option Command
ticks bs = option_or (alone bs (says.Tick 1)) (with_one bs says.Tick)

-- offer line amount
abbrev pub offer : List ℕ → Option Command
offer bs = option_map (λ n. says.Offer (slice_index n 0) (slice_index n 1)) (numbers 2 bs)

-- a line whose first word is longer than a letter
abbrev pub long_named : (name : List ℕ) → List ℕ → Option Command
long_named name bs =
    cond (bytes_eq name (codes "queues")) (queues bs)
    (cond (bytes_eq name (codes "start")) (alone bs says.Start)
    (cond (bytes_eq name (codes "tick")) (ticks bs)
    (cond (bytes_eq name (codes "offer")) (offer bs)
    (cond (bytes_eq name (codes "finish")) (with_one bs says.Finish)
    (cond (bytes_eq name (codes "fetch")) (alone bs says.Fetch)
    (cond (bytes_eq name (codes "ask")) (with_one bs says.Ask) None))))))

-- nothing is said by an empty line, and by one whose first word begins with #
abbrev pub is_skipped : List ℕ → Bool
is_skipped name = is_empty name || slice_index name 0 == 35

-- what a line says, if it says anything that is known
abbrev pub command : List ℕ → Option Command
command bs =
    cond (is_skipped (word bs 0)) (Some says.Skip)
    (cond (length (word bs 0) == 1) (plan_line (slice_index (word bs 0) 0) bs) (long_named (word bs 0) bs))
