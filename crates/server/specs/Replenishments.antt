-- The replenishments that are pending, oldest first: at most 16 entries, each a due tick and an amount.
use Rattle.std.specs.Prelude.{ℕ, ◌+◌, cond, List, [], ◌∷◌, ◌++◌, length, Some, None, Option, ◌==◌, nat_lt}
use Rattle.server.specs.declared.entry.Entry.{Entry}

-- all the amounts together
abbrev pub total : List Entry → ℕ
total [] = 0
total (e ∷ es) = e.amount + total es

-- the amount of a new entry added to an entry, which takes the new due tick
abbrev pub added : Entry → Entry → Entry
added e new = record { due = new.due; amount = e.amount + new.amount }

-- a new entry added to the latest (with none pending it is the only one)
abbrev pub merged : List Entry → Entry → List Entry
merged [] new = new ∷ []
merged (e ∷ []) new = added e new ∷ []
merged (e ∷ (f ∷ es)) new = e ∷ merged (f ∷ es) new

-- a new entry written behind the others; with 16 pending it is added to the latest
abbrev pub written : List Entry → Entry → List Entry
written es new = cond (nat_lt (length es) 16) (es ++ new ∷ []) (merged es new)

-- what goes at a tick: the oldest entry, if it is due then. No later entry can be, since due ticks rise
abbrev pub going : List Entry → ℕ → Option ℕ
going [] tick = None
going (e ∷ es) tick = cond (e.due == tick) (Some e.amount) None

-- what is pending after that
abbrev pub staying : List Entry → ℕ → List Entry
staying [] tick = []
staying (e ∷ es) tick = cond (e.due == tick) es (e ∷ es)
