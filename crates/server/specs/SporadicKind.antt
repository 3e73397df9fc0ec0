-- The sporadic server, with simple replenishment: what a slice of consecutive ticks served takes is held again one period
-- after the slice's first tick.
use Rattle.std.specs.Prelude.{ℕ, ◌+◌, ◌-◌, Bool, true, false, cond, List, [], Some, None, Option, ◌==◌}
use Rattle.server.specs.declared.entry.Entry.{Entry}
use Rattle.server.specs.Kind.{Terms, Kind}
use Rattle.server.specs.Budgets.{per_period}
use Rattle.server.specs.Replenishments.{written, going, staying}

-- what is held, the entries that are pending, the open slice's first tick and amount, and the tick last begun. Where the
-- amount is 0 no slice is open, and the first tick means nothing
pub record SporadicState : Type 0 where
  pub held : ℕ
  pub entries : List Entry
  pub first : ℕ
  pub slice : ℕ
  pub tick : ℕ

-- an open slice closes: an entry with its amount is written, due a period after its first tick
abbrev pub closed : Terms → SporadicState → SporadicState
closed t s = record {
  held = s.held;
  entries = cond (s.slice == 0) s.entries (written s.entries (record { due = s.first + t.period; amount = s.slice }));
  first = s.first;
  slice = 0;
  tick = s.tick;
}

-- what went is held again; if an entry went, an open slice closes
abbrev pub replenished : Terms → Option ℕ → SporadicState → SporadicState
replenished t None s = s
replenished t (Some amount) s =
    closed t (record { held = s.held + amount; entries = s.entries; first = s.first; slice = s.slice; tick = s.tick })

-- the start of a tick: the entry due then goes
abbrev pub sporadic_begun : Terms → SporadicState → ℕ → Bool → SporadicState
sporadic_begun t s tick wanted =
    replenished
    t
    (going s.entries tick)
    (record { held = s.held; entries = staying s.entries tick; first = s.first; slice = s.slice; tick = tick })

-- a tick is served: it opens a slice if none is open, and 1 of what is held goes over to the slice
abbrev pub served : SporadicState → SporadicState
served s = record {
  held = s.held - 1;
  entries = s.entries;
  first = cond (s.slice == 0) s.tick s.first;
  slice = s.slice + 1;
  tick = s.tick;
}

-- with nothing held an open slice closes
abbrev pub closed_if_empty : Terms → SporadicState → SporadicState
closed_if_empty t s = cond (s.held == 0) (closed t s) s

-- the end of a tick: after one not run an open slice closes. A server is run only when it holds something; if it is told that
-- it ran with nothing held, the tick counts as one not run
abbrev pub sporadic_ended : Terms → SporadicState → Bool → SporadicState
sporadic_ended t s false = closed t s
sporadic_ended t s true = cond (s.held == 0) (closed t s) (closed_if_empty t (served s))

-- its letter is S
abbrev pub sporadic : Kind
sporadic = record {
  State = SporadicState;
  serves = λ letter. (letter == 83);
  made = λ t. record { held = t.budget; entries = []; first = 0; slice = 0; tick = 0 };
  begun = sporadic_begun;
  ended = sporadic_ended;
  held = λ s. s.held;
  ceiling = per_period;
}
