-- The deferrable server: it has its budget when new and again at the start of each period, and keeps what it holds until then.
-- Its state is what it holds.
use Rattle.std.specs.Prelude.{ℕ, zero, suc, ◌+◌, ◌-◌, Bool, cond, ◌==◌}
use Rattle.server.specs.Kind.{Terms, Kind}
use Rattle.server.specs.Budgets.{starts, after_tick, per_period}

-- the start of a tick
abbrev pub deferrable_begun : Terms → ℕ → ℕ → Bool → ℕ
deferrable_begun t held tick wanted = cond (starts t tick) t.budget held

-- the most that it runs in n ticks: a budget kept to a period's end can be followed at once by the next period's
abbrev pub deferrable_ceiling : Terms → ℕ → ℕ
deferrable_ceiling t zero = 0
deferrable_ceiling t (suc n) = per_period t (suc n + (t.period - t.budget))

-- its letter is D
abbrev pub deferrable : Kind
deferrable = record {
  State = ℕ;
  serves = λ letter. (letter == 68);
  made = λ t. t.budget;
  begun = deferrable_begun;
  ended = λ t. after_tick;
  held = λ held. held;
  ceiling = deferrable_ceiling;
}
