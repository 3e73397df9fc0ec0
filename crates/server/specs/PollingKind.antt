-- The polling server: it gets its budget at the start of a period, if it is wanted then, and loses it as soon as it is not wanted.
-- Its state is what it holds.
use Rattle.std.specs.Prelude.{ℕ, Bool, cond, ◌==◌}
use Rattle.server.specs.Kind.{Terms, Kind}
use Rattle.server.specs.Budgets.{starts, after_tick, per_period}

-- the start of a tick: at the start of a period it holds the budget if wanted, else 0; at any other tick it keeps what it
-- holds if wanted, and else loses it
abbrev pub polling_begun : Terms → ℕ → ℕ → Bool → ℕ
polling_begun t held tick wanted = cond (starts t tick) (cond wanted t.budget 0) (cond wanted held 0)

-- its letter is P
abbrev pub polling : Kind
polling = record {
  State = ℕ;
  serves = λ letter. (letter == 80);
  made = λ t. 0;
  begun = polling_begun;
  ended = λ t. after_tick;
  held = λ held. held;
  ceiling = per_period;
}
