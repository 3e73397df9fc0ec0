-- Kinds that refill what is held at the start of each period: what they hold, and how much they run.
use Rattle.std.specs.Prelude.{◌≡◌, ℕ, zero, suc, ◌+◌, ◌≤◌, Bool, true, false, cond, refl}
use Rattle.std.proofs.Common.{ap, ◌∙◌, add-zero, add-suc, arith}
use Rattle.std.proofs.lemmas.Bool.{cond_both, leb-true, and_parts}
use Rattle.server.specs.Kind.{Terms, Fit, Kind}
use Rattle.server.specs.Budgets.{starts, after_tick, per_period}
use Rattle.server.specs.Histories.{History, before, inside, Possible, runs}
use Rattle.server.specs.CeilingLaws.{per_period_rises}
use Rattle.server.specs.PeriodLaws.{per_period_sum, per_period_starts}

-- what is held inside a tick: the budget at the start of a period, and else what was held before the tick
abbrev pub refill : Terms → ℕ → ℕ → ℕ
refill t held tick = cond (starts t tick) t.budget held

-- a kind that holds this where it is wanted, and at most this where it is not, with terms within their bounds and a possible
-- history
pub record Refilled (k : Kind) (t : Terms) (h : History) : Type 0 where
  pub fit : Fit t
  pub possible : Possible k t h
  pub new : k.held (k.made t) ≤ t.budget
  pub asked : (s : k.State) (tick : ℕ) → k.held (k.begun t s tick true) ≡ refill t (k.held s) tick
  pub most : (s : k.State) (tick : ℕ) (wanted : Bool) → k.held (k.begun t s tick wanted) ≤ refill t (k.held s) tick
  pub after : (s : k.State) (ran : Bool) → k.held (k.ended t s ran) ≡ after_tick (k.held s) ran

-- a tick run takes 1 of what is held
takes : (held : ℕ) (ran : Bool) → (ran ≡ true → 1 ≤ held) → after_tick held ran + cond ran 1 0 ≡ held
takes held true some = omega (arith, some refl)
takes held false some = omega arith

module _ {k : Kind} {t : Terms} {h : History} (g : Refilled k t h) where
  -- what is held before a tick, and inside it
  abbrev pub held_at : ℕ → ℕ
  held_at n = k.held (before k t h n)

  abbrev pub held_in : ℕ → ℕ
  held_in n = k.held (inside k t h n)

  -- the start of a tick
  pub in_asked : (n : ℕ) → h.wanted n ≡ true → held_in n ≡ refill t (held_at n) n
  in_asked n is = ap (λ w. k.held (k.begun t (before k t h n) n w)) is ∙ g.asked (before k t h n) n

  in_most : (n : ℕ) → held_in n ≤ refill t (held_at n) n
  in_most n = g.most (before k t h n) n (h.wanted n)

  -- the end of a tick
  pub in_after : (n : ℕ) → held_at (suc n) + cond (h.ran n) 1 0 ≡ held_in n
  in_after n =
      let is = g.after (inside k t h n) (h.ran n) in
      omega (arith, takes (held_in n) (h.ran n) (λ ran. leb-true _ _ (and_parts _ _ (g.possible n ran)).1))

  -- at most the budget is held
  filled : (n : ℕ) → held_at n ≤ t.budget → held_in n ≤ t.budget
  filled n le =
      omega (arith, in_most n, cond_both (starts t n) t.budget (held_at n) (λ x. x ≤ t.budget) (λ e. omega arith) (λ e. le))

  pub at_within : (n : ℕ) → held_at n ≤ t.budget
  at_within zero = g.new
  at_within (suc n) = omega (arith, in_after n, filled n (at_within n))

  pub in_within : (n : ℕ) → held_in n ≤ t.budget
  in_within n = filled n (at_within n)

  -- at the start of a tick what is held rises only where a period starts, and then by the budget at most
  pub in_rise : (n : ℕ) → held_in n + per_period t n ≤ held_at n + per_period t (suc n)
  in_rise n =
      omega (arith, in_most n, cond_both (starts t n) t.budget (held_at n) (λ x. x + per_period t n ≤ held_at n + per_period t (suc n)) now later)
    where
      now : starts t n ≡ true → t.budget + per_period t n ≤ held_at n + per_period t (suc n)
      now e = omega (arith, per_period_starts t g.fit n e)

      later : starts t n ≡ false → held_at n + per_period t n ≤ held_at n + per_period t (suc n)
      later e = omega (arith, per_period_rises t g.fit n (suc n) (omega arith))

  -- a window in whose first tick it holds at most c beyond the budget of a period that starts there: it runs at most c times,
  -- and one budget for each period that starts in the window
  module _ (s c : ℕ) (first : held_in s + per_period t s ≤ c + per_period t (suc s)) where
    spends : (n : ℕ) → runs h s (suc n) + held_at (suc (s + n)) + per_period t s ≤ c + per_period t (suc (s + n))
    spends zero = rw add-zero (omega (arith, in_after s))
    spends (suc n) = rw add-suc (omega (arith, spends n, in_rise (suc (s + n)), in_after (suc (s + n))))

    pub spent : (n : ℕ) → runs h s n + per_period t s ≤ c + per_period t (s + n)
    spent zero = rw add-zero (omega arith)
    spent (suc n) = rw add-suc (omega (arith, spends n))

  -- with nothing beyond
  pub spent_fresh : (s n : ℕ) → held_in s + per_period t s ≤ per_period t (suc s) → runs h s n ≤ per_period t n
  spent_fresh s n first = omega (arith, spent s 0 (omega arith) n, per_period_sum t g.fit s n)
