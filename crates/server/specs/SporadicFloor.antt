-- A sporadic server that is pressed for two periods runs at least its budget.
use Rattle.std.specs.Prelude.{◌≡◌, ℕ, zero, suc, ◌+◌, ◌-◌, ◌*◌, ◌<◌, ◌≤◌, min, ◌⊎◌, refl}
use Rattle.std.proofs.Common.{ap, inl, inr, arith, add_assoc}
use Rattle.server.specs.Kind.{Terms, Fit}
use Rattle.server.specs.Histories.{History, before, Possible, runs}
use Rattle.server.specs.SporadicKind.{sporadic}
use Rattle.server.specs.HistoryLaws.{runs_split, runs_within}
use Rattle.server.specs.DueLaws.{due_from_all, due_from_none}
use Rattle.server.specs.SporadicHistory.{Press, held_run, start, sound, steps}

module _ (t : Terms) (fit : Fit t) (h : History) (possible : Possible sporadic t h) where
  abbrev held : ℕ → ℕ
  held n = (before sporadic t h n).held

  -- before n ticks from tick s on are over nothing is held, and until then it ran in every tick
  record Spent (s n : ℕ) : Type 0 where
    long : ℕ
    within : long < n
    all : long ≤ runs h s long
    spent : held (s + long) ≡ 0

  -- it runs in every tick, or all that was held is spent
  rush : (s n : ℕ) → Press t fit h possible s n → (n ≤ runs h s n) ⊎ Spent s n
  rush s zero press = inl (omega arith)
  rush s (suc n) press = more (rush s n (λ i lt. press i (omega arith)))
    where
      by : n ≤ runs h s n → (k : ℕ) → held (s + n) ≡ k → (suc n ≤ runs h s (suc n)) ⊎ Spent s (suc n)
      by all zero is = inr (record { long = n; within = omega arith; all = all; spent = is })
      by all (suc k) is =
          let rises = (start t fit h possible (s + n) (sound t fit h possible (s + n))).keeps in
          inl (omega (arith, held_run t fit h possible (s + n) (press n (omega arith))))

      more : (n ≤ runs h s n) ⊎ Spent s n → (suc n ≤ runs h s (suc n)) ⊎ Spent s (suc n)
      more (inl all) = by all (held (s + n)) refl
      more (inr r) = inr (record { long = r.long; within = omega arith; all = r.all; spent = r.spent })

  -- what is held is run, as far as there are ticks
  rush_held : (s n : ℕ) → Press t fit h possible s n → min n (held s) ≤ runs h s n
  rush_held s n press = by (rush s n press)
    where
      by : (n ≤ runs h s n) ⊎ Spent s n → min n (held s) ≤ runs h s n
      by (inl all) = omega arith
      by (inr r) = omega (arith, r.spent, (steps t fit h possible s r.long).keeps, runs_within h s n s r.long (omega arith) (omega arith))

  -- a period after nothing was held, all is held that was not run since
  returned :
      (a : ℕ) → held a ≡ 0 → Press t fit h possible a t.period → t.budget ≤ runs h a t.period + held (a + t.period)
  returned a empty press =
      let p = t.period in
      let x = sound t fit h possible a in
      let old = (before sporadic t h a).entries in
      let new = (before sporadic t h (a + p)).entries in
      let s = steps t fit h possible a p in
      let none = due_from_none (a + p) a old _ (omega arith) x.books.order in
      let all = due_from_all (a + p) (a + p) new _ (omega arith) s.sound.books.order in
      omega (arith, s.least press (omega arith) (a + p) (omega arith) (omega arith), s.sound.books.sum)

  -- a later part of a window in which it is pressed
  shift : (s m n k : ℕ) → m + n ≤ k → Press t fit h possible s k → Press t fit h possible (s + m) n
  shift s m n k le press i lt = rw (add_assoc s m i) (press (m + i) (omega arith))

  -- once nothing is held, all comes back within a period; the ticks before that were all run
  pub floor : (s : ℕ) → Press t fit h possible s (2 * t.period) → t.budget ≤ runs h s (2 * t.period)
  floor s press = by (rush s t.budget (λ i lt. press i (omega arith)))
    where
      by : (t.budget ≤ runs h s t.budget) ⊎ Spent s t.budget → t.budget ≤ runs h s (2 * t.period)
      by (inl all) = omega (arith, runs_within h s (2 * t.period) s t.budget (omega arith) (omega arith))
      by (inr r) =
          let p = t.period in
          let j = r.long in
          let whole : j + (p + (p - j)) ≡ 2 * p = omega (arith, fit.within) in
          let after = shift s j (p + (p - j)) (2 * p) (omega arith) press in
          omega (
            arith,
            fit.within,
            returned (s + j) r.spent (λ i lt. after i (omega arith)),
            rush_held (s + j + p) (p - j) (shift (s + j) p (p - j) _ (omega arith) after),
            ap (runs h s) whole,
            runs_split h s j (p + (p - j)),
            runs_split h (s + j) p (p - j),
          )
