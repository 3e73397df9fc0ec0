-- The ticks in which a line above runs: from rest they are at most the shares of the lines above, so that enough others are left.
use Rattle.std.proofs.Common.{◌≡◌, ℕ, zero, suc, ◌+◌, ◌<◌, ◌≤◌, Bool, true, false, cond, not, ◌&&◌, eqb, leb, List, length, get_or, take, Some, sum_by, sym, refl, ap, ⊎_elim, arith}
use Rattle.std.specs.List.{slice_get}
use Rattle.std.proofs.lemmas.Option.{slice_get-get_or}
use Rattle.std.proofs.lemmas.List.Sums.{sum_by_more}
use Rattle.std.proofs.lemmas.Bool.{cases_Bool, cases_order, and_from, and_right, le-leb, lt-leb, eq-eqb, ne_eqb, both_ways}
use Rattle.server.specs.Kind.{Kind}
use Rattle.plan.specs.declared.line.Line.{Line}
use Rattle.plan.specs.Records.{blank}
use Rattle.analysis.specs.Equation.{share}
use Rattle.run.specs.Machine.{Machine, chosen}
use Rattle.run.specs.Promises.{FreshTick}
use Rattle.run.specs.Tries.{Call, after, found, ready_in, ran_ticks}
use Rattle.run.proofs.Choosing.{ready_chosen}
use Rattle.run.proofs.Windows.{count, Rest, gaps}

-- the chosen line c is one of the first i
abbrev pub one_of : ℕ → ℕ → Bool
one_of i c = leb 1 c && leb c i

pub one_in : (i c : ℕ) → 1 ≤ c → c ≤ i → one_of i c ≡ true
one_in i c some within = and_from (leb 1 c) (leb c i) (le-leb 1 c some) (le-leb c i within)

pub one_out : (i c : ℕ) → i < c → one_of i c ≡ false
one_out i c past = and_right (leb 1 c) (leb c i) (lt-leb c i past)

one_none : (c : ℕ) → one_of 0 c ≡ false
one_none zero = refl
one_none (suc c) = one_out 0 (suc c) (omega arith)

one_more : (i c : ℕ) → cond (one_of (suc i) c) 1 0 ≡ cond (one_of i c) 1 0 + cond (eqb c (suc i)) 1 0
one_more i zero = ap {B = ℕ} (λ b. 0 + cond b 1 0) (sym (ne_eqb 0 (suc i) (λ e. omega arith)))
one_more i (suc c) =
    ⊎_elim
    (λ (same : c ≡ i).
    omega (arith, one (one_in (suc i) (suc c) (omega arith) (omega arith)), one (one_out i (suc c) (omega arith)), one (eq-eqb (suc c) (suc i) (ap suc same))))
    (⊎_elim
    (λ (less : c < i).
    omega (arith, one (one_in (suc i) (suc c) (omega arith) (omega arith)), one (one_in i (suc c) (omega arith) (omega arith)), one (ne_eqb (suc c) (suc i) (λ e. omega arith))))
    (λ (more : i < c).
    omega (arith, one (one_out (suc i) (suc c) (omega arith)), one (one_out i (suc c) (omega arith)), one (ne_eqb (suc c) (suc i) (λ e. omega arith)))))
    (cases_order c i)
  where
    one : {b b' : Bool} → b ≡ b' → ◌≡◌ {A = ℕ} (cond b 1 0) (cond b' 1 0)
    one e = ap {B = ℕ} (λ b. cond b 1 0) e

module _ {k : Kind} (m : Machine k) (cs : List Call) where
  -- in tick u one of the first i lines runs
  abbrev pub busy : ℕ → ℕ → Bool
  busy i u = one_of i (chosen (found m cs u))

  -- after rest of all of the first i lines, each of them is at rest
  rest_fresh : (i s : ℕ) → Rest (busy i) s → (j : ℕ) → j < i → FreshTick m cs (suc j) s
  rest_fresh i zero rest j lt = tt
  rest_fresh i (suc s) rest j lt =
      ⊎_elim
      (λ (yes' : ready_in (found m cs s) (suc j) ≡ true).
      let both = ready_chosen (found m cs s) j yes' in
      absurd (both_ways _ rest (one_in i _ both.0 (omega (arith, both.1)))))
      (λ (none : ready_in (found m cs s) (suc j) ≡ false). none)
      (cases_Bool (ready_in (found m cs s) (suc j)))

  busy_none : (s n : ℕ) → count (busy 0) s n ≡ 0
  busy_none s zero = refl
  busy_none s (suc n) = omega (arith, busy_none s n, ap {B = ℕ} (λ b. cond b 1 0) (one_none (chosen (found m cs (s + n)))))

  busy_more : (i s n : ℕ) → count (busy (suc i)) s n ≡ count (busy i) s n + ran_ticks m cs (suc i) s n
  busy_more i s zero = refl
  busy_more i s (suc n) = omega (arith, busy_more i s n, one_more i (chosen (found m cs (s + n))))

  -- no line runs more than its share in n ticks from its rest on
  abbrev pub Bounded : List Line → Type 0
  Bounded ls =
      (j : ℕ) (l : Line) → slice_get ls j ≡ Some l → (s n : ℕ) → s + n ≤ (after m cs).time → FreshTick m cs (suc j) s
      → ran_ticks m cs (suc j) s n ≤ share k n l

  module _ (ls : List Line) (bounded : Bounded ls) (s n : ℕ) (within : s + n ≤ (after m cs).time) where
    busy_shares : (i : ℕ) → i ≤ length ls → ((j : ℕ) → j < i → FreshTick m cs (suc j) s) → count (busy i) s n ≤ sum_by (share k n) (take i ls)
    busy_shares zero le fresh = omega (arith, busy_none s n)
    busy_shares (suc i) le fresh =
        let l = get_or ls i blank in
        let place : i + 1 ≡ suc i = omega arith in
        omega (
          arith,
          busy_more i s n,
          busy_shares i (omega arith) (λ j lt. fresh j (omega arith)),
          bounded i l (slice_get-get_or ls i blank (omega arith)) s n within (fresh i (omega arith)),
          sum_by_more (share k n) ls i blank (omega arith),
          ap (λ j. sum_by (share k n) (take j ls)) place,
        )

  -- any w ticks of the past, where w meets the demand, have `own` in which none of the first i lines runs
  pub idle_ticks : (ls : List Line) → Bounded ls → (i own w : ℕ) → i ≤ length ls → own + sum_by (share k w) (take i ls) ≤ w
      → (s : ℕ) → s + w ≤ (after m cs).time → own ≤ count (λ u. not (busy i u)) s w
  idle_ticks ls bounded i own w le met =
      gaps (busy i) (after m cs).time w own (sum_by (share k w) (take i ls)) met
      (λ s within rest. busy_shares ls bounded s w within i le (rest_fresh i s rest))
