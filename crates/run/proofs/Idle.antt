-- The ticks in which none of the first i lines runs, as calls go on: in them line i + 1 runs where it is ready.
use Rattle.std.proofs.Common.{◌≡◌, ℕ, suc, ◌+◌, ◌<◌, ◌≤◌, true, cond, not, List, ◌∷◌, ap, ⊎_elim, arith}
use Rattle.std.proofs.lemmas.Bool.{cases_lt}
use Rattle.server.specs.Kind.{Kind}
use Rattle.run.specs.Machine.{Machine, chosen}
use Rattle.run.specs.Tries.{Call, after, ready_in}
use Rattle.run.proofs.Busy.{one_of, one_in, busy}
use Rattle.run.proofs.Calls.{found_past}
use Rattle.run.proofs.Past.{found_tick}
use Rattle.run.proofs.Choosing.{ready_chosen}
use Rattle.run.proofs.Windows.{count, count_same, count_rises}

module _ {k : Kind} (m : Machine k) where
  -- how many of the n ticks from tick s on are free for line i + 1
  abbrev pub free : List Call → ℕ → ℕ → ℕ → ℕ
  free cs i s n = count (λ u. not (busy m cs i u)) s n

  module _ (c : Call) (cs : List Call) (i s n : ℕ) where
    pub free_past : s + n ≤ (after m cs).time → free (c ∷ cs) i s n ≡ free cs i s n
    free_past within =
        count_same _ _ s n (λ u lt. ap (λ M. not (one_of i (chosen M))) (found_past m c cs u (omega arith)))

    -- the tick that a call is
    pub free_tick : s + n ≡ (after m cs).time → (after m (c ∷ cs)).time ≡ (after m cs).time + 1
        → free (c ∷ cs) i s (suc n) ≡ free cs i s n + cond (not (one_of i (chosen (after m cs)))) 1 0
    free_tick now passed =
        omega (
          arith,
          free_past (omega arith),
          ap {B = ℕ} (λ M. cond (not (one_of i (chosen M))) 1 0) (found_tick m c cs (omega arith) (s + n) now),
        )

-- where line i + 1 is ready and does not run, one of the first i lines does
pub not_free : {k : Kind} (m : Machine k) (i : ℕ) → ready_in m (suc i) ≡ true → (chosen m ≡ suc i → ⊥)
    → ◌≡◌ {A = ℕ} (cond (not (one_of i (chosen m))) 1 0) 0
not_free m i ready other =
    let both = ready_chosen m i ready in
    ap {B = ℕ} (λ b. cond (not b) 1 0) (one_in i (chosen m) both.0 (omega (arith, both.1)))

-- where any w ticks have `most` that are free, something that is not done, and that began d ticks ago and took each free tick since,
-- began less than w ticks ago
pub began_less : {k : Kind} (m : Machine k) (cs : List Call) (i s d w left most : ℕ) → (s + w ≤ (after m cs).time → most ≤ free m cs i s w)
    → s + d ≡ (after m cs).time → 1 ≤ left → left + free m cs i s d ≤ most → d < w
began_less m cs i s d w left most enough since some within =
    ⊎_elim
    (λ (less : d < w). less)
    (λ (late : w ≤ d). absurd (omega (arith, count_rises (λ u. not (busy m cs i u)) s w d late, enough (omega arith))))
    (cases_lt d w)
