-- A sporadic server in a possible history: its states are sound, and any number of ticks is a step.
use Rattle.std.specs.Prelude.{◌≡◌, ℕ, zero, suc, ◌+◌, ◌<◌, ◌≤◌, min, Bool, true, false, cond, refl}
use Rattle.std.proofs.Common.{add-zero, add-suc, arith}
use Rattle.std.proofs.lemmas.Bool.{leb-true, le-leb, and_parts, and_from}
use Rattle.server.specs.Kind.{Terms, Fit}
use Rattle.server.specs.Histories.{History, before, inside, Possible, Pressed, runs}
use Rattle.server.specs.SporadicKind.{sporadic}
use Rattle.server.specs.SporadicInvariant.{Sound}
use Rattle.server.specs.SporadicSteps.{Step, stand, chain}
use Rattle.server.specs.SporadicStart.{starting, start_tick}
use Rattle.server.specs.SporadicEnd.{ending}

module _ (t : Terms) (fit : Fit t) (h : History) (possible : Possible sporadic t h) where
  -- what is run is held
  run_held : (n : ℕ) → cond (h.ran n) 1 0 ≤ (inside sporadic t h n).held
  run_held n = by (h.ran n) refl
    where
      by : (b : Bool) → h.ran n ≡ b → cond b 1 0 ≤ (inside sporadic t h n).held
      by true is = leb-true 1 _ (and_parts (h.wanted n) _ (possible n is)).1
      by false is = omega arith

  -- what is held is run, if the server is pressed
  pub held_run : (n : ℕ) → Pressed sporadic t h n → min 1 (inside sporadic t h n).held ≤ cond (h.ran n) 1 0
  held_run n press = by (inside sporadic t h n).held refl
    where
      by : (held : ℕ) → (inside sporadic t h n).held ≡ held → min 1 held ≤ cond (h.ran n) 1 0
      by zero is = omega arith
      by (suc held) is = rw (press.given (and_from (h.wanted n) _ press.asked (le-leb 1 _ (omega arith)))) (omega arith)

  -- the start of tick n, its end, and both
  module _ (n : ℕ) (x : Sound t n n (before sporadic t h n)) where
    pub start : Step t x (suc n) n (inside sporadic t h n) 0 (Unit {0})
    start = starting t fit n (before sporadic t h n) x (h.wanted n)

    pub end :
        Step
        t
        start.sound
        (suc n)
        (suc n)
        (before sporadic t h (suc n))
        (cond (h.ran n) 1 0)
        (min 1 (inside sporadic t h n).held ≤ cond (h.ran n) 1 0)
    end =
        ending
        t
        n
        (inside sporadic t h n)
        start.sound
        (h.ran n)
        (start_tick t (before sporadic t h n) n (h.wanted n))
        (run_held n)

    tick : Step t x (suc n) (suc n) (before sporadic t h (suc n)) (cond (h.ran n) 1 0) (Pressed sporadic t h n)
    tick = chain t x start end (omega arith) _ (omega arith) _ (λ _. tt) (held_run n)

  pub sound : (n : ℕ) → Sound t n n (before sporadic t h n)
  sound zero = record {
    books = record {
      start = 0;
      ends = omega arith;
      opened = omega arith;
      sum = omega arith;
      few = omega arith;
      order = omega arith;
    };
    kept = omega arith;
  }
  sound (suc n) = (end n (sound n)).sound

  -- pressed in the n ticks from tick s on
  abbrev pub Press : ℕ → ℕ → Type 0
  Press s n = (i : ℕ) → i < n → Pressed sporadic t h (s + i)

  -- n ticks from tick s on
  pub steps : (s n : ℕ) → Step t (sound s) (s + n) (s + n) (before sporadic t h (s + n)) (runs h s n) (Press s n)
  steps s zero = rw (add-zero s) (stand t (sound s) _)
  steps s (suc n) = rw (add-suc s n) (more (steps s n))
    where
      more :
          Step t (sound s) (s + n) (s + n) (before sporadic t h (s + n)) (runs h s n) (Press s n) →
          Step t (sound s) (suc (s + n)) (suc (s + n)) (before sporadic t h (suc (s + n))) (runs h s (suc n)) (Press s (suc n))
      more a =
          chain
          t
          (sound s)
          a
          (tick (s + n) a.sound)
          (omega arith)
          _
          refl
          _
          (λ press i lt. press i (omega arith))
          (λ press. press n (omega arith))
