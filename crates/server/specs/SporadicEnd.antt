-- The end of a tick is a step of a sporadic server.
use Rattle.std.specs.Prelude.{◌≡◌, ℕ, suc, ◌+◌, ◌-◌, ◌≤◌, min, Bool, true, false, cond, ◌==◌, ◌≢◌}
use native.Mathlib.Omega.{arith}
use Rattle.std.proofs.lemmas.Bool.{eqb-true, eqb-false, cond_both}
use Rattle.server.specs.Kind.{Terms}
use Rattle.server.specs.SporadicKind.{SporadicState, closed, served, closed_if_empty, sporadic_ended}
use Rattle.server.specs.SporadicInvariant.{Books, Sound, closing}
use Rattle.server.specs.SporadicSteps.{Step}

module _ (t : Terms) (tick : ℕ) (s : SporadicState) (x : Sound t (suc tick) tick s) where
  -- pressed: run if something is held
  abbrev End : SporadicState → ℕ → Type 0
  End s' used = Step t x (suc tick) (suc tick) s' used (min 1 s.held ≤ used)

  -- the state with this held, and this slice
  abbrev with : ℕ → ℕ → ℕ → SporadicState
  with held first slice = record { held = held; entries = s.entries; first = first; slice = slice; tick = s.tick }

  -- a slice closes, after `used` of what is held went over to it
  shuts :
      (used now held first slice : ℕ) (b : Books t (suc tick) now (with held first slice)) →
      b.start ≡ x.books.start →
      held + used ≡ s.held →
      slice ≡ s.slice + used →
      now ≤ suc tick →
      (min 1 s.held ≤ used → held ≡ 0) →
      End (closed t (with held first slice)) used
  shuts used now held first slice b start taken longer le spent =
      let shut = closing t b (suc tick) le in
      record {
        sound = shut.sound;
        later = omega arith;
        keeps = omega arith;
        most = λ d low high. omega (arith, shut.most d (omega arith));
        room = λ press roomy. omega (arith, shut.size, spent press);
        least = λ press roomy d low high. omega (arith, shut.least (omega (arith, spent press)) d (omega arith));
      }

  not_run : End (closed t s) 0
  not_run =
      shuts 0 tick s.held s.first s.slice x.books (omega arith) (omega arith) (omega arith) (omega arith) (omega arith)

  module _ (now : s.tick ≡ tick) (some : 1 ≤ s.held) where
    -- the slice goes on, or opens
    books : Books t (suc tick) (suc tick) (served s)
    books =
        let b = x.books in
        record {
          start = b.start;
          ends = omega arith;
          opened = λ _.
              cond_both
              (s.slice == 0)
              s.tick
              s.first
              (λ first. first ≡ b.start)
              (λ e. omega (arith, eqb-true s.slice 0 e))
              (λ e. b.opened (grind (arith, eqb-false s.slice 0 e)));
          sum = omega arith;
          few = b.few;
          order = b.order;
        }

    -- nothing is left, so the slice closes
    last : s.held - 1 ≡ 0 → End (closed t (served s)) 1
    unfolding books
    last e = shuts 1 (suc tick) _ _ _ books (omega arith) (omega arith) (omega arith) (omega arith) (omega arith)

    -- something is left
    more : (s.held - 1 ≢ 0) → End (served s) 1
    unfolding books
    more ne =
        let left : 1 ≤ s.held - 1 = grind (arith, ne) in
        record {
          sound = record { books = books; kept = omega arith };
          later = omega arith;
          keeps = omega arith;
          most = omega arith;
          room = λ press roomy. omega arith;
          least = omega arith;
        }

    run : End (closed_if_empty t (served s)) 1
    run =
        cond_both
        (s.held - 1 == 0)
        _
        _
        (λ s'. End s' 1)
        (λ e. last (eqb-true (s.held - 1) 0 e))
        (λ e. more (eqb-false (s.held - 1) 0 e))

  -- if something is held when it is run
  pub ending : (ran : Bool) → s.tick ≡ tick → cond ran 1 0 ≤ s.held → End (sporadic_ended t s ran) (cond ran 1 0)
  ending false now some = not_run
  ending true now some =
      cond_both
      (s.held == 0)
      _
      _
      (λ s'. End s' 1)
      (λ e. absurd (omega (arith, eqb-true s.held 0 e)))
      (λ e. run now some)
