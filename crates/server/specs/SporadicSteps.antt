-- Steps of a sporadic server: from one sound state to a later one.
use Rattle.std.specs.Prelude.{◌≡◌, ℕ, ◌+◌, ◌≤◌, min, length}
use Rattle.std.proofs.Common.{arith}
use Rattle.server.specs.Kind.{Terms}
use Rattle.server.specs.SporadicKind.{SporadicState}
use Rattle.server.specs.SporadicInvariant.{Sound, out}

-- there is room for the slice that is open or that the next tick run opens
abbrev pub Roomy : SporadicState → Type 0
Roomy s = min 1 s.held + length s.entries ≤ 16

-- from the sound state s to the state s', with `used` ticks run; `Press` says that it was run in each tick in which it was ready
pub record Step
    (t : Terms) {lo now : ℕ} {s : SporadicState} (x : Sound t lo now s)
    (lo' now' : ℕ) (s' : SporadicState) (used : ℕ) (Press : Type 0) : Type 0 where
  pub sound : Sound t lo' now' s'
  -- the open slice's first tick never falls
  pub later : x.books.start ≤ sound.books.start
  -- what is held falls only by running
  pub keeps : s.held ≤ s'.held + used
  -- what was out stays out, with what was run, for a d from lo' on and up to a period after the start
  pub most : (d : ℕ) → lo' ≤ d → d ≤ x.books.start + t.period → used + out d s ≤ out d s'
  -- if it is pressed, with room, nothing else comes to it, and there is still room
  pub least :
      Press → Roomy s → (d : ℕ) → lo' ≤ d → d ≤ x.books.start + t.period → out d s' ≤ used + out d s
  pub room : Press → Roomy s → Roomy s'

module _ (t : Terms) {lo now : ℕ} {s : SporadicState} (x : Sound t lo now s) where
  -- nothing happens
  pub stand : (Press : Type 0) → Step t x lo now s 0 Press
  stand Press = record {
    sound = x;
    later = omega arith;
    keeps = omega arith;
    most = omega arith;
    room = λ _ roomy. roomy;
    least = omega arith;
  }

  -- a step, and a step right after it
  pub chain :
      {lo₁ now₁ used₁ lo₂ now₂ used₂ : ℕ} {s₁ s₂ : SporadicState} {Press₁ Press₂ : Type 0}
      (a : Step t x lo₁ now₁ s₁ used₁ Press₁) → Step t a.sound lo₂ now₂ s₂ used₂ Press₂ →
      lo₁ ≤ lo₂ → (used : ℕ) → used ≡ used₁ + used₂ → (Press : Type 0) → (Press → Press₁) → (Press → Press₂) →
      Step t x lo₂ now₂ s₂ used Press
  chain a b le used both Press first then = record {
    sound = b.sound;
    later = omega (arith, a.later, b.later);
    keeps = omega (arith, a.keeps, b.keeps);
    most = λ d low high. omega (arith, a.most d (omega arith) high, b.most d low (omega (arith, a.later)));
    room = λ press roomy. b.room (then press) (a.room (first press) roomy);
    least = λ press roomy d low high.
        let roomy₁ = a.room (first press) roomy in
        omega (
          arith,
          a.least (first press) roomy d (omega arith) high,
          b.least (then press) roomy₁ d low (omega (arith, a.later)),
        );
  }
