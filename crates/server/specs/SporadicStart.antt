-- The start of a tick is a step of a sporadic server.
use Rattle.std.specs.Prelude.{◌≡◌, ℕ, suc, ◌+◌, ◌≤◌, Bool, true, false, cond, List, [], ◌∷◌, length, Some, None, ◌==◌, refl}
use Rattle.std.proofs.Common.{ap, arith}
use Rattle.std.proofs.lemmas.Bool.{eqb-true, eqb-false}
use Rattle.server.specs.declared.entry.Entry.{Entry}
use Rattle.server.specs.Kind.{Terms, Fit}
use Rattle.server.specs.Replenishments.{total, going, staying}
use Rattle.server.specs.SporadicKind.{SporadicState, closed, replenished, sporadic_begun}
use Rattle.server.specs.DueLaws.{Between, due_from, due_from_past}
use Rattle.server.specs.SporadicInvariant.{Books, Sound, closing}
use Rattle.server.specs.SporadicSteps.{Step}

-- the oldest entry is not due at the tick
abbrev Waits : ℕ → List Entry → Type 0
Waits tick [] = Unit {0}
Waits tick (e ∷ es) = e.due ≡ tick → ⊥

waits_order :
    (tick : ℕ) (es : List Entry) (hi : ℕ) → Waits tick es → suc tick ≤ hi → Between tick es hi → Between (suc tick) es hi
waits_order tick [] hi w le b = omega arith
waits_order tick (e ∷ es) hi w le b = (grind (arith, w, b.0), b.1)

-- the state at tick `tick` with this held and these entries
abbrev at : SporadicState → ℕ → ℕ → List Entry → SporadicState
at s tick held es = record { held = held; entries = es; first = s.first; slice = s.slice; tick = tick }

-- the two ways in which a tick starts: no entry goes, or the oldest
start_by :
    (t : Terms) (s : SporadicState) (tick : ℕ) (wanted : Bool) (P : SporadicState → Type 0) →
    (Waits tick s.entries → P (at s tick s.held s.entries)) →
    ((e : Entry) (es : List Entry) → s.entries ≡ e ∷ es → e.due ≡ tick →
    P (closed t (at s tick (s.held + e.amount) es))) →
    P (sporadic_begun t s tick wanted)
start_by t s tick wanted P stays goes = by s.entries stays goes
  where
    by : (all : List Entry) →
        (Waits tick all → P (at s tick s.held all)) →
        ((e : Entry) (es : List Entry) → all ≡ e ∷ es → e.due ≡ tick →
        P (closed t (at s tick (s.held + e.amount) es))) →
        P (replenished t (going all tick) (at s tick s.held (staying all tick)))
    by [] stays goes = stays tt
    by (e ∷ es) stays goes = test (e.due == tick) refl
      where
        test :
            (b : Bool) → (e.due == tick) ≡ b →
            P (replenished t (cond b (Some e.amount) None) (at s tick s.held (cond b es (e ∷ es))))
        test true is = goes e es refl (eqb-true e.due tick is)
        test false is = stays (eqb-false e.due tick is)

module _ (t : Terms) (fit : Fit t) (tick : ℕ) (s : SporadicState) (x : Sound t tick tick s) where
  -- it is always as if pressed: an entry that goes makes room
  abbrev Start : SporadicState → Type 0
  Start s' = Step t x (suc tick) tick s' 0 (Unit {0})

  stays : Waits tick s.entries → Start (at s tick s.held s.entries)
  stays w =
      let b = x.books in
      record {
        sound = record {
          books = record {
            start = b.start;
            ends = b.ends;
            opened = b.opened;
            sum = b.sum;
            few = b.few;
            order = waits_order tick s.entries _ w (omega (arith, fit.some, fit.within)) b.order;
          };
          kept = x.kept;
        };
        later = omega arith;
        keeps = omega arith;
        most = omega arith;
        room = λ _ roomy. roomy;
        least = omega arith;
      }

  goes :
      (e : Entry) (es : List Entry) → s.entries ≡ e ∷ es → e.due ≡ tick →
      Start (closed t (at s tick (s.held + e.amount) es))
  goes e es is due =
      let b = x.books in
      let gone : SporadicState = at s tick (s.held + e.amount) es in
      let size : length s.entries ≡ suc (length es) = ap length is in
      let order : Between tick (e ∷ es) (b.start + t.period) = rw is at b.order in
      let books : Books t (suc tick) tick gone = record {
        start = b.start;
        ends = b.ends;
        opened = b.opened;
        sum = omega (arith, ap total is);
        few = omega arith;
        order = rw due at order.1;
      } in
      let shut = closing t books tick (omega arith) in
      let same = λ (d : ℕ) (low : suc tick ≤ d). due_from_past d e es (omega arith) in
      record {
        sound = shut.sound;
        later = omega arith;
        keeps = omega arith;
        most = λ d low high. omega (arith, ap (due_from d) is, same d low, shut.most d high);
        room = λ _ roomy. omega (arith, shut.size);
        least = λ _ _ d low high. omega (arith, ap (due_from d) is, same d low, shut.least (omega arith) d high);
      }

  pub starting : (wanted : Bool) → Start (sporadic_begun t s tick wanted)
  starting wanted = start_by t s tick wanted Start stays goes

-- the tick is noted
pub start_tick : (t : Terms) (s : SporadicState) (tick : ℕ) (wanted : Bool) → (sporadic_begun t s tick wanted).tick ≡ tick
start_tick t s tick wanted = start_by t s tick wanted (λ s'. s'.tick ≡ tick) (λ _. refl) (λ _ _ _ _. refl)
