-- What always holds of a sporadic server, and that it still holds when a slice closes.
use Rattle.std.specs.Prelude.{◌≡◌, ℕ, ◌+◌, ◌≤◌, min, cond, List, length, ◌==◌}
use Rattle.std.proofs.Common.{arith}
use Rattle.std.proofs.lemmas.Bool.{eqb-true, eqb-false, cond_both}
use Rattle.server.specs.declared.entry.Entry.{Entry}
use Rattle.server.specs.Kind.{Terms}
use Rattle.server.specs.Replenishments.{total, written}
use Rattle.server.specs.SporadicKind.{SporadicState}
use Rattle.server.specs.ReplenishmentLaws.{total_written, written_few}
use Rattle.server.specs.DueLaws.{Between, between_wider, between_written, due_from, due_from_written, due_from_room}

-- the books of a server before tick `now`, with no entry due before tick `lo`
pub record Books (t : Terms) (lo now : ℕ) (s : SporadicState) : Type 0 where
  -- the open slice's first tick, and `now` if none is open: a slice has no gap
  pub start : ℕ
  pub ends : start + s.slice ≡ now
  pub opened : 1 ≤ s.slice → s.first ≡ start
  -- all together is the budget
  pub sum : s.held + total s.entries + s.slice ≡ t.budget
  pub few : length s.entries ≤ 16
  -- the open slice will be due after all entries
  pub order : Between lo s.entries (start + t.period)

-- the books are right, and while a slice is open something is held
pub record Sound (t : Terms) (lo now : ℕ) (s : SporadicState) : Type 0 where
  pub books : Books t lo now s
  pub kept : min 1 s.slice ≤ s.held

-- what is out and comes back at tick d or later
abbrev pub out : ℕ → SporadicState → ℕ
out d s = s.slice + due_from d s.entries

-- the state with no slice open, and these entries
abbrev shut : SporadicState → List Entry → SporadicState
shut s es = record { held = s.held; entries = es; first = s.first; slice = 0; tick = s.tick }

-- a slice closes before tick `then`, which leaves these entries
pub record Shut
    (t : Terms) {lo now : ℕ} {s : SporadicState} (b : Books t lo now s) (then : ℕ) (es : List Entry) : Type 0 where
  pub sound : Sound t lo then (shut s es)
  pub size : length es ≤ length s.entries + min 1 s.slice
  -- what was out stays out, for a d up to a period after the start; with room nothing else comes to it
  pub most : (d : ℕ) → d ≤ b.start + t.period → out d s ≤ due_from d es
  pub least :
      length s.entries + min 1 s.slice ≤ 16 → (d : ℕ) → d ≤ b.start + t.period → due_from d es ≤ out d s

module _ (t : Terms) {lo now : ℕ} {s : SporadicState} (b : Books t lo now s) (then : ℕ) (le : now ≤ then) where
  -- the entry that is written
  abbrev entry : Entry
  entry = record { due = s.first + t.period; amount = s.slice }

  -- all is held or pending
  whole :
      (es : List Entry) → s.held + total es ≡ t.budget → length es ≤ 16 → Between lo es (then + t.period) →
      Sound t lo then (shut s es)
  whole es sum few order = record {
    books = record { start = then; ends = omega arith; opened = omega arith; sum = omega arith; few = few; order = order };
    kept = omega arith;
  }

  none : s.slice ≡ 0 → Shut t b then s.entries
  none e = record {
    sound = whole s.entries (omega arith) b.few (between_wider lo s.entries _ _ (omega arith) b.order);
    size = omega arith;
    most = omega arith;
    least = omega arith;
  }

  some : 1 ≤ s.slice → Shut t b then (written s.entries entry)
  some more =
      let is : s.first + t.period ≡ b.start + t.period = omega (arith, b.opened more) in
      let old : Between lo s.entries (s.first + t.period) = rw is b.order in
      let all = written s.entries entry in
      let few = written_few s.entries entry b.few in
      record {
        sound =
            whole
            all
            (omega (arith, total_written s.entries entry))
            few.bound
            (between_wider lo all _ _ (omega arith) (between_written entry lo s.entries old));
        size = omega arith;
        most = λ d late. omega (arith, due_from_written d entry (omega arith) s.entries);
        least = λ room d late. omega (arith, due_from_room d entry (omega arith) s.entries (omega arith));
      }

  pub closing : Shut t b then (cond (s.slice == 0) s.entries (written s.entries entry))
  closing =
      cond_both
      (s.slice == 0)
      _
      _
      (Shut t b then)
      (λ e. none (eqb-true s.slice 0 e))
      (λ e. some (grind (arith, eqb-false s.slice 0 e)))
