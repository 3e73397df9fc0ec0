-- The sporadic server is lawful.
use Rattle.std.specs.Prelude.{ℕ, suc, ◌≤◌}
use Rattle.std.proofs.Common.{arith}
use Rattle.server.specs.Kind.{Terms}
use Rattle.server.specs.Laws.{Lawful}
use Rattle.server.specs.SporadicKind.{SporadicState, sporadic}
use Rattle.server.specs.SporadicInvariant.{Sound}
use Rattle.server.specs.SporadicHistory.{start, end, sound}
use Rattle.server.specs.SporadicCeiling.{sporadic_ceiling_anywhere}
use Rattle.server.specs.SporadicFloor.{floor}

held_bound : (t : Terms) (lo now : ℕ) (s : SporadicState) → Sound t lo now s → s.held ≤ t.budget
held_bound t lo now s x = omega arith

pub sporadic_lawful : Lawful sporadic
sporadic_lawful t fit serves h possible =
    let x = sound t fit h possible in
    record {
      ceiling = λ s n fresh. sporadic_ceiling_anywhere t fit h possible s n;
      floor = floor t fit h possible;
      keeping_start = λ n wanted. omega (arith, (start t fit h possible n (x n)).keeps);
      keeping_end = λ n wanted. (end t fit h possible n (x n)).keeps;
      held_before = λ n. held_bound t n n _ (x n);
      held_inside = λ n. held_bound t (suc n) n _ (start t fit h possible n (x n)).sound;
    }
