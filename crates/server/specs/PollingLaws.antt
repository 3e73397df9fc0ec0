-- The polling server is lawful.
use Rattle.std.specs.Prelude.{◌≡◌, ℕ, zero, suc, ◌≤◌, Bool, true, false, ◌&&◌, nat_le, refl}
use Rattle.std.proofs.Common.{arith}
use Rattle.std.proofs.lemmas.Bool.{cond_both, leb-false}
use Rattle.server.specs.Kind.{Terms, Fit}
use Rattle.server.specs.Budgets.{starts}
use Rattle.server.specs.PollingKind.{polling, polling_begun}
use Rattle.server.specs.Histories.{History, before, Possible, Fresh}
use Rattle.server.specs.Laws.{Lawful}
use Rattle.server.specs.RefillLaws.{Refilled, in_after, in_rise, spent_fresh}
use Rattle.server.specs.RefillFloor.{refilled_keeps}

-- it holds 0 where it is not wanted, and where it is not ready
not_wanted : (t : Terms) (held tick : ℕ) → polling_begun t held tick false ≤ 0
not_wanted t held tick = cond_both (starts t tick) 0 0 (λ x. x ≤ 0) (λ e. omega arith) (λ e. omega arith)

not_ready : (t : Terms) (held tick : ℕ) (wanted : Bool) →
    (wanted && nat_le 1 (polling_begun t held tick wanted)) ≡ false → polling_begun t held tick wanted ≤ 0
not_ready t held tick true e = omega (arith, leb-false _ _ e)
not_ready t held tick false e = not_wanted t held tick

refilled : (t : Terms) (h : History) → Fit t → Possible polling t h → Refilled polling t h
refilled t h fit possible = record {
  fit = fit;
  possible = possible;
  new = omega arith;
  asked = λ held tick. refl;
  most = λ held tick. elim [ true ↦ omega arith | false ↦ omega (arith, not_wanted t held tick) ];
  after = λ held ran. refl;
}

-- a window that begins fresh begins with nothing held
empty : (t : Terms) (h : History) → Refilled polling t h → (s : ℕ) → Fresh polling t h s → before polling t h s ≤ 0
empty t h g zero fresh = omega arith
empty t h g (suc s) fresh = omega (arith, in_after g s, not_ready t (before polling t h s) s (h.wanted s) fresh)

pub polling_lawful : Lawful polling
polling_lawful t fit letter h possible =
    let g = refilled t h fit possible in
    refilled_keeps g (λ s n fresh. spent_fresh g s n (omega (arith, in_rise g s, empty t h g s fresh)))
