-- How often a server ran, in windows that are put together.
use Rattle.std.specs.Prelude.{◌≡◌, ℕ, zero, suc, ◌+◌, ◌-◌, ◌<◌, ◌≤◌, Bool, true, false, cond, refl}
use Rattle.std.proofs.Common.{ap, ◌∙◌, arith, add-zero, add-suc}
use Rattle.server.specs.Histories.{History, runs}

pub once : (b : Bool) → cond b 1 0 ≤ 1
once true = omega arith
once false = omega arith

-- a window, and the window right after it
pub runs_split : (h : History) (s m n : ℕ) → runs h s (m + n) ≡ runs h s m + runs h (s + m) n
runs_split h s m zero = ap (runs h s) (add-zero m) ∙ omega arith
runs_split h s m (suc n) =
    let place : s + (m + n) ≡ s + m + n = omega arith in
    ap (runs h s) (add-suc m n)
    ∙ ap (λ i. runs h s (m + n) + cond (h.ran i) 1 0) place
    ∙ omega (arith, runs_split h s m n)

pub runs_le : (h : History) (s n : ℕ) → runs h s n ≤ n
runs_le h s zero = omega arith
runs_le h s (suc n) = omega (arith, runs_le h s n, once (h.ran (s + n)))

-- a window inside another
pub runs_within : (h : History) (s n s' m : ℕ) → s ≤ s' → s' + m ≤ s + n → runs h s' m ≤ runs h s n
runs_within h s n s' m starts ends =
    let d = s' - s in
    let rest = n - (d + m) in
    let place : s + d ≡ s' = omega arith in
    let size : d + (m + rest) ≡ n = omega arith in
    omega (arith, ap (runs h s) size, runs_split h s d (m + rest), runs_split h (s + d) m rest, ap (λ x. runs h x m) place)

-- a window in which it runs in each tick
pub runs_all : (h : History) (s n : ℕ) → ((i : ℕ) → i < n → h.ran (s + i) ≡ true) → runs h s n ≡ n
runs_all h s zero all = refl
runs_all h s (suc n) all =
    omega (arith, ap {B = ℕ} (λ b. cond b 1 0) (all n (omega arith)), runs_all h s n (λ i lt. all i (omega arith)))
