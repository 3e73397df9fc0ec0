-- The laws of division rounded up.
use Rattle.std.specs.Prelude.{◌≡◌, ℕ, zero, suc, ◌+◌, ◌-◌, ◌*◌, ◌/◌, ◌%◌, ◌<◌, ◌≤◌, min, refl}
use Rattle.std.proofs.Common.{sym, div-add-mod', div-mul-le_self, mod-lt, div-lt_iff_lt-mul, add-mul, suc-mul, arith}
use Rattle.std.proofs.Math.Nat.{lt-div-mul-add, div-eq_of_lt-le, div-eq_of_lt}
use Rattle.server.specs.Rounding.{ceil_div, Reaches}

pub ceil_div_zero : (p : ℕ) → ceil_div 0 p ≡ 0
ceil_div_zero zero = refl
ceil_div_zero (suc p) = div-eq_of_lt (omega arith)

pub ceil_div_reaches : (n p : ℕ) → 1 ≤ p → Reaches n p (ceil_div n p)
ceil_div_reaches n p some = record {
  enough = omega (arith, lt-div-mul-add {a = n + (p - 1)} some);
  least = λ j h.
      let up : n + (p - 1) < suc j * p = omega (arith, suc-mul j p) in
      omega (arith, (div-lt_iff_lt-mul some).1 up);
}

pub ceil_div_rises : (m n p : ℕ) → 1 ≤ p → m ≤ n → ceil_div m p ≤ ceil_div n p
ceil_div_rises m n p some le = (ceil_div_reaches m p some).least (ceil_div n p) (omega (arith, (ceil_div_reaches n p some).enough))

-- less than p more than n is reached
pub ceil_div_close : (n p : ℕ) → ceil_div n p * p ≤ n + (p - 1)
ceil_div_close n p = div-mul-le_self (n + (p - 1)) p

-- the quotient, and one more where something is left over
pub ceil_div_is : (n p : ℕ) → 1 ≤ p → n / p + min 1 (n % p) ≡ ceil_div n p
ceil_div_is n p some = go (n % p) (div-add-mod' n p) (mod-lt n some)
  where
    within : (k : ℕ) → k * p ≤ n + (p - 1) → n < k * p + 1 → k ≡ ceil_div n p
    within k low high = sym (div-eq_of_lt-le p low (omega (arith, add-mul k 1 p)))

    go : (rest : ℕ) → n / p * p + rest ≡ n → rest < p → n / p + min 1 rest ≡ ceil_div n p
    go zero e lt = omega (arith, within (n / p) (omega arith) (omega arith))
    go (suc rest) e lt = let more = suc-mul (n / p) p in omega (arith, within (suc (n / p)) (omega arith) (omega arith))
