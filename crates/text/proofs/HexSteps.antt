-- Hexadecimal digits one by one.
use Rattle.std.proofs.Common.{◌≡◌, ℕ, zero, suc, ◌-◌, ◌/◌, ◌%◌, ◌<◌, ◌≤◌, [], ◌∷◌, ◌++◌, refl, arith}
use Rattle.text.specs.Hex.{hex_digit, hex}

pub hex_step : (count n : ℕ) → 0 < count → hex count n ≡ hex (count - 1) (n / 16) ++ (hex_digit (n % 16) ∷ [])
hex_step zero n some = absurd (omega arith)
hex_step (suc count) n some =
    let less : suc count - 1 ≡ count = omega arith in
    rw less refl

pub hex_none : (count n : ℕ) → count ≤ 0 → hex count n ≡ []
hex_none zero n none = refl
hex_none (suc count) n none = absurd (omega arith)
