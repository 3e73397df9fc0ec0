-- A number and its four bytes: each gives the other back.
use Rattle.std.proofs.Common.{◌≡◌, ℕ, ◌+◌, ◌/◌, ◌^◌, ◌<◌, List, [], ◌∷◌, get_or, mod-eq_of_lt, arith}
use Rattle.std.proofs.lemmas.Nat.{shr-shr}
use Rattle.plan.specs.Bytes.{number, bytes}

-- the four bytes that begin at byte k
abbrev pub four : List ℕ → ℕ → List ℕ
four bs k = get_or bs k 0 ∷ get_or bs (k + 1) 0 ∷ get_or bs (k + 2) 0 ∷ get_or bs (k + 3) 0 ∷ []

pub number_bytes : (n : ℕ) → n < 2 ^ 32 → number (bytes n) 0 ≡ n
number_bytes n small =
    let top : n / 16777216 < 256 = omega arith in
    omega (arith, shr-shr n 8 8, shr-shr n 16 8, mod-eq_of_lt top)

pub bytes_number : (bs : List ℕ) (k : ℕ) → ((i : ℕ) → get_or bs i 0 < 256) → bytes (number bs k) ≡ four bs k
bytes_number bs k below =
    let a = below k in
    let b = below (k + 1) in
    let c = below (k + 2) in
    let d = below (k + 3) in
    grind arith
