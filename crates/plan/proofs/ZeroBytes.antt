-- The bytes that have to be zero, by the first that is not.
use Rattle.std.proofs.Common.{◌≡◌, ℕ, suc, ◌+◌, true, false, not, cond, eqb, List, [], ◌∷◌, Option, Some, None, sym, refl, ap, ◌∙◌, arith}
use Rattle.std.proofs.lemmas.Iterator.Adapters.{position_from-zero}
use Rattle.std.specs.List.{position, position_from}
use Rattle.plan.specs.Records.{Decoded, fault, check, zeros}

-- the fault at the first byte that is not zero, or the rest
abbrev pub past_zeros : Option ℕ → Decoded → Decoded
past_zeros None rest = rest
past_zeros (Some i) rest = fault 3 (i + 1)

from_first : (j : ℕ) (zs : List ℕ) (rest : Decoded) → zeros (j + 1) zs rest ≡ past_zeros (position_from (λ z. not (eqb z 0)) j zs) rest
from_first j [] rest = refl
from_first j (z ∷ zs) rest =
    elim (eqb z 0) as (λ b. check b 3 (j + 1) (zeros (suc (j + 1)) zs rest) ≡ past_zeros (cond (not b) (Some j) (position_from (λ z. not (eqb z 0)) (j + 1) zs)) rest)
    [ true ↦ ap (λ k. zeros k zs rest) (omega arith) ∙ from_first (j + 1) zs rest | false ↦ refl ]

pub zeros_first : (o : Option ℕ) (zs : List ℕ) (rest : Decoded) → o ≡ position (λ z. not (eqb z 0)) zs → past_zeros o rest ≡ zeros 1 zs rest
zeros_first o zs rest found =
    ap (λ o. past_zeros o rest) (found ∙ position_from-zero (λ z. not (eqb z 0)) zs) ∙ sym (from_first 0 zs rest)
