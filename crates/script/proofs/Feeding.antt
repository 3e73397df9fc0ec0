-- The first line of a text, and what follows it.
use Rattle.std.proofs.Common.{◌≡◌, ℕ, ◌≤◌, Bool, true, false, cond, List, [], ◌∷◌, length, Some, None, refl, arith, rules}
use Rattle.std.proofs.lemmas.Bool.{ltb-false}
use Rattle.std.specs.List.{before_first, after_first, position, position_or_len}
use Rattle.script.specs.Texts.{first_line, after_line, is_feed}
use Rattle.script.specs.Words.{is_empty}

pub no_line : (bs : List ℕ) → length bs ≡ 0 → (None ≡ first_line bs) × (bs ≡ after_line bs) × (is_empty bs ≡ true)
unfolding first_line after_line
no_line [] none = (refl, refl, refl)
no_line (b ∷ bs) none = absurd (omega arith)

pub one_line : (bs : List ℕ) → (length bs ≡ 0 → ⊥) → (Some (before_first is_feed bs) ≡ first_line bs) × (after_first is_feed bs ≡ after_line bs) × (is_empty bs ≡ false)
unfolding first_line after_line
one_line [] some = absurd (some refl)
one_line (b ∷ bs) some = (refl, refl, refl)

-- a place that was found, and none
pub at_place : (within : Bool) (n e : ℕ) → Some e ≡ cond within (Some n) None → e ≡ n
at_place true n e is = search rules
at_place false n e is = search rules

no_place : (within : Bool) (n : ℕ) → None ≡ cond within (Some n) None → within ≡ false
no_place true n is = search rules
no_place false n is = refl

module _ (bs : List ℕ) (none : None ≡ position is_feed bs) where
  past : length bs ≤ position_or_len is_feed bs
  past = ltb-false _ _ (no_place _ _ none)
