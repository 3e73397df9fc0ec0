-- The numbers that words in a row are, one after the other.
use Rattle.std.proofs.Common.{◌≡◌, ℕ, suc, Bool, true, false, cond, ◌+◌, ◌-◌, ◌<◌, ◌≤◌, List, [], ◌∷◌, ◌++◌, length, take, set, Some, None, Option, sym, refl, ap, ◌∙◌, append_assoc, arith}
use Rattle.std.proofs.lemmas.List.{append-nil, take_all, take_more_set}
use Rattle.std.specs.Bool.{then_some}
use Rattle.std.specs.Option.{option_map}
use Rattle.script.specs.Words.{word}
use Rattle.script.specs.Numbers.{number}
use Rattle.script.specs.Commands.{with_first, numbers_from}

-- the numbers of a front, before what the words from there on give
abbrev pub begun : List ℕ → ℕ → ℕ → List ℕ → Option (List ℕ)
begun all i count bs = option_map (λ rest. take i all ++ rest) (numbers_from (i + 1) (count - i) bs)

-- after i numbers of a line: those that were read, and the words that are left
pub record SoFar (bs all rest : List ℕ) (i count : ℕ) : Type 0 where
  pub long : length all ≡ count
  pub read : begun all i count bs ≡ numbers_from 1 count bs
  pub left : (k : ℕ) → word rest k ≡ word bs (i + 1 + k)

moved : (all : List ℕ) (i x : ℕ) → i < length all → (o : Option (List ℕ))
    → option_map (λ rest. take i all ++ rest) (with_first (Some x) o) ≡ option_map (λ rest. take (i + 1) (set all i x) ++ rest) o
moved all i x within None = refl
moved all i x within (Some rest) = ap Some (sym (ap (λ front. front ++ rest) (take_more_set all i x within) ∙ append_assoc (take i all) (x ∷ []) rest))

module _ (bs all : List ℕ) (i count : ℕ) (within : i < count) where
  next_word : numbers_from (i + 1) (count - i) bs ≡ with_first (number (word bs (i + 1))) (numbers_from (i + 1 + 1) (count - (i + 1)) bs)
  next_word = let more : count - i ≡ suc (count - (i + 1)) = omega (arith, within) in ap (λ k. numbers_from (i + 1) k bs) more

  pub one_more : (x : ℕ) → i < length all → Some x ≡ number (word bs (i + 1)) → begun (set all i x) (i + 1) count bs ≡ begun all i count bs
  one_more x fits is =
      sym (moved all i x fits (numbers_from (i + 1 + 1) (count - (i + 1)) bs))
      ∙ ap (λ o. option_map (λ rest. take i all ++ rest) (with_first o (numbers_from (i + 1 + 1) (count - (i + 1)) bs))) is
      ∙ ap (option_map (λ rest. take i all ++ rest)) (sym next_word)

  pub no_more : None ≡ number (word bs (i + 1)) → None ≡ begun all i count bs
  no_more is =
      ap (λ o. option_map (λ rest. take i all ++ rest) (with_first o (numbers_from (i + 1 + 1) (count - (i + 1)) bs))) is
      ∙ ap (option_map (λ rest. take i all ++ rest)) (sym next_word)

pub all_read : (bs all : List ℕ) (i count : ℕ) → length all ≤ i → count ≤ i → Some all ≡ begun all i count bs
all_read bs all i count whole past =
    let none : count - i ≡ 0 = omega (arith, past) in
    ap Some (sym (append-nil (take i all) ∙ take_all i all whole))
    ∙ ap (λ k. option_map (λ rest. take i all ++ rest) (numbers_from (i + 1) k bs)) (sym none)

-- with no numbers it does not matter whether the line ends there
pub none_either : (ends : Bool) (o : Option (List ℕ)) → None ≡ o → None ≡ cond ends o None
none_either true o none = none
none_either false o none = refl

pub all_where_ends : (ends : Bool) (all : List ℕ) (o : Option (List ℕ)) → Some all ≡ o → then_some ends all ≡ cond ends o None
all_where_ends true all o is = is
all_where_ends false all o is = refl
