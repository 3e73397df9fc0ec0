-- The first word of a line, and those after it.
use Rattle.std.proofs.Common.{◌≡◌, ℕ, suc, Bool, true, false, cond, not, List, [], ◌∷◌, get_or, length, take, drop, filter, ◌==◌, nat_lt, Some, None, sym, refl, ap, ◌∙◌, subst, arith}
use Rattle.std.proofs.lemmas.Bool.{ltb-false, ne_eqb}
use Rattle.std.proofs.lemmas.List.Recursion.{is_position_or_len}
use Rattle.std.proofs.lemmas.List.Sums.{prefix_len-le-length}
use Rattle.std.specs.List.{onto_first, position, position_or_len, slice_split}
use Rattle.std.specs.Option.{unwrap_or}
use Rattle.script.specs.Words.{is_blank, is_empty, is_other, leading, word, words}

pub empty_is : (w : List ℕ) → (length w == 0) ≡ is_empty w
empty_is [] = refl
empty_is (b ∷ bs) = ne_eqb _ 0 (λ is. absurd (omega (arith, is)))

-- the first place of another byte, or the length
pub place_or_length : (blank : Bool) (bs : List ℕ) → unwrap_or (position (is_other blank) bs) (length bs) ≡ leading blank bs
place_or_length blank bs = go (nat_lt (position_or_len p bs) (length bs)) refl ∙ sym (is_position_or_len (leading blank) p refl (λ b rest. ap (λ n. cond (p b) 0 n) (omega arith)) bs)
  where
    p : ℕ → Bool
    p = is_other blank

    go : (within : Bool) → nat_lt (position_or_len p bs) (length bs) ≡ within → unwrap_or (cond within (Some (position_or_len p bs)) None) (length bs) ≡ position_or_len p bs
    go true is = refl
    go false is = omega (arith, ltb-false _ _ is, prefix_len-le-length (λ b. not (p b)) bs)

-- the pieces between blanks
abbrev pieces : List ℕ → List (List ℕ)
pieces bs = slice_split is_blank bs

-- the pieces after the first
abbrev later : List ℕ → List (List ℕ)
later [] = []
later (b ∷ bs) = cond (is_blank b) (pieces bs) (later bs)

-- the bytes up to the first blank are the first piece
first_piece : (bs : List ℕ) → pieces bs ≡ take (leading false bs) bs ∷ later bs
first_piece [] = refl
first_piece (b ∷ bs) = go (first_piece bs) (is_blank b)
  where
    go : pieces bs ≡ take (leading false bs) bs ∷ later bs → (blank : Bool)
        → cond blank ([] ∷ pieces bs) (onto_first b (pieces bs))
        ≡ take (cond blank 0 (suc (leading false bs))) (b ∷ bs) ∷ cond blank (pieces bs) (later bs)
    go rest true = refl
    go rest false = ap (onto_first b) rest

abbrev some : List (List ℕ) → List (List ℕ)
some ws = filter (λ w. not (is_empty w)) ws

later_words : (bs : List ℕ) → some (later bs) ≡ words (drop (leading false bs) bs)
later_words [] = refl
later_words (b ∷ bs) = go (later_words bs) (is_blank b) refl
  where
    go : some (later bs) ≡ words (drop (leading false bs) bs) → (blank : Bool) → is_blank b ≡ blank
        → some (cond blank (pieces bs) (later bs)) ≡ words (drop (cond blank 0 (suc (leading false bs))) (b ∷ bs))
    go rest true is = sym (ap (λ c. some (cond c ([] ∷ pieces bs) (onto_first b (pieces bs)))) is)
    go rest false is = rest

-- what follows the blanks before the first word
abbrev pub begun : List ℕ → List ℕ
begun bs = drop (leading true bs) bs

-- a line that begins with a word: the bytes up to the first blank, and the words after it
pub split_word : (b : ℕ) (bs : List ℕ) → is_blank b ≡ false
    → words (b ∷ bs) ≡ take (leading false (b ∷ bs)) (b ∷ bs) ∷ words (drop (leading false (b ∷ bs)) (b ∷ bs))
split_word b bs is =
    ap some (first_piece (b ∷ bs))
    ∙ ap (λ c. some (take (cond c 0 (suc (leading false bs))) (b ∷ bs) ∷ later (b ∷ bs))) is
    ∙ ap (λ c. take (cond c 0 (suc (leading false bs))) (b ∷ bs) ∷ some (later (b ∷ bs))) (sym is)
    ∙ ap (λ ws. take (leading false (b ∷ bs)) (b ∷ bs) ∷ ws) (later_words (b ∷ bs))

-- the first word of a line, and what follows it
abbrev Parted : List ℕ → List (List ℕ) → Type 0
Parted ts ws = (take (leading false ts) ts ≡ get_or ws 0 []) × ((n : ℕ) → get_or (words (drop (leading false ts) ts)) n [] ≡ get_or ws (suc n) [])

pub parted : (bs : List ℕ) → Parted (begun bs) (words bs)
parted [] = (refl, λ n. refl)
parted (b ∷ bs) = go (parted bs) (is_blank b) refl
  where
    go : Parted (begun bs) (words bs) → (blank : Bool) → is_blank b ≡ blank
        → Parted (drop (cond (not blank) 0 (suc (leading true bs))) (b ∷ bs)) (words (b ∷ bs))
    go rest true is = subst (Parted (begun bs)) (sym (ap (λ c. some (cond c ([] ∷ pieces bs) (onto_first b (pieces bs)))) is)) rest
    go rest false is =
        let split = split_word b bs is in
        (sym (ap (λ ws. get_or ws 0 []) split), λ n. sym (ap (λ ws. get_or ws (suc n) []) split))

module _ (bs ts : List ℕ) (e : ℕ) (begins : ts ≡ begun bs) (ends : e ≡ leading false ts) where
  pub word_first : take e ts ≡ word bs 0
  unfolding word
  word_first = rw (ends, begins) (parted bs).0

  pub word_later : (n : ℕ) → word (drop e ts) n ≡ word bs (suc n)
  unfolding word
  word_later n = rw (ends, begins) ((parted bs).1 n)
