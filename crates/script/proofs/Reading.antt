-- Reading a number digit by digit.
use Rattle.std.proofs.Common.{◌≡◌, ℕ, ◌+◌, ◌<◌, ◌≤◌, Bool, true, false, cond, not, ◌&&◌, leb, List, [], ◌∷◌, length, get_or, drop, Some, None, Option, sym, refl, ap, ◌∙◌, arith}
use Rattle.std.proofs.lemmas.List.{drop_more, drop_all}
use Rattle.std.proofs.lemmas.Bool.{cond-false, le-leb, lt-leb, leb-true, leb-false, and_right}
use Rattle.script.specs.Words.{is_empty}
use Rattle.script.specs.Numbers.{is_digit, are_digits, with_digit, value_from, number, extended}

-- what further digits make of a value; none stays none
abbrev pub further : Option ℕ → List ℕ → Option ℕ
further o [] = o
further None (b ∷ bs) = None
further (Some v) (b ∷ bs) = further (extended v b) bs

further_none : (bs : List ℕ) → further None bs ≡ None
further_none [] = refl
further_none (b ∷ bs) = refl

-- further digits never make a value less
value_grows : (v : ℕ) (bs : List ℕ) → v ≤ value_from v bs
value_grows v [] = omega arith
value_grows v (b ∷ bs) = omega (arith, value_grows (with_digit v b) bs)

-- the value of some digits after a value, if they are digits and it is within the bound
abbrev bounded : Bool → ℕ → Option ℕ
bounded digits v = cond (digits && leb v 4294967295) (Some v) None

reads : (v : ℕ) (bs : List ℕ) → v ≤ 4294967295 → further (Some v) bs ≡ bounded (are_digits bs) (value_from v bs)
reads v [] small = sym (ap (λ b. cond b (Some v) None) (le-leb v 4294967295 small))
reads v (b ∷ bs) small = go (λ less. reads (with_digit v b) bs less) (is_digit b) (leb (with_digit v b) 4294967295) refl
  where
    go : (with_digit v b ≤ 4294967295 → further (Some (with_digit v b)) bs ≡ bounded (are_digits bs) (value_from (with_digit v b) bs)) → (digit fits : Bool) → leb (with_digit v b) 4294967295 ≡ fits
        → further (cond (digit && fits) (Some (with_digit v b)) None) bs ≡ bounded (digit && are_digits bs) (value_from (with_digit v b) bs)
    go rest false fits is = further_none bs
    go rest true true is = rest (leb-true (with_digit v b) 4294967295 is)
    go rest true false is =
        further_none bs
        ∙ sym (cond-false _ _ _ (and_right (are_digits bs) _ (lt-leb _ _ (omega (arith, leb-false (with_digit v b) 4294967295 is, value_grows (with_digit v b) bs)))))

-- a word that is read whole
number_is : (w : List ℕ) → is_empty w ≡ false → further (Some 0) w ≡ number w
unfolding number
number_is w some = reads 0 w (omega arith) ∙ ap (λ e. cond (not e && (are_digits w && leb (value_from 0 w) 4294967295)) (Some (value_from 0 w)) None) (sym some)

some_bytes : (w : List ℕ) → 0 < length w → is_empty w ≡ false
some_bytes [] some = absurd (omega arith)
some_bytes (b ∷ bs) some = refl

pub number_empty : (w : List ℕ) → length w ≡ 0 → None ≡ number w
unfolding number
number_empty [] none = refl
number_empty (b ∷ bs) none = absurd (omega arith)

module _ (w : List ℕ) (i v : ℕ) (far : further (Some v) (drop i w) ≡ further (Some 0) w) where
  pub number_ends : 0 < length w → length w ≤ i → Some v ≡ number w
  number_ends some past = sym (ap (further (Some v)) (drop_all i w past)) ∙ far ∙ number_is w (some_bytes w some)

  module _ (d : ℕ) (within : i < length w) where
    step : (o : Option ℕ) → o ≡ extended v (get_or w i d) → further o (drop (i + 1) w) ≡ further (Some 0) w
    step o is = ap (λ x. further x (drop (i + 1) w)) is ∙ sym (ap (further (Some v)) (drop_more w i d within)) ∙ far

    pub number_stops : None ≡ extended v (get_or w i d) → None ≡ number w
    number_stops is = sym (further_none (drop (i + 1) w)) ∙ step None is ∙ number_is w (some_bytes w (omega arith))
