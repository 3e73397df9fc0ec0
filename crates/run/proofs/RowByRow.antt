-- A change of each row, one after the other.
use Rattle.std.proofs.Common.{◌≡◌, ℕ, suc, ◌+◌, ◌<◌, ◌≤◌, List, [], ◌∷◌, ◌++◌, map, length, get_or, take, drop, set, sym, refl, ap, ◌∙◌, ⊎_elim, append_assoc, add-zero, arith}
use Rattle.std.proofs.lemmas.List.{take_more, drop_more, set_at, get_or_at, take_all, take-append-drop, drop_all, append-nil, length-take-le, length-append, length-map, get_or-map, map-set, set_past}
use Rattle.std.proofs.lemmas.Bool.{cases_lt}
use Rattle.run.specs.Rows.{lined}

-- the first n rows changed, the rest as they were
abbrev pub done_to : {A : Type 0} → (ℕ → A → A) → ℕ → List A → List A
done_to f n xs = lined f 1 (take n xs) ++ drop n xs

module _ {A : Type 0} (f : ℕ → A → A) where
  pub lined_length : {B : Type 0} (h : ℕ → A → B) (i : ℕ) (xs : List A) → length (lined h i xs) ≡ length xs
  lined_length h i [] = refl
  lined_length h i (x ∷ xs) = ap suc (lined_length h (suc i) xs)

  lined_push : (i : ℕ) (xs : List A) (x : A) → lined f i (xs ++ (x ∷ [])) ≡ lined f i xs ++ (f (i + length xs) x ∷ [])
  lined_push i [] x = ap (λ n. f n x ∷ []) (sym (add-zero i))
  lined_push i (y ∷ xs) x =
      let place : suc i + length xs ≡ i + suc (length xs) = omega arith in
      ap (λ zs. f i y ∷ zs) (lined_push (suc i) xs x ∙ ap (λ n. lined f (suc i) xs ++ (f n x ∷ [])) place)

  pub done_more : (xs ys : List A) (i : ℕ) (y d : A) → i < length xs → ys ≡ done_to f i xs → y ≡ f (i + 1) (get_or ys i d) → set ys i y ≡ done_to f (i + 1) xs
  done_more xs ys i y d within before is =
      let front = lined f 1 (take i xs) in
      let x = get_or xs i d in
      let rest = drop (i + 1) xs in
      let many : length (take i xs) ≡ i = length-take-le i xs (omega arith) in
      let long : length front ≡ i = lined_length f 1 (take i xs) ∙ many in
      let split : ys ≡ front ++ (x ∷ rest) = before ∙ ap (λ zs. front ++ zs) (drop_more xs i d within) in
      let here : y ≡ f (i + 1) x = is ∙ ap (f (i + 1)) (ap (λ zs. get_or zs i d) split ∙ get_or_at front x rest d i long) in
      let number : 1 + length (take i xs) ≡ i + 1 = omega arith in
      let pushed : lined f 1 (take (i + 1) xs) ≡ front ++ (f (i + 1) x ∷ []) =
      ap (lined f 1) (take_more xs i d within) ∙ lined_push 1 (take i xs) x ∙ ap (λ n. front ++ (f n x ∷ [])) number in
      ap (λ zs. set zs i y) split ∙ set_at front x rest y i long ∙ ap (λ z. front ++ (z ∷ rest)) here
      ∙ sym (append_assoc front (f (i + 1) x ∷ []) rest) ∙ ap (λ zs. zs ++ rest) (sym pushed)

  -- past the last row nothing changes any more
  done_past : (xs : List A) (i : ℕ) → length xs ≤ i → done_to f i xs ≡ lined f 1 xs
  done_past xs i past =
      ap (λ zs. lined f 1 zs ++ drop i xs) (take_all i xs past) ∙ ap (λ zs. lined f 1 xs ++ zs) (drop_all i xs past) ∙ append-nil (lined f 1 xs)

  pub done_length : (xs : List A) (i : ℕ) → length (done_to f i xs) ≡ length xs
  done_length xs i =
      length-append (lined f 1 (take i xs)) (drop i xs)
      ∙ ap (λ n. n + length (drop i xs)) (lined_length f 1 (take i xs))
      ∙ sym (length-append (take i xs) (drop i xs)) ∙ ap length (take-append-drop i xs)

-- the same of rows that are seen through a function v
module _ {A B : Type 0} (v : B → A) (f : ℕ → A → A) (old : List B) where
  pub seen_more : (now : List B) (i : ℕ) (row new : B) → map v now ≡ done_to f i (map v old)
      → row ≡ get_or now i row → v new ≡ f (i + 1) (v row) → map v (set now i new) ≡ done_to f (i + 1) (map v old)
  seen_more now i row new before read is =
      let long : length now ≡ length (map v old) = sym (length-map now v) ∙ ap length before ∙ done_length f (map v old) i in
      ⊎_elim
      (λ (less : i < length now).
      let at : get_or (map v now) i (v row) ≡ v row = get_or-map v now i row (v row) less ∙ ap v (sym read) in
      map-set v now i new
      ∙ done_more f (map v old) (map v now) i (v new) (v row) (omega arith) before (is ∙ ap (f (i + 1)) (sym at)))
      (λ (past : length now ≤ i).
      ap (map v) (set_past now i new past) ∙ before ∙ done_past f (map v old) i (omega arith) ∙ sym (done_past f (map v old) (i + 1) (omega arith)))
      (cases_lt i (length now))
