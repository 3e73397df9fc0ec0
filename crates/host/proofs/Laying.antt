-- Line numbers and times laid one after the other.
use Rattle.std.proofs.Common.{◌≡◌, ℕ, suc, ◌+◌, ◌*◌, ◌<◌, List, [], ◌∷◌, ◌++◌, length, get_or, take, drop, sym, refl, ap, ◌∙◌, append_assoc, arith}
use Rattle.std.proofs.lemmas.List.{append-nil, drop_at, drop-drop, length-append, length-take-le, take_at, take_more}
use Rattle.plan.specs.Bytes.{bytes}
use Rattle.host.specs.Entry.{pairs}

pairs_length : (n : ℕ) (ts : List ℕ) → length (pairs n ts) ≡ 8 * length ts
pairs_length n [] = refl
pairs_length n (t ∷ ts) = omega (arith, pairs_length (suc n) ts)

pairs_push : (n : ℕ) (ts : List ℕ) (t : ℕ) → pairs n (ts ++ (t ∷ [])) ≡ pairs n ts ++ (bytes (n + length ts) ++ bytes t)
pairs_push n [] t =
    let same : n ≡ n + 0 = omega arith in
    ap (λ xs. bytes n ++ xs) (append-nil (bytes t)) ∙ ap (λ m. bytes m ++ bytes t) same
pairs_push n (x ∷ ts) t =
    let same : suc n + length ts ≡ n + suc (length ts) = omega arith in
    ap (λ xs. bytes n ++ (bytes x ++ xs)) (pairs_push (suc n) ts t ∙ ap (λ m. pairs (suc n) ts ++ (bytes m ++ bytes t)) same)

-- four bytes written behind what is laid already
behind : (xs rest : List ℕ) (at n : ℕ) → length xs ≡ at → take at (xs ++ rest) ++ (bytes n ++ drop (at + 4) (xs ++ rest)) ≡ (xs ++ bytes n) ++ drop 4 rest
behind xs rest at n long =
    let left = take_at xs rest at long in
    let right = sym (drop-drop 4 at (xs ++ rest)) ∙ ap (drop 4) (drop_at xs rest at long) in
    ap (λ ys. ys ++ (bytes n ++ drop (at + 4) (xs ++ rest))) left
    ∙ ap (λ zs. xs ++ (bytes n ++ zs)) right
    ∙ sym (append_assoc xs (bytes n) (drop 4 rest))

-- one line more
pub pairs_more : (ts out before between after : List ℕ) (i : ℕ) → i < length ts
    → before ≡ pairs 1 (take i ts) ++ drop (8 * i) out
    → between ≡ take (8 * i) before ++ (bytes (i + 1) ++ drop (8 * i + 4) before)
    → after ≡ take (8 * i + 4) between ++ (bytes (get_or ts i 0) ++ drop (8 * i + 4 + 4) between)
    → after ≡ pairs 1 (take (i + 1) ts) ++ drop (8 * (i + 1)) out
pairs_more ts out before between after i within was one two =
    let laid = pairs 1 (take i ts) in
    let t = get_or ts i 0 in
    let rest = drop (8 * i) out in
    let long : length laid ≡ 8 * i = omega (arith, pairs_length 1 (take i ts), length-take-le i ts (omega arith)) in
    let long4 : length (laid ++ bytes (i + 1)) ≡ 8 * i + 4 = omega (arith, length-append laid (bytes (i + 1))) in
    let first : between ≡ (laid ++ bytes (i + 1)) ++ drop 4 rest =
    one ∙ ap (λ xs. take (8 * i) xs ++ (bytes (i + 1) ++ drop (8 * i + 4) xs)) was ∙ behind laid rest (8 * i) (i + 1) long in
    let second : after ≡ ((laid ++ bytes (i + 1)) ++ bytes t) ++ drop 4 (drop 4 rest) =
    two ∙ ap (λ xs. take (8 * i + 4) xs ++ (bytes t ++ drop (8 * i + 4 + 4) xs)) first ∙ behind (laid ++ bytes (i + 1)) (drop 4 rest) (8 * i + 4) t long4 in
    let place : 8 * i + (4 + 4) ≡ 8 * (i + 1) = omega arith in
    let left : drop 4 (drop 4 rest) ≡ drop (8 * (i + 1)) out =
    drop-drop 4 4 rest ∙ drop-drop (4 + 4) (8 * i) out ∙ ap (λ n. drop n out) place in
    let number : 1 + length (take i ts) ≡ i + 1 = omega (arith, length-take-le i ts (omega arith)) in
    let front : pairs 1 (take (i + 1) ts) ≡ (laid ++ bytes (i + 1)) ++ bytes t =
    ap (pairs 1) (take_more ts i 0 within) ∙ pairs_push 1 (take i ts) t
    ∙ ap (λ n. laid ++ (bytes n ++ bytes t)) number ∙ sym (append_assoc laid (bytes (i + 1)) (bytes t)) in
    second ∙ ap (λ xs. ((laid ++ bytes (i + 1)) ++ bytes t) ++ xs) left ∙ ap (λ xs. xs ++ drop (8 * (i + 1)) out) (sym front)
