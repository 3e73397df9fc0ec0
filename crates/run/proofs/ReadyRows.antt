-- Which lines are ready, from the first on.
use Rattle.std.proofs.Common.{◌≡◌, ℕ, suc, ◌+◌, ◌*◌, ◌^◌, ◌<◌, Bool, true, false, cond, List, [], ◌∷◌, ◌++◌, map, length, get_or, take, drop, sym, refl, ap, ◌∙◌, add-zero, add-one, arith}
use native.Mathlib.Nat.{pow-succ'}
use Rattle.std.proofs.lemmas.List.{take_more, drop_more, get_or-map, length-map, length-take-le}
use Rattle.server.specs.Kind.{Kind}
use Rattle.run.specs.declared.items.Request.{Request}
use Rattle.run.specs.Requests.{wanted}
use Rattle.run.specs.Rows.{Row, ready_by, first_ready, ready_bits}

module _ {k : Kind} {B : Type 0} (v : B → Row k) (ws : List Request) (rows : List B) (i : ℕ) (row : B) (within : i < length rows) (read : row ≡ get_or rows i row) where
  at : get_or (map v rows) i (v row) ≡ v row
  at = get_or-map v rows i row (v row) within ∙ ap v (sym read)

  -- the line at place i: it is the first that is ready, or one behind it is
  pub first_more : first_ready ws (i + 1) (drop i (map v rows)) ≡ cond (ready_by (wanted (i + 1) ws) (v row)) (i + 1) (first_ready ws (i + 1 + 1) (drop (i + 1) (map v rows)))
  first_more =
      ap (first_ready ws (i + 1)) (drop_more (map v rows) i (v row) (omega (arith, length-map rows v)) ∙ ap (λ r. r ∷ drop (i + 1) (map v rows)) at)
      ∙ ap (λ n. cond (ready_by (wanted (i + 1) ws) (v row)) (i + 1) (first_ready ws n (drop (i + 1) (map v rows)))) (sym (add-one (i + 1)))

double : (b : Bool) (n : ℕ) → 2 * cond b (2 ^ n) 0 ≡ cond b (2 ^ suc n) 0
double true n = sym (pow-succ' 2 n)
double false n = refl

bits_push : {k : Kind} (ws : List Request) (j : ℕ) (xs : List (Row k)) (x : Row k)
    → ready_bits ws j (xs ++ (x ∷ [])) ≡ ready_bits ws j xs + cond (ready_by (wanted (j + length xs) ws) x) (2 ^ length xs) 0
bits_push ws j [] x = omega arith ∙ ap (λ n. 0 + cond (ready_by (wanted n ws) x) 1 0) (sym (add-zero j))
bits_push ws j (y ∷ xs) x =
    let place : suc j + length xs ≡ j + suc (length xs) = omega arith in
    omega (arith, bits_push ws (suc j) xs x, double (ready_by (wanted (suc j + length xs) ws) x) (length xs))
    ∙ ap (λ n. ready_bits ws j (y ∷ xs) + cond (ready_by (wanted n ws) x) (2 ^ suc (length xs)) 0) place

module _ {k : Kind} {B : Type 0} (v : B → Row k) (ws : List Request) (rows : List B) (i : ℕ) (row : B) (within : i < length rows) (read : row ≡ get_or rows i row) where
  -- the bit of the line at place i comes on top
  pub bits_more : ready_bits ws 1 (take (i + 1) (map v rows)) ≡ ready_bits ws 1 (take i (map v rows)) + cond (ready_by (wanted (i + 1) ws) (v row)) (2 ^ i) 0
  bits_more =
      let long : length (take i (map v rows)) ≡ i = length-take-le i (map v rows) (omega (arith, length-map rows v)) in
      let number : 1 + i ≡ i + 1 = omega arith in
      ap (ready_bits ws 1) (take_more (map v rows) i (v row) (omega (arith, length-map rows v)) ∙ ap (λ r. take i (map v rows) ++ (r ∷ [])) (at v ws rows i row within read))
      ∙ bits_push ws 1 (take i (map v rows)) (v row)
      ∙ ap (λ n. ready_bits ws 1 (take i (map v rows)) + cond (ready_by (wanted (1 + n) ws) (v row)) (2 ^ n) 0) long
      ∙ ap (λ n. ready_bits ws 1 (take i (map v rows)) + cond (ready_by (wanted n ws) (v row)) (2 ^ i) 0) number

-- a bit more fits
pub bit_small : (b : Bool) (i bits : ℕ) → bits < 2 ^ i → bits + cond b (2 ^ i) 0 < 2 ^ (i + 1)
bit_small true i bits below = omega (arith, ap (λ n. 2 ^ n) (add-one i), pow-succ' 2 i)
bit_small false i bits below = omega (arith, ap (λ n. 2 ^ n) (add-one i), pow-succ' 2 i)
