-- Working on the earliest request that waits for a line, by its place.
use Rattle.std.proofs.Common.{◌≡◌, ℕ, suc, ◌+◌, Bool, true, false, cond, not, eqb, List, [], ◌∷◌, set, Some, None, position, sym, refl, ap, ◌∙◌, arith}
use Rattle.std.specs.List.{slice_get, remove, position_or_len}
use Rattle.std.proofs.lemmas.Bool.{cond-true, cond-false, eq-eqb, ne_eqb}
use Rattle.std.proofs.lemmas.Option.{cond_some, none-some, slice_get_past}
use Rattle.run.specs.declared.items.Request.{Request}
use Rattle.run.specs.Requests.{waits_for, lessened, earliest, served}

module _ (i : ℕ) where
  -- the place of the earliest, counted from 0; past the last where none waits
  abbrev first_place : List Request → ℕ
  first_place [] = 0
  first_place (r ∷ rs) = cond (waits_for i r) 0 (suc (first_place rs))

  first_place_is : (ws : List Request) → position_or_len (waits_for i) ws ≡ first_place ws
  first_place_is [] = refl
  first_place_is (x ∷ xs) = go (waits_for i x) (first_place_is xs)
    where
      go : (b : Bool) {n m : ℕ} → n ≡ m → cond (not b) (1 + n) 0 ≡ cond b 0 (suc m)
      go true e = refl
      go false e = omega (arith, e)

  nth_place : (ws : List Request) → slice_get ws (first_place ws) ≡ earliest i ws
  nth_place [] = refl
  nth_place (x ∷ xs) = go (waits_for i x) (nth_place xs)
    where
      go : (b : Bool) → slice_get xs (first_place xs) ≡ earliest i xs → slice_get (x ∷ xs) (cond b 0 (suc (first_place xs))) ≡ cond b (Some x) (earliest i xs)
      go true rest = refl
      go false rest = rest

  served_nobody : (ws : List Request) → slice_get ws (first_place ws) ≡ None → ws ≡ served i ws
  served_nobody [] none = refl
  served_nobody (x ∷ xs) none = go (waits_for i x) (served_nobody xs) none
    where
      go : (b : Bool) → (slice_get xs (first_place xs) ≡ None → xs ≡ served i xs) → slice_get (x ∷ xs) (cond b 0 (suc (first_place xs))) ≡ None
          → x ∷ xs ≡ cond b (cond (eqb x.left 1) xs (lessened x ∷ xs)) (x ∷ served i xs)
      go true rest is = absurd (none-some x (sym is))
      go false rest is = ap (λ zs. x ∷ zs) (rest is)

  -- the request r at that place: with 1 left to do it goes
  module _ (r : Request) where
    out : (ws : List Request) → slice_get ws (first_place ws) ≡ Some r → r.left ≡ 1 → remove ws (first_place ws) ≡ served i ws
    out [] at one = refl
    out (x ∷ xs) at one = go (waits_for i x) (λ is. out xs is one) at
      where
        go : (b : Bool) → (slice_get xs (first_place xs) ≡ Some r → remove xs (first_place xs) ≡ served i xs)
            → slice_get (x ∷ xs) (cond b 0 (suc (first_place xs))) ≡ Some r
            → remove (x ∷ xs) (cond b 0 (suc (first_place xs))) ≡ cond b (cond (eqb x.left 1) xs (lessened x ∷ xs)) (x ∷ served i xs)
        go true rest is = let same : x ≡ r = cc in sym (cond-true _ _ _ (eq-eqb x.left 1 (ap (λ (q : Request). q.left) same ∙ one)))
        go false rest is = ap (λ zs. x ∷ zs) (rest is)

    on : (ws : List Request) → slice_get ws (first_place ws) ≡ Some r → (r.left ≡ 1 → ⊥) → set ws (first_place ws) (lessened r) ≡ served i ws
    on [] at more = refl
    on (x ∷ xs) at more = go (waits_for i x) (λ is. on xs is more) at
      where
        go : (b : Bool) → (slice_get xs (first_place xs) ≡ Some r → set xs (first_place xs) (lessened r) ≡ served i xs)
            → slice_get (x ∷ xs) (cond b 0 (suc (first_place xs))) ≡ Some r
            → set (x ∷ xs) (cond b 0 (suc (first_place xs))) (lessened r) ≡ cond b (cond (eqb x.left 1) xs (lessened x ∷ xs)) (x ∷ served i xs)
        go true rest is =
            let same : x ≡ r = cc in
            ap (λ q. lessened q ∷ xs) (sym same)
            ∙ sym (cond-false _ _ _ (ne_eqb x.left 1 (λ one. more (ap (λ (q : Request). q.left) (sym same) ∙ one))))
        go false rest is = ap (λ zs. x ∷ zs) (rest is)

  -- no place is found
  module _ (ws : List Request) (none : None ≡ position (waits_for i) ws) where
    past : slice_get ws (first_place ws) ≡ None
    past = slice_get_past ws (first_place ws) (grind (arith, first_place_is))

    pub none_waits : None ≡ earliest i ws
    none_waits = sym past ∙ nth_place ws

    pub none_served : ws ≡ served i ws
    none_served = served_nobody ws past

  -- the place k is found
  module _ (ws : List Request) (k : ℕ) (found : Some k ≡ position (waits_for i) ws) where
    place : k ≡ first_place ws
    place = sym (cond_some _ _ _ (sym found)).1 ∙ first_place_is ws

    pub found_earliest : slice_get ws k ≡ earliest i ws
    found_earliest = ap (slice_get ws) place ∙ nth_place ws

    pub found_none : None ≡ slice_get ws k → ws ≡ served i ws
    found_none none = served_nobody ws (ap (slice_get ws) (sym place) ∙ sym none)

    module _ (r : Request) (at : Some r ≡ slice_get ws k) where
      here : slice_get ws (first_place ws) ≡ Some r
      here = ap (slice_get ws) (sym place) ∙ sym at

      pub found_out : r.left ≡ 1 → remove ws k ≡ served i ws
      found_out one = ap (remove ws) place ∙ out r ws here one

      pub found_on : (r.left ≡ 1 → ⊥) → set ws k (lessened r) ≡ served i ws
      found_on more = ap (λ n. set ws n (lessened r)) place ∙ on r ws here more

-- with these the check finds the proof of `serve`
pub ruleset serving = (none_waits, none_served, found_earliest, found_none, found_out, found_on)
