-- The earliest request of a line, as requests are added and served.
use Rattle.std.proofs.Common.{◌≡◌, ℕ, ◌-◌, ◌<◌, true, false, cond, eqb, leb, List, [], ◌∷◌, ◌++◌, Some, None, Option, sym, refl, ap, ◌∙◌, ⊎_elim, arith}
use Rattle.std.proofs.lemmas.Bool.{cases_Bool, cond-true, cond-false, cond_both, and_from, and_left, and_parts, or_left, or_right, or_parts, le-leb, eqb-true, ne_eqb}
use Rattle.server.specs.Kind.{Kind}
use Rattle.run.specs.declared.items.Request.{Request}
use Rattle.run.specs.Machine.{row_serves}
use Rattle.run.specs.Requests.{waits_for, wanted, earliest, lessened, served}
use Rattle.run.specs.Rows.{Row, task, server}
use Rattle.run.proofs.Places.{some_same, none_not}

module _ (i : ℕ) where
  -- what holds of the earliest request: the first waits and is it, or it is the earliest of the rest
  earliest_cases : (Q : Type 0) (w : Request) (ws : List Request) (r : Request) → earliest i (w ∷ ws) ≡ Some r
      → (waits_for i w ≡ true → w ≡ r → Q) → (waits_for i w ≡ false → earliest i ws ≡ Some r → Q) → Q
  earliest_cases Q w ws r is here later =
      ⊎_elim
      (λ (yes' : waits_for i w ≡ true). here yes' (some_same (sym (cond-true (waits_for i w) (Some w) (earliest i ws) yes') ∙ is)))
      (λ (none : waits_for i w ≡ false). later none (sym (cond-false (waits_for i w) (Some w) (earliest i ws) none) ∙ is))
      (cases_Bool (waits_for i w))

  pub earliest_waits : (ws : List Request) (r : Request) → earliest i ws ≡ Some r → waits_for i r ≡ true
  earliest_waits [] r is = absurd (none_not is)
  earliest_waits (w ∷ ws) r is = earliest_cases _ w ws r is (λ yes' same. rw same at yes') (λ none later. earliest_waits ws r later)

  pub earliest_wanted : (ws : List Request) (r : Request) → earliest i ws ≡ Some r → wanted i ws ≡ true
  earliest_wanted [] r is = absurd (none_not is)
  earliest_wanted (w ∷ ws) r is =
      earliest_cases _ w ws r is (λ yes' same. or_left (waits_for i w) (wanted i ws) yes')
      (λ none later. or_right (waits_for i w) (wanted i ws) (earliest_wanted ws r later))

  -- requests behind it do not matter
  pub earliest_more : (ws more : List Request) (r : Request) → earliest i ws ≡ Some r → earliest i (ws ++ more) ≡ Some r
  earliest_more [] more r is = absurd (none_not is)
  earliest_more (w ∷ ws) more r is =
      earliest_cases _ w ws r is (λ yes' same. cond-true _ _ _ yes' ∙ ap Some same)
      (λ none later. cond-false _ _ _ none ∙ earliest_more ws more r later)

  -- the first request of a line is its earliest
  pub earliest_push : (ws : List Request) (r : Request) → wanted i ws ≡ false → waits_for i r ≡ true → earliest i (ws ++ (r ∷ [])) ≡ Some r
  earliest_push [] r empty waits = cond-true _ _ _ waits
  earliest_push (w ∷ ws) r empty waits =
      let both = or_parts (waits_for i w) (wanted i ws) empty in
      cond-false _ _ _ both.0 ∙ earliest_push ws r both.1 waits

  -- it is worked on
  pub served_own : (ws : List Request) (r : Request) → earliest i ws ≡ Some r → 1 < r.left → earliest i (served i ws) ≡ Some (lessened r)
  served_own [] r is more = absurd (none_not is)
  served_own (w ∷ ws) r is more =
      earliest_cases _ w ws r is
      (λ yes' same.
      let more' : 1 < w.left = rw same more in
      let line = (and_parts (eqb w.line i) (leb 1 w.left) yes').0 in
      ap (earliest i) (cond-true (waits_for i w) _ _ yes' ∙ cond-false (eqb w.left 1) ws (lessened w ∷ ws) (ne_eqb w.left 1 (λ e. omega arith)))
      ∙ cond-true _ _ _ (and_from (eqb w.line i) (leb 1 (w.left - 1)) line (le-leb 1 (w.left - 1) (omega arith)))
      ∙ ap (λ x. Some (lessened x)) same)
      (λ none later. ap (earliest i) (cond-false (waits_for i w) _ _ none) ∙ cond-false _ _ _ none ∙ served_own ws r later more)

  -- requests of another line are served
  pub served_other : (c : ℕ) (ws : List Request) → (c ≡ i → ⊥) → earliest i (served c ws) ≡ earliest i ws
  served_other c [] other = refl
  served_other c (w ∷ ws) other =
      ⊎_elim
      (λ (yes' : waits_for c w ≡ true).
      let line = eqb-true w.line c (and_parts (eqb w.line c) (leb 1 w.left) yes').0 in
      let apart : eqb w.line i ≡ false = ne_eqb w.line i (λ e. other (sym line ∙ e)) in
      ap (earliest i) (cond-true (waits_for c w) _ _ yes')
      ∙ cond_both (eqb w.left 1) ws (lessened w ∷ ws) (λ l. earliest i l ≡ earliest i ws) (λ _. refl)
      (λ _. cond-false _ _ _ (and_left (eqb w.line i) (leb 1 (w.left - 1)) apart))
      ∙ sym (cond-false (waits_for i w) (Some w) (earliest i ws) (and_left (eqb w.line i) (leb 1 w.left) apart)))
      (λ (none : waits_for c w ≡ false).
      ap (earliest i) (cond-false (waits_for c w) _ _ none) ∙ ap (cond (waits_for i w) (Some w)) (served_other c ws other))
      (cases_Bool (waits_for c w))

  pub row_serves_other : {k : Kind} (ws : List Request) (c : ℕ) (o : Option (Row k)) → (c ≡ i → ⊥) → earliest i (row_serves ws c o) ≡ earliest i ws
  row_serves_other ws c None other = refl
  row_serves_other ws c (Some (task t unfinished next)) other = refl
  row_serves_other ws c (Some (server t state)) other = served_other c ws other
