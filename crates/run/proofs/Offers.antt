-- What a granted offer leaves.
use Rattle.std.proofs.Common.{◌≡◌, ℕ, ◌≤◌, true, false, cond, ◌||◌, eqb, ltb, [], ◌∷◌, ◌++◌, refl, ap, arith}
use Rattle.std.proofs.lemmas.Bool.{or_parts, eqb-false}
use Rattle.server.specs.Kind.{Kind}
use Rattle.run.specs.Machine.{Machine, Outcome, row_of, is_server_row, full_of_requests, next_number, offered}
use Rattle.run.specs.Replies.{Reply, done, refused}
use Rattle.run.proofs.Calls.{unless_cases}

done_same : (a b : ℕ) → ◌≡◌ {A = Reply ℕ} (done a) (done b) → a ≡ b
done_same a b e = cc

not_done : (a b : ℕ) → ◌≡◌ {A = Reply ℕ} (refused a) (done b) → ⊥
not_done a b e = let z : ◌≡◌ {A = ℕ} 0 1 = cc in omega arith

module _ {k : Kind} (m : Machine k) (line amount number : ℕ) where
  pub record Taken (m' : Machine k) : Type 0 where
    pub some : 1 ≤ amount
    pub time : m'.time ≡ m.time
    pub waiting : m'.waiting ≡ m.waiting ++ (record { line = line; number = number; offered = m.time; left = amount } ∷ [])

  pub offer_taken : (offered line amount m).0 ≡ done number → Taken (offered line amount m).1
  unfolding offered
  offer_taken =
      unless_cases TakenIf m (cond (is_server_row (row_of m.rows line)) false true) 7 _ (λ e. absurd (not_done 7 number e))
      (λ _. unless_cases TakenIf m (eqb amount 0 || ltb 65535 amount) 8 _ (λ e. absurd (not_done 8 number e))
      (λ fits. unless_cases TakenIf m (full_of_requests m) 14 _ (λ e. absurd (not_done 14 number e))
      (λ _ e. record {
        some = grind (arith, eqb-false amount 0 (or_parts (eqb amount 0) (ltb 65535 amount) fits).0);
        time = refl;
        waiting = ap (λ n. m.waiting ++ (record { line = line; number = n; offered = m.time; left = amount } ∷ []))
            (done_same (next_number m) number e);
      })))
    where
      TakenIf : Outcome k ℕ → Type 0
      TakenIf o = o.0 ≡ done number → Taken o.1
