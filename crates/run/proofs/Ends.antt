-- The completions that a tick makes are of the line that is chosen.
use Rattle.std.proofs.Common.{◌≡◌, ℕ, ◌+◌, Bool, true, false, cond, eqb, leb, List, [], ◌∷◌, Some, None, Option, sym, refl, ◌∙◌}
use Rattle.std.specs.List.{AllByRecursion}
use Rattle.std.proofs.lemmas.Bool.{cond-true, cond-false, cond_both, and_from, and_left, and_parts, eqb-true, eq-eqb, ne_eqb}
use Rattle.server.specs.Kind.{Kind}
use Rattle.run.specs.declared.items.Completion.{Completion}
use Rattle.run.specs.declared.items.Request.{Request}
use Rattle.run.specs.Machine.{Machine, job_end, request_end, request_ends, row_ends, row_of, opened_rows, chosen, tick_ends}
use Rattle.run.specs.Promises.{of_jobs_at}
use Rattle.run.specs.Requests.{earliest}
use Rattle.run.specs.Rows.{Row, task, server}
use Rattle.run.specs.Tries.{timed}
use Rattle.run.proofs.Waiting.{earliest_waits}

abbrev pub OfLine : ℕ → List Completion → Type 0
OfLine c xs = AllByRecursion (λ x. x.line ≡ c) xs

request_ends_line : (end c : ℕ) (ws : List Request) (o : Option Request) → earliest c ws ≡ o → OfLine c (request_ends end o)
request_ends_line end c ws None is = tt
request_ends_line end c ws (Some r) is =
    let line = eqb-true r.line c (and_parts (eqb r.line c) (leb 1 r.left) (earliest_waits c ws r is)).0 in
    cond_both (eqb r.left 1) (request_end end r ∷ []) [] (OfLine c) (λ _. (line, tt)) (λ _. tt)

module _ {k : Kind} where
  row_ends_line : (end c : ℕ) (ws : List Request) (o : Option (Row k)) → OfLine c (row_ends end ws c o)
  row_ends_line end c ws None = tt
  row_ends_line end c ws (Some (task t unfinished next)) =
      cond_both (eqb unfinished 1) (job_end c t.period next end false ∷ []) [] (OfLine c) (λ _. (refl, tt)) (λ _. tt)
  row_ends_line end c ws (Some (server t state)) = request_ends_line end c ws (earliest c ws) refl

  pub tick_ends_line : (m : Machine k) → OfLine (chosen m) (tick_ends m)
  tick_ends_line m = row_ends_line (m.time + 1) (chosen m) m.waiting (row_of (opened_rows m) (chosen m))

-- completions of another line
pub jobs_none : (i c time : ℕ) (xs : List Completion) → (c ≡ i → ⊥) → OfLine c xs → of_jobs_at i (timed time xs) ≡ []
jobs_none i c time [] apart all = refl
jobs_none i c time (x ∷ xs) apart all =
    cond-false _ _ _ (and_left (eqb x.line i) (eqb x.number 0) (ne_eqb x.line i (λ e. apart (sym all.0 ∙ e))))
    ∙ jobs_none i c time xs apart all.1

-- the completion of a job of line i, if it is made
pub jobs_own : (i period next end : ℕ) (early : Bool)
    → of_jobs_at i (timed end (job_end i period next end early ∷ [])) ≡ timed end (job_end i period next end early ∷ [])
jobs_own i period next end early = cond-true _ _ _ (and_from (eqb i i) true (eq-eqb i i refl) refl)

pub jobs_own_if : (b : Bool) (i period next end : ℕ)
    → of_jobs_at i (timed end (cond b (job_end i period next end false ∷ []) [])) ≡ timed end (cond b (job_end i period next end false ∷ []) [])
jobs_own_if true i period next end = jobs_own i period next end false
jobs_own_if false i period next end = refl
