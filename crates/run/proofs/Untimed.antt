-- The completions made, without the times at which they were made.
use Rattle.std.proofs.Common.{◌≡◌, ℕ, suc, true, false, Bool, ◌&&◌, cond, eqb, List, [], ◌∷◌, ◌++◌, map, Some, sym, refl, ap, ◌∙◌}
use Rattle.std.specs.List.{slice_get}
use Rattle.std.proofs.lemmas.List.{map-append}
use Rattle.server.specs.Kind.{Kind}
use Rattle.plan.specs.declared.line.Line.{Line}
use Rattle.run.specs.declared.items.Completion.{Completion}
use Rattle.run.specs.Machine.{Machine}
use Rattle.run.specs.Promises.{of_jobs, of_jobs_at, Jobs, JobsAt, Requests, RequestsAt}
use Rattle.run.specs.Tries.{Call, Made, timed, after, made, made_at, makes}
use Rattle.run.proofs.Places.{map_at}

abbrev untimed : List Made → List Completion
untimed xs = map (λ x. x.completion) xs

untimed_timed : (time : ℕ) (xs : List Completion) → untimed (timed time xs) ≡ xs
untimed_timed time [] = refl
untimed_timed time (x ∷ xs) = ap (λ rest. x ∷ rest) (untimed_timed time xs)

untimed_made : {k : Kind} (m : Machine k) (cs : List Call) → untimed (made_at m cs) ≡ made m cs
untimed_made m [] = refl
untimed_made m (c ∷ cs) =
    map-append (λ x. x.completion) (made_at m cs) (timed (after m (c ∷ cs)).time (makes c (after m cs)))
    ∙ ap (λ xs. xs ++ untimed (timed (after m (c ∷ cs)).time (makes c (after m cs)))) (untimed_made m cs)
    ∙ ap (λ xs. made m cs ++ xs) (untimed_timed (after m (c ∷ cs)).time (makes c (after m cs)))

untimed_kept : (b : Bool) (x : Made) (xs : List Made) (ys : List Completion) → untimed xs ≡ ys → untimed (cond b (x ∷ xs) xs) ≡ cond b (x.completion ∷ ys) ys
untimed_kept true x xs ys is = ap (λ rest. x.completion ∷ rest) is
untimed_kept false x xs ys is = is

untimed_jobs : (i : ℕ) (xs : List Made) → untimed (of_jobs_at i xs) ≡ of_jobs i (untimed xs)
untimed_jobs i [] = refl
untimed_jobs i (x ∷ xs) =
    untimed_kept (eqb x.completion.line i && eqb x.completion.number 0) x (of_jobs_at i xs) (of_jobs i (untimed xs)) (untimed_jobs i xs)

-- what stands at a place among those made with their times stands there among those made
made_there : {k : Kind} (m : Machine k) (cs : List Call) (j : ℕ) (x : Made) → slice_get (made_at m cs) j ≡ Some x → slice_get (made m cs) j ≡ Some x.completion
made_there m cs j x at = ap (λ xs. slice_get xs j) (sym (untimed_made m cs)) ∙ map_at (λ y. y.completion) (made_at m cs) j x at

module _ (k : Kind) (ls : List Line) (m : Machine k) (cs : List Call) where
  -- the clause on jobs follows from the one with times
  pub jobs_made : JobsAt k ls m cs → Jobs k ls m cs
  jobs_made jobs i t line some j passed =
      let x = jobs i t line some j passed in (
        x.0.completion,
        ap (λ xs. slice_get (of_jobs (suc i) xs) j) (sym (untimed_made m cs))
            ∙ ap (λ xs. slice_get xs j) (sym (untimed_jobs (suc i) (made_at m cs)))
            ∙ map_at (λ y. y.completion) (of_jobs_at (suc i) (made_at m cs)) j x.0 x.1,
        x.2.1,
      )

  -- and so does the clause on requests
  pub requests_made : RequestsAt k ls m cs → Requests k ls m cs
  requests_made requests since before i amount number s state is line some granted at empty covered passed =
      let x = requests since before i amount number s state is line some granted at empty covered passed in
      (x.0, (x.1.0.completion, made_there _ since x.0 x.1.0 x.1.1, x.1.2, x.1.3, x.1.4.1))
