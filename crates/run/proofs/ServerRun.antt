-- A server on a line of a run is in the state that its history gives, and is run only when it is ready.
use Rattle.std.proofs.Common.{◌≡◌, ℕ, zero, suc, ◌-◌, ◌<◌, ◌≤◌, Bool, ◌&&◌, eqb, ltb, leb, List, [], ◌∷◌, set, Some, sym, refl, ap, ◌∙◌, ap₂, ⊎_elim, arith}
use Rattle.std.specs.List.{slice_get}
use Rattle.std.proofs.lemmas.Bool.{cases_lt, and_parts, ltb-true, eqb-true}
use Rattle.server.specs.Kind.{Kind, Terms}
use Rattle.server.specs.Histories.{ready, Possible, Fresh}
use Rattle.plan.specs.declared.line.Task as plan_task
use Rattle.run.specs.Machine.{Machine, chosen, row_of}
use Rattle.run.specs.Promises.{FreshTick}
use Rattle.run.specs.Requests.{wanted}
use Rattle.run.specs.Rows.{Row, task, server}
use Rattle.run.specs.Tries.{Call, after, found, ready_in}
use Rattle.run.proofs.Calls.{call_cases, found_now}
use Rattle.run.proofs.Past.{time_step, found_before}
use Rattle.run.proofs.Choosing.{chosen_ready}
use Rattle.run.proofs.Places.{some_same, row_place, set_other, advanced_at, ready_at}
use Rattle.run.proofs.ServerHistory.{history, state_at, state_now, state_past, state_still, state_tick}

-- the early end of a job leaves a server's row
server_kept : {k : Kind} (rows : List (Row k)) (n line : ℕ) (t : Terms) (state : k.State) (j : plan_task.Task) (unfinished next : ℕ) (r : Row k)
    → slice_get rows n ≡ Some (server t state) → row_of rows line ≡ Some (task j unfinished next) → slice_get (set rows (line - 1) r) n ≡ Some (server t state)
server_kept {k} rows n line t state j unfinished next r at is =
    let place = row_place rows line (task j unfinished next) is in
    set_other rows n (line - 1) r (λ same. clash (some_same (sym at ∙ ap (slice_get rows) (omega (arith, same, place.1)) ∙ place.2))) ∙ at
  where
    clash : ◌≡◌ {A = Row k} (server t state) (task j unfinished next) → ⊥
    clash e = let z : ◌≡◌ {A = ℕ} 0 1 = cc in omega arith

-- the server with the terms t is on line i + 1 of the state m at time 0, as it was made
module _ {k : Kind} (m : Machine k) (i : ℕ) (t : Terms) (zero' : m.time ≡ 0) (new : slice_get m.rows i ≡ Some (server t (k.made t))) where
  server_next : (c : Call) (cs : List Call) → slice_get (after m cs).rows i ≡ Some (server t (state_now m i t cs))
      → slice_get (after m (c ∷ cs)).rows i ≡ Some (server t (state_now m i t (c ∷ cs)))
  server_next c cs at =
      call_cases (after m cs)
      (λ time rows waiting made. (after m (c ∷ cs)).time ≡ time → slice_get rows i ≡ Some (server t (state_at m i t (c ∷ cs) time)))
      still
      (λ eq. advanced_at (after m cs) i (server t (state_now m i t cs)) at ∙ ap (λ x. Some (server t x)) (sym (state_tick m i t c cs eq)))
      (λ r. still)
      (λ line j unfinished next is some eq. server_kept (after m cs).rows i line t _ j unfinished next _ (still eq) is)
      c refl
    where
      still : (after m (c ∷ cs)).time ≡ (after m cs).time → slice_get (after m cs).rows i ≡ Some (server t (state_at m i t (c ∷ cs) (after m cs).time))
      still eq = at ∙ ap (λ x. Some (server t x)) (sym (state_still m i t c cs eq))

  pub server_at : (cs : List Call) → slice_get (after m cs).rows i ≡ Some (server t (state_now m i t cs))
  server_at [] = new ∙ ap (λ n. Some (server t (state_at m i t [] n))) (sym zero')
  server_at (c ∷ cs) = server_next c cs (server_at cs)

  -- ready in a tick that begins in the state M, where the server before tick u is in the state x
  abbrev ready_from : Machine k → k.State → ℕ → Bool
  ready_from M x u = wanted (suc i) M.waiting && leb 1 (k.held (k.begun t x u (wanted (suc i) M.waiting)))

  ready_last : (cs : List Call) (u : ℕ) → u ≡ (after m cs).time → ready_in (found m cs u) (suc i) ≡ ready k t (history m i cs) u
  ready_last cs u is =
      let here = found_now m cs u (omega arith) in
      ap (λ M. ready_in M (suc i)) here
      ∙ ready_at (after m cs) i (server t (state_now m i t cs)) (server_at cs)
      ∙ ap₂ (λ M n. ready_from M (state_at m i t cs n) n) (sym here) (sym is)

  -- it is ready in the run where it is in its history
  pub ready_then : (cs : List Call) (u : ℕ) → u ≤ (after m cs).time → ready_in (found m cs u) (suc i) ≡ ready k t (history m i cs) u
  ready_then [] u upto = ready_last [] u (omega (arith, zero'))
  ready_then (c ∷ cs) u upto =
      ⊎_elim
      (λ (over : u < (after m (c ∷ cs)).time).
      let same = found_before m c cs u over in
      let upto' : u ≤ (after m cs).time = omega (arith, time_step m c cs) in
      ap (λ M. ready_in M (suc i)) same
      ∙ ready_then cs u upto'
      ∙ ap₂ (λ M x. ready_from M x u) (sym same) (sym (state_past m i t c cs u upto' upto)))
      (λ (last : (after m (c ∷ cs)).time ≤ u). ready_last (c ∷ cs) u (omega arith))
      (cases_lt u (after m (c ∷ cs)).time)

  pub possible : (cs : List Call) → Possible k t (history m i cs)
  possible cs u ran =
      let both = and_parts (ltb u (after m cs).time) (eqb (suc i) (chosen (found m cs u))) ran in
      let over = ltb-true u (after m cs).time both.0 in
      sym (ready_then cs u (omega arith)) ∙ chosen_ready (found m cs u) i (sym (eqb-true (suc i) _ both.1))

  pub fresh_is : (cs : List Call) (from : ℕ) → from ≤ (after m cs).time → FreshTick m cs (suc i) from → Fresh k t (history m i cs) from
  fresh_is cs zero upto rest = tt
  fresh_is cs (suc u) upto rest = sym (ready_then cs u (omega arith)) ∙ rest
