-- What a line of a run was told at each tick, as the history of a server, and the states that the history gives.
use Rattle.std.proofs.Common.{◌≡◌, ℕ, zero, suc, ◌+◌, ◌<◌, ◌≤◌, true, cond, ◌&&◌, eqb, ltb, List, ◌∷◌, sym, refl, ap, ◌∙◌, ap₂, ⊎_elim, arith}
use Rattle.std.proofs.lemmas.Bool.{cases_eq, lt-ltb, eq-eqb, ne_eqb}
use Rattle.server.specs.Kind.{Kind, Terms}
use Rattle.server.specs.Histories.{History, before, inside, runs}
use Rattle.server.specs.Laws.{Keeps}
use Rattle.run.specs.Machine.{Machine, chosen}
use Rattle.run.specs.Requests.{wanted}
use Rattle.run.specs.Tries.{Call, after, found, ran_ticks}
use Rattle.run.proofs.Past.{found_before, found_tick}

eqb_swap : (a b : ℕ) → eqb a b ≡ eqb b a
eqb_swap a b =
    ⊎_elim
    (λ (same : a ≡ b). eq-eqb a b same ∙ sym (eq-eqb b a (sym same)))
    (λ (other : a ≡ b → ⊥). ne_eqb a b other ∙ sym (ne_eqb b a (λ e. other (sym e))))
    (cases_eq a b)

-- histories that agree before tick n lead to one state
before_same : (k : Kind) (t : Terms) (g h : History) (n : ℕ) → ((u : ℕ) → u < n → (g.wanted u ≡ h.wanted u) × (g.ran u ≡ h.ran u))
    → before k t g n ≡ before k t h n
before_same k t g h zero same = refl
before_same k t g h (suc n) same =
    let (wants, ran) = same n (omega arith) in
    let earlier = before_same k t g h n (λ u lt. same u (omega arith)) in
    ap₂ (k.ended t) (ap₂ (λ s b. k.begun t s n b) earlier wants) ran

module _ {k : Kind} (m : Machine k) (i : ℕ) where
  -- from now on the server is not run
  abbrev pub history : List Call → History
  history cs = record {
    wanted = λ u. wanted (suc i) (found m cs u).waiting;
    ran = λ u. ltb u (after m cs).time && eqb (suc i) (chosen (found m cs u));
  }

  -- the runs of the history are those of the run
  pub runs_are : (cs : List Call) (from n : ℕ) → from + n ≤ (after m cs).time → ran_ticks m cs (suc i) from n ≡ runs (history cs) from n
  runs_are cs from zero upto = refl
  runs_are cs from (suc n) upto =
      let c = chosen (found m cs (from + n)) in
      let over = ap (λ b. b && eqb (suc i) c) (lt-ltb (from + n) (after m cs).time (omega arith)) in
      omega (arith, runs_are cs from n (omega arith), ap {B = ℕ} (λ b. cond b 1 0) (eqb_swap c (suc i) ∙ sym over))

  module _ (t : Terms) where
    -- the state of the server before tick u
    abbrev pub state_at : List Call → ℕ → k.State
    state_at cs u = before k t (history cs) u

    -- its state now, and inside the tick that is next
    abbrev pub state_now : List Call → k.State
    state_now cs = state_at cs (after m cs).time

    abbrev pub begun_now : List Call → k.State
    begun_now cs = k.begun t (state_now cs) (after m cs).time (wanted (suc i) (after m cs).waiting)

    module _ (c : Call) (cs : List Call) where
      -- a further call leaves the past
      pub state_past : (u : ℕ) → u ≤ (after m cs).time → u ≤ (after m (c ∷ cs)).time → state_at (c ∷ cs) u ≡ state_at cs u
      state_past u within within' =
          before_same k t (history (c ∷ cs)) (history cs) u
          (λ v lt.
          let same = found_before m c cs v (omega arith) in
          let over = lt-ltb v (after m (c ∷ cs)).time (omega arith) ∙ sym (lt-ltb v (after m cs).time (omega arith)) in
          (ap (λ M. wanted (suc i) M.waiting) same, ap₂ (λ b M. b && eqb (suc i) (chosen M)) over same))

      pub state_still : (after m (c ∷ cs)).time ≡ (after m cs).time → state_at (c ∷ cs) (after m cs).time ≡ state_now cs
      state_still eq = state_past (after m cs).time (omega arith) (omega arith)

      module _ (passed : (after m (c ∷ cs)).time ≡ (after m cs).time + 1) where
        here : found m (c ∷ cs) (after m cs).time ≡ after m cs
        here = found_tick m c cs (omega arith) (after m cs).time refl

        then : state_at (c ∷ cs) (after m cs).time ≡ state_now cs
        then = state_past (after m cs).time (omega arith) (omega arith)

        inside_tick : inside k t (history (c ∷ cs)) (after m cs).time ≡ begun_now cs
        inside_tick = ap₂ (λ x M. k.begun t x (after m cs).time (wanted (suc i) M.waiting)) then here

        ran_tick : (history (c ∷ cs)).ran (after m cs).time ≡ eqb (suc i) (chosen (after m cs))
        ran_tick = ap₂ (λ b M. b && eqb (suc i) (chosen M)) (lt-ltb (after m cs).time (after m (c ∷ cs)).time (omega arith)) here

        next : (after m cs).time + 1 ≡ suc (after m cs).time
        next = omega arith

        pub state_tick : state_at (c ∷ cs) ((after m cs).time + 1) ≡ k.ended t (begun_now cs) (eqb (suc i) (chosen (after m cs)))
        state_tick = ap (state_at (c ∷ cs)) next ∙ ap₂ (k.ended t) inside_tick ran_tick

        -- what it holds falls in the tick only by running, where it is wanted
        pub held_tick : Keeps k t (history (c ∷ cs)) → wanted (suc i) (after m cs).waiting ≡ true
            → (k.held (state_now cs) ≤ k.held (begun_now cs))
            × (k.held (begun_now cs) ≤ k.held (state_at (c ∷ cs) ((after m cs).time + 1)) + cond (eqb (suc i) (chosen (after m cs))) 1 0)
        held_tick keeps asked =
            let asked' = ap (λ M. wanted (suc i) M.waiting) here ∙ asked in (
              omega (arith, keeps.keeping_start (after m cs).time asked', ap k.held inside_tick, ap k.held then),
              omega (
                arith,
                keeps.keeping_end (after m cs).time asked',
                ap k.held inside_tick,
                ap {B = ℕ} (λ b. cond b 1 0) ran_tick,
                ap (λ n. k.held (state_at (c ∷ cs) n)) next,
              ),
            )
