-- A further call changes nothing of what earlier ticks found.
use Rattle.std.proofs.Common.{◌≡◌, ℕ, zero, suc, ◌+◌, ◌<◌, ◌≤◌, cond, eqb, List, [], ◌∷◌, ◌++◌, refl, ap, ◌∙◌, arith}
use Rattle.std.proofs.lemmas.Bool.{cond-false, lt-leb}
use Rattle.server.specs.Kind.{Kind}
use Rattle.run.specs.Machine.{Machine, chosen}
use Rattle.run.specs.Promises.{FreshTick}
use Rattle.run.specs.Tries.{Call, after, found, ran_ticks, tried}
use Rattle.run.proofs.Calls.{call_cases, found_now, found_past}

-- calls after calls
pub after_join : {k : Kind} (m : Machine k) (since before : List Call) → after m (since ++ before) ≡ after (after m before) since
after_join m [] before = refl
after_join m (c ∷ since) before = ap (tried c) (after_join m since before)

module _ {k : Kind} (m : Machine k) (c : Call) (cs : List Call) where
  -- a call adds at most 1 to the time
  pub time_step : (after m (c ∷ cs)).time ≤ (after m cs).time + 1
  time_step =
      call_cases (after m cs) (λ time rows waiting made. time ≤ (after m cs).time + 1) (omega arith) (omega arith) (λ r. omega arith)
      (λ line t unfinished next is some. omega arith) c

  -- what the ticks that are over found
  pub found_before : (u : ℕ) → u < (after m (c ∷ cs)).time → found m (c ∷ cs) u ≡ found m cs u
  found_before u over = cond-false _ _ _ (lt-leb (after m (c ∷ cs)).time u over)

  -- a tick finds the state in which it is called
  pub found_tick : (after m cs).time < (after m (c ∷ cs)).time → (u : ℕ) → u ≡ (after m cs).time → found m (c ∷ cs) u ≡ after m cs
  found_tick passed u is = found_before u (omega arith) ∙ found_now m cs u (omega arith)

  pub ran_past : (i s n : ℕ) → s + n ≤ (after m cs).time → ran_ticks m (c ∷ cs) i s n ≡ ran_ticks m cs i s n
  ran_past i s zero within = refl
  ran_past i s (suc n) within =
      omega (
        arith,
        ran_past i s n (omega arith),
        ap {B = ℕ} (λ M. cond (eqb (chosen M) i) 1 0) (found_past m c cs (s + n) (omega arith)),
      )

  pub fresh_past : (i s : ℕ) → s ≤ (after m cs).time → FreshTick m (c ∷ cs) i s → FreshTick m cs i s
  fresh_past i zero within fresh = tt
  fresh_past i (suc s) within fresh = rw (found_past m c cs s (omega arith)) at fresh
