-- The due ticks of pending replenishments: in which span they lie, and how much is due from a tick on.
use Rattle.std.specs.Prelude.{◌≡◌, ℕ, suc, ◌+◌, ◌<◌, ◌≤◌, Bool, true, false, cond, List, [], ◌∷◌, ◌++◌, length, nat_lt}
use Rattle.std.proofs.Common.{arith}
use Rattle.std.proofs.lemmas.Bool.{lt-ltb, le-ltb, cond-true, cond-false, cond_both}
use Rattle.server.specs.declared.entry.Entry.{Entry}
use Rattle.server.specs.Replenishments.{total, merged, written}
use Rattle.server.specs.ReplenishmentLaws.{written_room}

-- due ticks rise strictly, from lo on and before hi
abbrev pub Between : ℕ → List Entry → ℕ → Type 0
Between lo [] hi = lo ≤ hi
Between lo (e ∷ es) hi = (lo ≤ e.due) × Between (suc e.due) es hi

pub between_span : (lo : ℕ) (es : List Entry) (hi : ℕ) → Between lo es hi → lo ≤ hi
between_span lo [] hi b = b
between_span lo (e ∷ es) hi b = omega (arith, between_span (suc e.due) es hi b.1)

pub between_wider : (lo : ℕ) (es : List Entry) (hi high : ℕ) → hi ≤ high → Between lo es hi → Between lo es high
between_wider lo [] hi high le b = omega arith
between_wider lo (e ∷ es) hi high le b = (b.0, between_wider (suc e.due) es hi high le b.1)

-- an entry that is written is the latest, if it is due after all others
module _ (new : Entry) where
  between_push : (lo : ℕ) (es : List Entry) → Between lo es new.due → Between lo (es ++ new ∷ []) (suc new.due)
  between_push lo [] b = (b, omega arith)
  between_push lo (e ∷ es) b = (b.0, between_push (suc e.due) es b.1)

  between_merged : (lo : ℕ) (es : List Entry) → Between lo es new.due → Between lo (merged es new) (suc new.due)
  between_merged lo [] b = (b, omega arith)
  between_merged lo (e ∷ []) b = omega arith
  between_merged lo (e ∷ (f ∷ es)) b = (b.0, between_merged (suc e.due) (f ∷ es) b.1)

  pub between_written : (lo : ℕ) (es : List Entry) → Between lo es new.due → Between lo (written es new) (suc new.due)
  between_written lo es b =
      cond_both
      (nat_lt (length es) 16)
      _
      _
      (λ all. Between lo all (suc new.due))
      (λ _. between_push lo es b)
      (λ _. between_merged lo es b)

-- the amounts due at tick d or later
abbrev pub due_from : ℕ → List Entry → ℕ
due_from d [] = 0
due_from d (e ∷ es) = cond (nat_lt e.due d) 0 e.amount + due_from d es

module _ (d : ℕ) where
  part : (b : Bool) (n : ℕ) → cond b 0 n ≤ n
  part true n = omega arith
  part false n = omega arith

  pub due_from_total : (es : List Entry) → due_from d es ≤ total es
  due_from_total [] = omega arith
  due_from_total (e ∷ es) = omega (arith, part (nat_lt e.due d) e.amount, due_from_total es)

  counted : (due n : ℕ) → d ≤ due → cond (nat_lt due d) 0 n ≡ n
  counted due n late = cond-false (nat_lt due d) 0 n (le-ltb due d late)

  -- all are due at d or later
  pub due_from_all : (lo : ℕ) (es : List Entry) (hi : ℕ) → d ≤ lo → Between lo es hi → due_from d es ≡ total es
  due_from_all lo [] hi le b = omega arith
  due_from_all lo (e ∷ es) hi le b =
      omega (arith, counted e.due e.amount (omega arith), due_from_all _ es hi (omega arith) b.1)

  -- the oldest is due before
  pub due_from_past : (e : Entry) (es : List Entry) → e.due < d → due_from d (e ∷ es) ≡ due_from d es
  due_from_past e es lt = omega (arith, cond-true (nat_lt e.due d) 0 e.amount (lt-ltb e.due d lt))

  -- all are due before
  pub due_from_none : (lo : ℕ) (es : List Entry) (hi : ℕ) → hi ≤ d → Between lo es hi → due_from d es ≡ 0
  due_from_none lo [] hi le b = omega arith
  due_from_none lo (e ∷ es) hi le b =
      let span = between_span _ es hi b.1 in
      omega (arith, due_from_past e es (omega arith), due_from_none _ es hi le b.1)

  -- an entry due at d or later is written
  module _ (new : Entry) (late : d ≤ new.due) where
    due_from_push : (es : List Entry) → due_from d (es ++ new ∷ []) ≡ due_from d es + new.amount
    due_from_push [] = omega (arith, counted new.due new.amount late)
    due_from_push (e ∷ es) = omega (arith, due_from_push es)

    due_from_merged : (es : List Entry) → due_from d es + new.amount ≤ due_from d (merged es new)
    due_from_merged [] = omega (arith, counted new.due new.amount late)
    due_from_merged (e ∷ []) = omega (arith, counted new.due (e.amount + new.amount) late, part (nat_lt e.due d) e.amount)
    due_from_merged (e ∷ (f ∷ es)) = omega (arith, due_from_merged (f ∷ es))

    pub due_from_written : (es : List Entry) → due_from d es + new.amount ≤ due_from d (written es new)
    due_from_written es =
        cond_both
        (nat_lt (length es) 16)
        _
        _
        (λ all. due_from d es + new.amount ≤ due_from d all)
        (λ _. omega (arith, due_from_push es))
        (λ _. due_from_merged es)

    pub due_from_room : (es : List Entry) → length es < 16 → due_from d (written es new) ≡ due_from d es + new.amount
    due_from_room es room = rw (written_room es new room) (due_from_push es)
