-- A request that finds its line empty and asks for no more than is held: its server is ready until it ends.
use Rattle.std.proofs.Common.{◌≡◌, ℕ, suc, ◌+◌, ◌<◌, ◌≤◌, true, cond, not, eqb, leb, ◌⊎◌, List, [], ◌∷◌, Some, sym, refl, ap, ◌∙◌, inl, inr, ⊎_elim, arith}
use Rattle.std.specs.List.{slice_get}
use Rattle.std.proofs.lemmas.Bool.{cases_eq, cond-true, cond-false, and_from, and_parts, eq-eqb, ne_eqb, eqb-true, le-leb, leb-true}
use Rattle.server.specs.Kind.{Kind, Terms}
use Rattle.server.specs.Laws.{Keeps}
use Rattle.run.specs.declared.items.Request.{Request}
use Rattle.run.specs.Machine.{Machine, chosen, advanced, opened_rows, row_of, row_ends, row_serves, request_ends, request_end, tick_ends}
use Rattle.run.specs.Promises.{Ends}
use Rattle.run.specs.Requests.{wanted, earliest, served, lessened}
use Rattle.run.specs.Rows.{server}
use Rattle.run.specs.Tries.{Call, Made, timed, after, makes, ready_in}
use Rattle.run.proofs.Busy.{one_of}
use Rattle.run.proofs.Calls.{call_cases}
use Rattle.run.proofs.Idle.{free, free_past, free_tick, not_free, began_less}
use Rattle.run.proofs.Places.{row_of_is, opened_at, ready_at}
use Rattle.run.proofs.ServerHistory.{history, state_at, state_now, begun_now, state_still, held_tick}
use Rattle.run.proofs.Waiting.{earliest_waits, earliest_wanted, earliest_more, served_own, row_serves_other}
use Rattle.run.proofs.Windows.{at_most}

-- the completion of request `number` of line i + 1, made within w ticks of its start, is among these
abbrev pub Ended : (i number start w : ℕ) → List Made → Type 0
Ended i number start w xs =
    (j : ℕ) × ((x : Made) × (slice_get xs j ≡ Some x) × (x.completion.line ≡ suc i) × (x.completion.number ≡ number) × Ends start w x)

module _ {k : Kind} (m : Machine k) (i : ℕ) (t : Terms) (amount number start : ℕ) where
  -- request `number` is the earliest of its line, no more is left of it than is held, and what is left and the free ticks since its
  -- start make up no more than its amount
  pub record Open (cs : List Call) (time : ℕ) (waiting : List Request) : Type 0 where
    pub request : Request
    pub earliest_is : earliest (suc i) waiting ≡ Some request
    pub number_is : request.number ≡ number
    pub offered_is : request.offered ≡ start
    pub d : ℕ
    pub since : start + d ≡ time
    pub covered : request.left ≤ k.held (state_at m i t cs time)
    pub left : request.left + free m cs i start d ≤ amount

  some_left : (cs : List Call) (time : ℕ) (waiting : List Request) (o : Open cs time waiting) → (o.request.line ≡ suc i) × (1 ≤ o.request.left)
  some_left cs time waiting o =
      let r = o.request in
      let both = and_parts (eqb r.line (suc i)) (leb 1 r.left) (earliest_waits (suc i) waiting r o.earliest_is) in
      (eqb-true r.line (suc i) both.0, leb-true 1 r.left both.1)

  abbrev pub OpenNow : List Call → Type 0
  OpenNow cs = Open cs (after m cs).time (after m cs).waiting

  module _ (w : ℕ) (small : amount ≤ t.budget)
      (enough : (cs : List Call) (u : ℕ) → u + w ≤ (after m cs).time → t.budget ≤ free m cs i u w) where
    -- it was offered less than w ticks ago
    pub not_late : (cs : List Call) (o : OpenNow cs) → o.d < w
    not_late cs o =
        began_less m cs i start o.d w o.request.left t.budget (enough cs start) o.since (some_left cs _ _ o).1 (omega (arith, o.left))

    module _ (keeps : (cs : List Call) → Keeps k t (history m i cs)) (row_is : (cs : List Call) → slice_get (after m cs).rows i ≡ Some (server t (state_now m i t cs)))
        (c : Call) (cs : List Call) (o : OpenNow cs) where
      -- a call that lets no time pass
      stays : (waiting : List Request) → earliest (suc i) waiting ≡ Some o.request → (after m (c ∷ cs)).time ≡ (after m cs).time
          → Open (c ∷ cs) (after m cs).time waiting
      stays waiting is eq = record {
        request = o.request;
        earliest_is = is;
        number_is = o.number_is;
        offered_is = o.offered_is;
        d = o.d;
        since = o.since;
        covered = omega (arith, o.covered, ap k.held (state_still m i t c cs eq));
        left = omega (arith, o.left, free_past m c cs i start o.d (omega (arith, o.since)));
      }

      module _ (passed : (after m (c ∷ cs)).time ≡ (after m cs).time + 1) where
        asked : wanted (suc i) (after m cs).waiting ≡ true
        asked = earliest_wanted (suc i) (after m cs).waiting o.request o.earliest_is

        holding : (k.held (state_now m i t cs) ≤ k.held (begun_now m i t cs))
            × (k.held (begun_now m i t cs) ≤ k.held (state_at m i t (c ∷ cs) ((after m cs).time + 1)) + cond (eqb (suc i) (chosen (after m cs))) 1 0)
        holding = held_tick m i t c cs passed (keeps (c ∷ cs)) asked

        ready : ready_in (after m cs) (suc i) ≡ true
        ready =
            ready_at (after m cs) i (server t (state_now m i t cs)) (row_is cs)
            ∙ and_from _ _ asked (le-leb 1 _ (omega (arith, holding.0, o.covered, (some_left cs _ _ o).1)))

        -- another line runs
        waits_on : (chosen (after m cs) ≡ suc i → ⊥) → Open (c ∷ cs) ((after m cs).time + 1) (advanced (after m cs)).waiting
        waits_on other = record {
          request = o.request;
          earliest_is = row_serves_other (suc i) (after m cs).waiting (chosen (after m cs)) (row_of (opened_rows (after m cs)) (chosen (after m cs))) other
              ∙ o.earliest_is;
          number_is = o.number_is;
          offered_is = o.offered_is;
          d = suc o.d;
          since = omega (arith, o.since);
          covered = omega (
            arith,
            o.covered,
            holding,
            cond-false {A = ℕ} (eqb (suc i) (chosen (after m cs))) 1 0 (ne_eqb (suc i) _ (λ e. other (sym e))),
          );
          left = omega (arith, o.left, free_tick m c cs i start o.d o.since passed, not_free (after m cs) i ready other);
        }

        module _ (own : chosen (after m cs) ≡ suc i) where
          row : row_of (opened_rows (after m cs)) (suc i) ≡ Some (server t (begun_now m i t cs))
          row = row_of_is (opened_rows (after m cs)) i ∙ opened_at (after m cs) i (server t (state_now m i t cs)) (row_is cs)

          waiting_is : (advanced (after m cs)).waiting ≡ served (suc i) (after m cs).waiting
          waiting_is =
              ap (λ c. row_serves (after m cs).waiting c (row_of (opened_rows (after m cs)) c)) own ∙ ap (row_serves (after m cs).waiting (suc i)) row

          ends_are : tick_ends (after m cs) ≡ request_ends ((after m cs).time + 1) (Some o.request)
          ends_are =
              ap (λ c. row_ends ((after m cs).time + 1) (after m cs).waiting c (row_of (opened_rows (after m cs)) c)) own
              ∙ ap (row_ends ((after m cs).time + 1) (after m cs).waiting (suc i)) row
              ∙ ap (request_ends ((after m cs).time + 1)) o.earliest_is

          ends_now : o.request.left ≡ 1 → Ended i number start w (timed ((after m cs).time + 1) (tick_ends (after m cs)))
          ends_now one = (
            0,
            (
              record { completion = request_end ((after m cs).time + 1) o.request; time = (after m cs).time + 1 },
              ap (λ xs. slice_get (timed ((after m cs).time + 1) xs) 0) (ends_are ∙ cond-true (eqb o.request.left 1) _ [] (eq-eqb o.request.left 1 one)),
              (some_left cs _ _ o).0,
              o.number_is,
              (omega (arith, o.since, o.offered_is), omega (arith, not_late cs o, o.since, o.offered_is)),
            ),
          )

          goes_on : 1 < o.request.left → Open (c ∷ cs) ((after m cs).time + 1) (advanced (after m cs)).waiting
          goes_on more = record {
            request = lessened o.request;
            earliest_is = ap (earliest (suc i)) waiting_is ∙ served_own (suc i) (after m cs).waiting o.request o.earliest_is more;
            number_is = o.number_is;
            offered_is = o.offered_is;
            d = suc o.d;
            since = omega (arith, o.since);
            covered = omega (arith, o.covered, holding, cond-true {A = ℕ} (eqb (suc i) (chosen (after m cs))) 1 0 (eq-eqb (suc i) _ (sym own)));
            left = omega (arith, o.left, free_tick m c cs i start o.d o.since passed, at_most (not (one_of i (chosen (after m cs)))));
          }

        ticks : Ended i number start w (timed ((after m cs).time + 1) (tick_ends (after m cs))) ⊎ Open (c ∷ cs) ((after m cs).time + 1) (advanced (after m cs)).waiting
        ticks =
            ⊎_elim
            (λ (own : chosen (after m cs) ≡ suc i).
            ⊎_elim
            (λ (one : o.request.left ≡ 1). inl (ends_now own one))
            (λ (many : o.request.left ≡ 1 → ⊥). inr (goes_on own (omega (arith, many, (some_left cs _ _ o).1))))
            (cases_eq o.request.left 1))
            (λ (other : chosen (after m cs) ≡ suc i → ⊥). inr (waits_on other))
            (cases_eq (chosen (after m cs)) (suc i))

      -- a call ends the request, or leaves it open
      pub open_next : Ended i number start w (timed (after m (c ∷ cs)).time (makes c (after m cs))) ⊎ OpenNow (c ∷ cs)
      open_next =
          call_cases (after m cs) (λ time rows waiting new. (after m (c ∷ cs)).time ≡ time → Ended i number start w (timed time new) ⊎ Open (c ∷ cs) time waiting)
          (λ eq. inr (stays (after m cs).waiting o.earliest_is eq))
          ticks
          (λ r eq. inr (stays _ (earliest_more (suc i) (after m cs).waiting (r ∷ []) o.request o.earliest_is) eq))
          (λ line j unfinished next is some eq. inr (stays (after m cs).waiting o.earliest_is eq))
          c refl
