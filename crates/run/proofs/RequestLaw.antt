-- A request that finds its line empty and asks for no more than is held ends within the response time of the line.
use Rattle.std.proofs.Common.{◌≡◌, ℕ, suc, ◌≤◌, false, eqb, leb, ◌⊎◌, List, [], ◌∷◌, ◌++◌, take, Some, sym, refl, ap, ◌∙◌, subst, inl, inr, ⊎_elim, arith}
use Rattle.std.specs.List.{slice_get, AllByRecursion}
use Rattle.std.proofs.lemmas.Bool.{and_from, eq-eqb, le-leb}
use Rattle.server.specs.Kind.{Kind, Terms}
use Rattle.server.specs.Laws.{Lawful}
use Rattle.plan.specs.Records.{Fit}
use Rattle.plan.specs.declared.line.Line.{Line}
use Rattle.plan.specs.declared.line.Line.TheVariants.{Server}
use Rattle.plan.specs.declared.line.ServerLine.{ServerLine}
use Rattle.analysis.specs.Equation.{terms_on}
use Rattle.analysis.specs.Growth.{Served}
use Rattle.analysis.specs.Response.{time_of}
use Rattle.run.specs.Machine.{Machine, started, offered}
use Rattle.run.specs.Promises.{RequestsAt}
use Rattle.run.specs.Replies.{done}
use Rattle.run.specs.Requests.{wanted, earliest}
use Rattle.run.specs.Rows.{Row, server}
use Rattle.run.specs.Tries.{Call, Made, offer, timed, tried, after, made_at, makes}
use Rattle.run.proofs.Offers.{offer_taken}
use Rattle.run.proofs.Past.{after_join}
use Rattle.run.proofs.Places.{some_same, at_left, at_right}
use Rattle.run.proofs.RequestSteps.{Ended, OpenNow, not_late, open_next}
use Rattle.run.proofs.Responses.{room}
use Rattle.run.proofs.ServerHistory.{state_at, state_now, state_still}
use Rattle.run.proofs.ServerLaw.{keeps, row_is}
use Rattle.run.proofs.Waiting.{earliest_push}

same_state : {k : Kind} {t : Terms} {x y : k.State} → ◌≡◌ {A = Row k} (server t x) (server t y) → x ≡ y
same_state e = cc

module _ (i number start w : ℕ) (xs ys : List Made) where
  ended_left : Ended i number start w xs → Ended i number start w (xs ++ ys)
  ended_left e = (e.0, (e.1.0, at_left xs ys e.0 e.1.0 e.1.1, e.1.2, e.1.3, e.1.4))

  ended_right : Ended i number start w ys → Ended i number start w (xs ++ ys)
  ended_right e =
      let there = at_right xs ys e.0 e.1.0 e.1.1 in
      (there.0, (e.1.0, there.1, e.1.2, e.1.3, e.1.4))

-- where each call ends a request or leaves it open, so do all calls since
module _ {k : Kind} (m : Machine k) (i number start w : ℕ) (Opened : List Call → Type 0)
    (next : (c : Call) (cs : List Call) → Opened cs → Ended i number start w (timed (after m (c ∷ cs)).time (makes c (after m cs))) ⊎ Opened (c ∷ cs)) where
  open_after : (before since : List Call) → Opened before → Ended i number start w (made_at (after m before) since) ⊎ Opened (since ++ before)
  open_after before [] o = inr o
  open_after before (c ∷ since) o = ⊎_elim (λ e. inl (ended_left i number start w _ _ e)) further (open_after before since o)
    where
      further : Opened (since ++ before) → Ended i number start w (made_at (after m before) (c ∷ since)) ⊎ Opened (c ∷ since ++ before)
      further o' =
          ⊎_elim
          (λ e. inl (ended_right i number start w (made_at (after m before) since) _
          (subst (λ M. Ended i number start w (timed (tried c M).time (makes c M))) (after_join m since before) e)))
          inr
          (next c (since ++ before) o')

module _ (k : Kind) (lawful : Lawful k) (ls : List Line) (fit : AllByRecursion Fit ls) (letters : Served k ls) (waiting_room completed_room : ℕ) where
  abbrev m : Machine k
  m = started ls waiting_room completed_room

  module _ (i : ℕ) (s : ServerLine) (line : slice_get ls i ≡ Some (Server s)) (before : List Call) (amount number : ℕ) (state : k.State)
      (at : slice_get (after m before).rows i ≡ Some (server (terms_on s) state)) (covered : amount ≤ k.held state) where
    state_is : state_now m i (terms_on s) before ≡ state
    state_is = same_state {k = k} (some_same (sym (row_is k lawful ls fit letters waiting_room completed_room before i s line) ∙ at))

    -- no more is asked for than the budget
    small : amount ≤ s.budget
    small =
        omega (
          arith,
          ap k.held state_is,
          (keeps k lawful ls fit letters waiting_room completed_room before i s line).held_before (after m before).time,
        )

    -- the request as it is offered
    open_first : (offered (suc i) amount (after m before)).0 ≡ done number → wanted (suc i) (after m before).waiting ≡ false
        → OpenNow m i (terms_on s) amount number (after m before).time (offer (suc i) amount ∷ before)
    open_first granted empty =
        let taken = offer_taken (after m before) (suc i) amount number granted in
        record {
          request = record { line = suc i; number = number; offered = (after m before).time; left = amount };
          earliest_is = ap (earliest (suc i)) taken.waiting
              ∙ earliest_push (suc i) (after m before).waiting _ empty
              (and_from (eqb (suc i) (suc i)) (leb 1 amount) (eq-eqb (suc i) (suc i) refl) (le-leb 1 amount taken.some));
          number_is = refl;
          offered_is = refl;
          d = 0;
          since = omega (arith, taken.time);
          covered = omega (
            arith,
            ap k.held (ap (state_at m i (terms_on s) (offer (suc i) amount ∷ before)) taken.time
                ∙ state_still m i (terms_on s) (offer (suc i) amount) before taken.time ∙ state_is),
          );
          left = omega arith;
        }

  pub requests : (cs : List Call) → RequestsAt k ls m cs
  requests cs since before i amount number s state is line some granted at empty covered passed =
      let w = time_of k (take i ls) (Server s) in
      let start = (after m before).time in
      let fits = small i s line before amount number state at covered in
      let space = room k lawful ls fit letters waiting_room completed_room i (Server s) line some in
      ⊎_elim
      (λ ended. ended)
      (λ still.
      absurd (omega (
        arith,
        passed,
        still.since,
        ap (λ calls. (after m calls).time) is,
        not_late m i (terms_on s) amount number start w fits space (since ++ (offer (suc i) amount ∷ before)) still,
      )))
      (open_after m i number start w (OpenNow m i (terms_on s) amount number start)
      (open_next m i (terms_on s) amount number start w fits space
      (λ calls. keeps k lawful ls fit letters waiting_room completed_room calls i s line)
      (λ calls. row_is k lawful ls fit letters waiting_room completed_room calls i s line))
      (offer (suc i) amount ∷ before) since (open_first i s line before amount number state at covered granted empty))
