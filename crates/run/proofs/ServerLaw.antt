-- Servers keep to their ceilings, and the server on the first line gets its budget.
use Rattle.std.proofs.Common.{◌≡◌, ℕ, ◌+◌, ◌*◌, true, List, Some, refl, ◌∙◌, arith}
use Rattle.std.specs.List.{slice_get, AllByRecursion}
use Rattle.std.proofs.lemmas.Bool.{and_from, lt-ltb, eq-eqb}
use Rattle.server.specs.Kind.{Kind}
use Rattle.server.specs.Laws.{Lawful, Keeps}
use Rattle.plan.specs.Records.{Fit}
use Rattle.plan.specs.declared.line.Line.{Line}
use Rattle.plan.specs.declared.line.Line.TheVariants.{Server}
use Rattle.plan.specs.declared.line.ServerLine.{ServerLine}
use Rattle.analysis.specs.Equation.{terms_on}
use Rattle.analysis.specs.Growth.{Served, served}
use Rattle.run.specs.Machine.{Machine, started}
use Rattle.run.specs.Promises.{Ceilings, Budget}
use Rattle.run.specs.Rows.{server, fresh}
use Rattle.run.specs.Tries.{Call, after, found}
use Rattle.run.proofs.Choosing.{ready_chosen}
use Rattle.run.proofs.Places.{map_at, all_at}
use Rattle.run.proofs.ServerHistory.{history, state_now, runs_are}
use Rattle.run.proofs.ServerRun.{server_at, possible, ready_then, fresh_is}

module _ (k : Kind) (lawful : Lawful k) (ls : List Line) (fit : AllByRecursion Fit ls) (letters : Served k ls) (waiting_room completed_room : ℕ) (cs : List Call) where
  abbrev m : Machine k
  m = started ls waiting_room completed_room

  module _ (i : ℕ) (s : ServerLine) (line : slice_get ls i ≡ Some (Server s)) where
    new : slice_get m.rows i ≡ Some (server (terms_on s) (k.made (terms_on s)))
    new = map_at (fresh {k = k}) ls i (Server s) line

    pub row_is : slice_get (after m cs).rows i ≡ Some (server (terms_on s) (state_now m i (terms_on s) cs))
    row_is = server_at m i (terms_on s) refl new cs

    -- the laws of its kind hold in its history
    pub keeps : Keeps k (terms_on s) (history m i cs)
    keeps =
        let bounds = all_at Fit ls i (Server s) line fit in
        lawful (terms_on s) (record { some = bounds.1; within = bounds.2; short = bounds.3 })
        (all_at (λ l. served k l ≡ true) ls i (Server s) line letters) (history m i cs) (possible m i (terms_on s) refl new cs)

  pub ceilings : Ceilings k ls m cs
  ceilings i s line from n upto rest =
      omega (
        arith,
        runs_are m i cs from n upto,
        (keeps i s line).ceiling from n (fresh_is m i (terms_on s) refl (new i s line) cs from (omega arith) rest),
      )

  pub budget : Budget k ls m cs
  budget s line from upto asked =
      omega (
        arith,
        runs_are m 0 cs from (2 * s.period) upto,
        (keeps 0 s line).floor from (λ j below. record {
          asked = asked j below;
          given = λ ready.
              let first = ready_chosen (found m cs (from + j)) 0 (ready_then m 0 (terms_on s) refl (new 0 s line) cs (from + j) (omega arith) ∙ ready) in
              and_from _ _ (lt-ltb (from + j) _ (omega arith)) (eq-eqb 1 _ (omega (arith, first.0, first.1)));
        }),
      )
