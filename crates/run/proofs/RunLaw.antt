-- The laws of a run hold for every lawful kind, all lines within their bounds whose letters it serves, and any room of the queues.
use Rattle.std.proofs.Common.{ℕ, List, refl}
use Rattle.std.specs.List.{AllByRecursion}
use Rattle.server.specs.Kind.{Kind}
use Rattle.server.specs.Laws.{Lawful}
use Rattle.plan.specs.Records.{Fit}
use Rattle.plan.specs.declared.line.Line.{Line}
use Rattle.analysis.specs.Growth.{Served}
use Rattle.run.specs.Machine.{Machine, started}
use Rattle.run.specs.Promises.{Law, Timing}
use Rattle.run.proofs.Deliveries.{delivered}
use Rattle.run.proofs.RequestLaw.{requests}
use Rattle.run.proofs.Responses.{jobs, in_order}
use Rattle.run.proofs.ServerLaw.{ceilings, budget}
use Rattle.run.proofs.Untimed.{jobs_made, requests_made}

module _ (k : Kind) (lawful : Lawful k) (ls : List Line) (fit : AllByRecursion Fit ls) (letters : Served k ls) (waiting_room completed_room : ℕ) where
  abbrev m : Machine k
  m = started ls waiting_room completed_room

  pub law : Law k ls m
  law = record {
    ceilings = ceilings k lawful ls fit letters waiting_room completed_room;
    jobs = λ cs. jobs_made k ls m cs (jobs k lawful ls fit letters waiting_room completed_room cs);
    requests = λ cs. requests_made k ls m cs (requests k lawful ls fit letters waiting_room completed_room cs);
    budget = budget k lawful ls fit letters waiting_room completed_room;
  }

  pub timing : Timing k ls m
  timing = record {
    jobs = jobs k lawful ls fit letters waiting_room completed_room;
    in_order = in_order k lawful ls fit letters waiting_room completed_room;
    requests = requests k lawful ls fit letters waiting_room completed_room;
    delivered = delivered m refl;
  }
