-- The jobs of a line that passes end in order, within its response time.
use Rattle.std.proofs.Common.{◌≡◌, ℕ, ◌+◌, ◌≤◌, List, take, Some, refl, arith}
use Rattle.std.specs.List.{slice_get, AllByRecursion}
use Rattle.server.specs.Kind.{Kind}
use Rattle.server.specs.Laws.{Lawful}
use Rattle.plan.specs.Records.{Fit}
use Rattle.plan.specs.declared.line.Line.{Line}
use Rattle.plan.specs.declared.line.Line.TheVariants.{Task, Server}
use Rattle.analysis.specs.Equation.{own}
use Rattle.analysis.specs.Growth.{Served}
use Rattle.analysis.specs.Response.{time_of}
use Rattle.analysis.proofs.Counting.{time_solves}
use Rattle.run.specs.Machine.{Machine, started}
use Rattle.run.specs.Promises.{JobsAt, InOrder}
use Rattle.run.specs.Rows.{fresh}
use Rattle.run.specs.Tries.{Call, after}
use Rattle.run.proofs.Busy.{Bounded, idle_ticks}
use Rattle.run.proofs.Idle.{free}
use Rattle.run.proofs.JobLaw as job_law
use Rattle.run.proofs.Places.{map_at, all_at, at_within}
use Rattle.run.proofs.ServerLaw.{ceilings}
use Rattle.run.proofs.TaskBound.{task_bounded}

module _ (k : Kind) (lawful : Lawful k) (ls : List Line) (fit : AllByRecursion Fit ls) (letters : Served k ls) (waiting_room completed_room : ℕ) where
  abbrev m : Machine k
  m = started ls waiting_room completed_room

  -- no line runs more than its share from its rest on
  bounded : (cs : List Call) → Bounded m cs ls
  bounded cs j (Task t) line s n within rest =
      task_bounded m j t (all_at Fit ls j (Task t) line fit) refl (map_at (fresh {k = k}) ls j (Task t) line) cs s n within rest
  bounded cs j (Server v) line s n within rest = ceilings k lawful ls fit letters waiting_room completed_room cs j v line s n within rest

  -- in any ticks as many as the response time of a line, its own work finds room
  pub room : (i : ℕ) (l : Line) → slice_get ls i ≡ Some l → (time_of k (take i ls) l ≡ 0 → ⊥) → (cs : List Call) (s : ℕ)
      → s + time_of k (take i ls) l ≤ (after m cs).time → own l ≤ free m cs i s (time_of k (take i ls) l)
  room i l line some cs s =
      idle_ticks m cs ls (bounded cs) i (own l) (time_of k (take i ls) l) (omega (arith, at_within ls i l line))
      (time_solves k (take i ls) l some).met s

  pub jobs : (cs : List Call) → JobsAt k ls m cs
  jobs cs i t line some j passed =
      let solves = time_solves k (take i ls) (Task t) some in
      job_law.job_ends m i t (time_of k (take i ls) (Task t)) (all_at Fit ls i (Task t) line fit) solves.within (room i (Task t) line some) refl
      (map_at (fresh {k = k}) ls i (Task t) line) cs j solves.some passed

  pub in_order : (cs : List Call) → InOrder k ls m cs
  in_order cs i t line some =
      job_law.in_order m i t (time_of k (take i ls) (Task t)) (all_at Fit ls i (Task t) line fit) (time_solves k (take i ls) (Task t) some).within
      (room i (Task t) line some) refl (map_at (fresh {k = k}) ls i (Task t) line) cs
