-- The lines of a draft.
use Rattle.std.proofs.Common.{◌≡◌, ℕ, ◌<◌, ◌≤◌, List, length, get_or, Some, None, ap, arith}
use Rattle.std.specs.List.{slice_get, AllByRecursion}
use Rattle.std.proofs.ByRecursion.{all_from_every}
use Rattle.std.proofs.lemmas.Option.{slice_get-get_or, slice_get_past}
use Rattle.server.specs.declared.kind.Server.{Ghosts}
use Rattle.plan.specs.Records.{Fit, blank}
use Rattle.plan.specs.declared.line.Line.{Line}
use Rattle.analysis.specs.Drafts.{lines}
use Rattle.analysis.specs.declared.draft.Draft.{Draft}

module _ {S : Type 0} {g : Ghosts S} (d : Draft S g) where
  pub lines_fit : AllByRecursion Fit (lines d)
  lines_fit = all_from_every Fit (lines d) (λ i l from to. d.fit i l to)

  -- what equals the lines
  pub part_fit : (part : List Line) → part ≡ lines d → AllByRecursion Fit part
  part_fit part is = rw is lines_fit

  pub part_few : (part : List Line) → part ≡ lines d → length part ≤ 20
  part_few part is = omega (arith, ap length is, d.few)

  -- the line at a place
  pub lines_at : (i : ℕ) → i < length (lines d) → slice_get (lines d) i ≡ Some (get_or (lines d) i blank)
  lines_at i within = slice_get-get_or (lines d) i blank within

  pub lines_at_fit : (i : ℕ) → i < length (lines d) → Fit (get_or (lines d) i blank)
  lines_at_fit i within = d.fit i blank within

  pub lines_past : (i : ℕ) → length (lines d) ≤ i → slice_get (lines d) i ≡ None
  lines_past i past = slice_get_past (lines d) i past
