-- That lines are within their bounds has one proof at most, as a ghost field needs.
use Rattle.std.specs.Prelude.{List}
use Rattle.std.specs.Coded.{Π_prop}
use Rattle.std.specs.List.{All}
use Rattle.std.proofs.Props.{props}
use Rattle.plan.specs.Records.{Fit}
use Rattle.plan.specs.declared.line.Line.{Line}
use Rattle.plan.specs.declared.line.Line.TheVariants.{Task, Server}

fit_prop : (l : Line) → IsProp (Fit l)
fit_prop (Task t) = Prim.hlevel props
fit_prop (Server s) = Prim.hlevel props

pub all_fit_prop : (ls : List Line) → IsProp (All Fit ls)
all_fit_prop ls = Π_prop (λ k. Π_prop (λ d. Π_prop (λ within. fit_prop _)))
