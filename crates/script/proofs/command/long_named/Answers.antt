use Rattle.std.proofs.Common.{codes, ap, ◌∙◌, rules}
use Rattle.std.specs.Option.{option_map}
use Rattle.script.specs.declared.command.Command.TheVariants as says
use Rattle.script.proofs.Saying.{mapped, by_name}
use Rattle.script.proofs.command.long_named.Goals as goal

pub returns-in-queues : goal.returns-in-queues
returns-in-queues c = by_name (codes "queues") c.args.name.now c.args.line.now (c.queues.ensures) (search rules) (search rules)

pub returns-in-finish : goal.returns-in-finish
returns-in-finish c = by_name (codes "finish") c.args.name.now c.args.line.now (mapped _ says.Finish _ _ c.map-in-finish.ensures.cases (λ x y p. p) ∙ ap (option_map says.Finish) c.one-in-finish.ensures) (search rules) (search rules)
