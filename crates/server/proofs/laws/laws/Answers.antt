use Rattle.server.proofs.Holding.{lawful_alive}
use Rattle.server.proofs.laws.laws.Goals as goal

pub returns-clause-alive : goal.returns-clause-alive
returns-clause-alive g c = lawful_alive g.S.Server.kind g.met.S.Server.lawful
