use Rattle.server.specs.SporadicCeiling.{sporadic_ceiling_anywhere}
use Rattle.server.proofs.laws.sporadic_windows.Goals as goal

pub returns : goal.returns
returns c = sporadic_ceiling_anywhere
