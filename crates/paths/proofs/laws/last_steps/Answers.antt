use Rattle.paths.proofs.Tables.{steps_law}
use Rattle.paths.proofs.laws.last_steps.Goals as goal

pub returns : goal.returns
returns c = steps_law
