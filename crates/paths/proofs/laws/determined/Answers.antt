use Rattle.paths.proofs.Determined.{determined_law}
use Rattle.paths.proofs.laws.determined.Goals as goal

pub returns : goal.returns
returns c = determined_law
