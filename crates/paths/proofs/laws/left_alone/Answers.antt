use Rattle.paths.proofs.Alone.{left_alone_law}
use Rattle.paths.proofs.laws.left_alone.Goals as goal

pub returns : goal.returns
returns c = left_alone_law
