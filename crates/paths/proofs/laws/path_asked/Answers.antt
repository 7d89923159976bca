use Rattle.paths.proofs.Asked.{path_asked_law}
use Rattle.paths.proofs.laws.path_asked.Goals as goal

pub returns : goal.returns
returns c = path_asked_law
