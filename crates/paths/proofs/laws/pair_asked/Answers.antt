use Rattle.paths.proofs.Asked.{pair_asked_law}
use Rattle.paths.proofs.laws.pair_asked.Goals as goal

pub returns : goal.returns
returns c = pair_asked_law
