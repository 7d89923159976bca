use Rattle.paths.proofs.Memory.{no_place_law}
use Rattle.paths.proofs.laws.no_arrival_place.Goals as goal

pub returns : goal.returns
returns c = no_place_law
