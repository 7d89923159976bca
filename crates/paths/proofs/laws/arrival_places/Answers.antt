use Rattle.paths.proofs.Memory.{place_law}
use Rattle.paths.proofs.laws.arrival_places.Goals as goal

pub returns : goal.returns
returns c = place_law
