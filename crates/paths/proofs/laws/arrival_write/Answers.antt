use Rattle.paths.proofs.Memory.{arrival_write_law}
use Rattle.paths.proofs.laws.arrival_write.Goals as goal

pub returns : goal.returns
returns c = arrival_write_law
