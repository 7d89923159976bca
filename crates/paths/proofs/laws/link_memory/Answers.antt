use Rattle.paths.proofs.Memory.{link_memory_law}
use Rattle.paths.proofs.laws.link_memory.Goals as goal

pub returns : goal.returns
returns c = link_memory_law
