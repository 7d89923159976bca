use Rattle.paths.proofs.Memory.{step_record_law}
use Rattle.paths.proofs.laws.step_record.Goals as goal

pub returns : goal.returns
returns c = step_record_law
