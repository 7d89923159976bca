use Rattle.cases.proofs.Cases.{worked_cases}
use Rattle.cases.proofs.worked.Goals as goal

pub returns : goal.returns
returns c = worked_cases
