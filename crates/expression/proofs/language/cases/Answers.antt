use Rattle.expression.proofs.Worked.{worked}
use Rattle.expression.proofs.language.cases.Goals as goal

pub returns : goal.returns
returns c = worked
