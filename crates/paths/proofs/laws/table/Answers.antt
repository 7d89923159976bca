use Rattle.paths.proofs.Tables.{table_law}
use Rattle.paths.proofs.laws.table.Goals as goal

pub returns : goal.returns
returns c = table_law
