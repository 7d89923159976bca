use Rattle.paths.proofs.Balance.{balance_law}
use Rattle.paths.proofs.laws.balance.Goals as goal

pub returns : goal.returns
returns c = balance_law
