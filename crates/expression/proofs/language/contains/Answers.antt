use Rattle.std.proofs.Common.{rules}
use Rattle.expression.proofs.Whole.{answered}
use Rattle.expression.proofs.language.contains.Goals as goal

pub returns : goal.returns
returns c = (search rules, answered {m = c.read.new.self} (search rules) c.accepts.ensures)
