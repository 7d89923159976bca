use Rattle.std.proofs.Common.{sym, arith}
use Rattle.masks.proofs.Laws.{takes_first}
use Rattle.masks.proofs.States.pop_first.Goals as goal

pub returns-clause-takes : goal.returns-clause-takes
returns-clause-takes c = rw (sym c.self.view_is) (takes_first c.self.inside.bits (grind (arith, c.if-self-eq0.false)) (grind arith)).0

pub returns-clause-less : goal.returns-clause-less
returns-clause-less c = rw (sym c.self.view_is) (takes_first c.self.inside.bits (grind (arith, c.if-self-eq0.false)) (grind arith)).1
