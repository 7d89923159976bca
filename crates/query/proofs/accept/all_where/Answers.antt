use Rattle.std.proofs.Common.{arith}
use Rattle.std.proofs.lemmas.Grind.{common_steps}
use Rattle.masks.proofs.Laws.{member_none}
use Rattle.query.proofs.accept.all_where.Goals as goal

pub loop-state-init : goal.loop-state-init
loop-state-init g c = grind (arith, common_steps, member_none)
