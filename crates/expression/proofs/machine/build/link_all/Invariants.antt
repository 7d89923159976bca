use Rattle.expression.proofs.Machines.{Linked}
use Rattle.expression.proofs.machine.build.link_all.Given as goal

abbrev pub invariant-loop-state : goal.invariant-loop-state
invariant-loop-state l = Linked l.initial.positions l.positions l.from l.to l.state
