use Rattle.std.proofs.Common.{take}
use Rattle.query.proofs.Runs.{Reached}
use Rattle.query.proofs.accept.accepts.Given as goal

abbrev pub invariant-loop-label : goal.invariant-loop-label
invariant-loop-label g l = Reached (g.Q.Query.meaning l.query) l.states (take l.label-index l.word)
