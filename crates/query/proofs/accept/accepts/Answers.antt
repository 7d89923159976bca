use Rattle.std.proofs.Common.{sym, subst, arith}
use Rattle.std.proofs.lemmas.List.{take_more}
use Rattle.query.proofs.Runs.{Reached, reached_more}
use Rattle.std.proofs.lemmas.Bool.Decides.{nat_tests}
use Rattle.masks.proofs.Laws.{member_none}
use Rattle.query.proofs.accept.accepts.Goals as goal

pub loop-label-init : goal.loop-label-init
loop-label-init g c = λ t. grind (arith, nat_tests, c.with-states.ensures t, member_none t)

pub loop-label-preserved : goal.loop-label-preserved
loop-label-preserved g c =
    let m = g.Q.Query.meaning c.args.query.now in
    subst (Reached m c.after-states.result) (sym (take_more c.args.word.now c.loop-label.label-index 0 c.loop-label-test.true))
    (reached_more m _ _ _ _ c.loop-label.invariant c.after-states.ensures)
