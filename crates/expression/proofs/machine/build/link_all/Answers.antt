use Rattle.std.proofs.Common.{refl, arith}
use Rattle.expression.proofs.Machines.{link_one}
use Rattle.expression.proofs.machine.build.link_all.Goals as goal
use Rattle.expression.proofs.machine.build.link_all.Goals.{then-contains, else-contains}

pub loop-state-preserved : goal.loop-state-preserved
loop-state-preserved c =
    elim c.if-contains.branch [
      | then-contains w ↦
          rw w.positions-is (link_one _ _ _ _ _ _ _ c.loop-state.invariant (omega (arith, c.loop-state.invariant.places)) refl (λ j. grind (arith, w.bitor_assign.ensures.after j)))
      | else-contains w ↦ rw w.positions-is (link_one _ _ _ _ _ _ _ c.loop-state.invariant (omega (arith, c.loop-state.invariant.places)) refl (λ j. grind arith))
    ]
