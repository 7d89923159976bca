use Rattle.std.proofs.Common.{◌≡◌, ℕ, ◌<◌, true, false}
use Rattle.masks.specs.Members.{member}
use Rattle.query.proofs.accept.all_where.Given as goal

abbrev pub invariant-loop-state : goal.invariant-loop-state
invariant-loop-state g l =
    ((j : ℕ) → member l.states j ≡ true → (j < l.state) × goal.F-post g l.test j true)
    × ((j : ℕ) → member l.states j ≡ false → j < l.state → goal.F-post g l.test j false)
