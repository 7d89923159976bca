use Rattle.std.proofs.Common.{◌≡◌, ℕ, true, false}
use Rattle.masks.specs.Members.{member}
use Rattle.query.proofs.accept.any.Given as goal

-- Each state of the set is still to be tried, or failed the test.
abbrev pub invariant-loop-state : goal.invariant-loop-state
invariant-loop-state g l =
    ((j : ℕ) → member l.rest j ≡ true → member l.fn.states j ≡ true)
    × ((j : ℕ) → member l.fn.states j ≡ true → member l.rest j ≡ false → goal.F-post g l.test j false)

abbrev pub decreases-loop-state : goal.decreases-loop-state
decreases-loop-state g l = l.rest
