-- What the table of a machine says of each state.
use Rattle.std.specs.Prelude.{ℕ, List, map}
use Rattle.expression.specs.declared.machine.Position.{Position}

-- The labels of the states' letters.
abbrev pub labels_in : List Position → List ℕ
labels_in ps = map (λ p. p.label) ps

-- Of each state the set of the states that may come next.
abbrev pub rows_in : List Position → List ℕ
rows_in ps = map (λ p. p.next) ps
