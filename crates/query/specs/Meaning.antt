-- What a query means: a size, accepting states, and moves. State 0 is the start.
use Rattle.std.specs.Prelude.{ℕ, ◌+◌, ◌<◌, ◌≤◌, Bool, IsTrue}
use Rattle.masks.specs.Members.{places}

-- States run from 0 to size less 1. A move is a state, a label and a next state; one state and label may have several.
pub record Meaning : Type 0 where
  pub size : ℕ
  pub accepting : ℕ → Bool
  pub moves : ℕ → ℕ → ℕ → Bool

-- A query has at most 32 states, as many as a set has places for.
abbrev pub most_states : ℕ
most_states = places

-- The size that says that there would be too many.
abbrev pub too_many : ℕ
too_many = most_states + 1

-- Labels are 0 to 15.
abbrev pub last_label : ℕ
last_label = 15

-- The limits that every query's meaning keeps. A query of too many states accepts nothing and has no moves.
pub record Lawful (m : Meaning) : Type 0 where
  pub some : 1 ≤ m.size
  pub most : m.size ≤ too_many
  pub ends : (s : ℕ) → IsTrue (m.accepting s) → (s < m.size) × (m.size ≤ most_states)
  pub steps : (s l t : ℕ) → IsTrue (m.moves s l t) → (s < m.size) × (l ≤ last_label) × (t < m.size) × (m.size ≤ most_states)
