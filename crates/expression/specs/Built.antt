-- What the steps of building a machine make of it. Only the contracts of private functions cite this file.
use Rattle.std.specs.Prelude.{◌≡◌, ℕ, ◌≤◌, ◌&&◌, ◌||◌}
use Rattle.masks.specs.Members.{member}
use Rattle.expression.specs.declared.machine.Machine.{Machine}
use Rattle.expression.specs.declared.part.Part.{Part}
use Rattle.expression.specs.Machines.{linked, letters_in}
use Rattle.expression.specs.Parts.{accepted}
use Rattle.expression.specs.Rows.{labels_in}

-- There are moves besides from each state of `from` to each of `to`.
pub record Joins (m m' : Machine) (from to : ℕ) : Type 0 where
  pub letters : letters_in m' ≡ letters_in m
  pub labels : labels_in m'.positions.items ≡ labels_in m.positions.items
  pub follow : (s t : ℕ) → linked m' s t ≡ (linked m s t || (member from s && member to t))

-- The part is the whole expression: its first letters follow the start, and its last ones accept, with the start where nothing will do.
pub record Finished (m m' : Machine) (whole : Part) : Type 0 where
  pub letters : letters_in m' ≡ letters_in m
  pub labels : labels_in m'.positions.items ≡ labels_in m.positions.items
  pub ends : (s : ℕ) → member m'.accepting s ≡ accepted whole s
  pub start : (t : ℕ) → linked m' 0 t ≡ member whole.first t
  pub follow : (s t : ℕ) → 1 ≤ s → linked m' s t ≡ linked m s t
