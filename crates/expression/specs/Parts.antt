-- What the readers tell each other of a part of an expression that has been read. Only the contracts of private functions cite this file.
use Rattle.std.specs.Prelude.{◌≡◌, ℕ, ◌<◌, ◌≤◌, Bool, true, ◌&&◌, ◌||◌, ◌==◌}
use Rattle.masks.specs.Members.{member}
use Rattle.expression.specs.declared.part.Part.{Part}

-- The first and last letters of the part are among those after letter lo, up to letter hi.
pub record Within (lo hi : ℕ) (p : Part) : Type 0 where
  pub first : (t : ℕ) → member p.first t ≡ true → (lo < t) × (t ≤ hi)
  pub last : (t : ℕ) → member p.last t ≡ true → (lo < t) × (t ≤ hi)

-- The part's last letters accept, and so does the start where nothing will do.
abbrev pub accepted : Part → ℕ → Bool
accepted p s = member p.last s || (p.nullable && s == 0)

-- One part or the other.
pub record Either (a b r : Part) : Type 0 where
  pub nullable : r.nullable ≡ (a.nullable || b.nullable)
  pub first : (t : ℕ) → member r.first t ≡ (member a.first t || member b.first t)
  pub last : (t : ℕ) → member r.last t ≡ (member a.last t || member b.last t)

-- One part and then the other: the second's first letters come first too where the first may be nothing, and the reverse at the end.
pub record Then (a b r : Part) : Type 0 where
  pub nullable : r.nullable ≡ (a.nullable && b.nullable)
  pub first : (t : ℕ) → member r.first t ≡ (member a.first t || (a.nullable && member b.first t))
  pub last : (t : ℕ) → member r.last t ≡ (member b.last t || (b.nullable && member a.last t))

-- The part or nothing.
abbrev pub optional : Part → Part
optional p = record { nullable = true; first = p.first; last = p.last }
