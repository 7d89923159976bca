-- What a mask says: which states are in the set.
use Rattle.std.specs.Prelude.{◌≡◌, ℕ, ◌<◌, ◌/◌, ◌%◌, ◌^◌, Bool, not, ◌&&◌, ◌||◌, ◌==◌, nat_lt, Option, Some, None, IsTrue, IsFalse}

-- State k is in the set where bit k of the mask is 1.
unfoldable pub member : ℕ → ℕ → Bool
member set k = (set / 2 ^ k % 2) == 1

-- A set has places for this many states, from 0 on.
abbrev pub places : ℕ
places = 32

-- The set with state k in it besides, where it has a place.
abbrev pub with_member : ℕ → ℕ → ℕ → Bool
with_member set k j = member set j || (nat_lt k places && j == k)

-- From a set to the set without its lowest state, which is answered; an empty set has none and stays.
abbrev pub TakesFirst : ℕ → ℕ → Option ℕ → Type 0
TakesFirst set rest None = ((j : ℕ) → IsFalse (member set j)) × (rest ≡ set)
TakesFirst set rest (Some k) =
    IsTrue (member set k) × (k < places) × ((j : ℕ) → j < k → IsFalse (member set j)) × ((j : ℕ) → member rest j ≡ (member set j && not (j == k)))
