-- A part of the position automaton, and the words that lead through it. Only the contracts of private functions cite this file.
use Rattle.std.specs.Prelude.{◌≡◌, ℕ, ◌<◌, ◌≤◌, Bool, true, List, [], ◌∷◌}
use Rattle.masks.specs.Members.{member}
use Rattle.expression.specs.declared.part.Part.{Part}
use Rattle.expression.specs.Parts.{Within}

-- From state s the word leads to state t, where F says which state may come after which, and L has each state's label.
abbrev pub Walk : (ℕ → ℕ → Bool) → (ℕ → ℕ) → ℕ → List ℕ → ℕ → Type 0
Walk F L s [] t = s ≡ t
Walk F L s (l ∷ w) t = (u : ℕ) × (F s u ≡ true) × (L u ≡ l) × Walk F L u w t

-- The word leads through the part, from one of its first letters to one of its last; or it is empty, and nothing will do for the part.
abbrev pub Through : (ℕ → ℕ → Bool) → (ℕ → ℕ) → Part → List ℕ → Type 0
Through F L p [] = p.nullable ≡ true
Through F L p (l ∷ w) = (a : ℕ) × (b : ℕ) × (member p.first a ≡ true) × (L a ≡ l) × Walk F L a w b × (member p.last b ≡ true)

-- The part has the letters after lo up to hi, moves from them stay among them, and the words through it are those of the language P.
pub record Fragment (F : ℕ → ℕ → Bool) (L : ℕ → ℕ) (lo hi : ℕ) (p : Part) (P : List ℕ → Type 0) : Type 0 where
  pub own : Within lo hi p
  pub stays : (s t : ℕ) → lo < s → s ≤ hi → F s t ≡ true → (lo < t) × (t ≤ hi)
  pub says : (w : List ℕ) → Through F L p w → P w
  pub takes : (w : List ℕ) → P w → Through F L p w
