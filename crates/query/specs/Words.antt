-- Which words a query accepts. A word is a list of labels.
use Rattle.std.specs.Prelude.{◌≡◌, ℕ, List, [], ◌∷◌, IsTrue}
use Rattle.query.specs.Meaning.{Meaning}

-- Moves, one for each label of the word in order, lead from state s to state t.
abbrev pub Leads : Meaning → ℕ → List ℕ → ℕ → Type 0
Leads m s [] t = s ≡ t
Leads m s (l ∷ w) t = (u : ℕ) × IsTrue (m.moves s l u) × Leads m u w t

-- The word can lead from state 0 to an accepting state.
abbrev pub Accepts : Meaning → List ℕ → Type 0
Accepts m w = (t : ℕ) × Leads m 0 w t × IsTrue (m.accepting t)
