-- Pairs of points: which stand, and since when.
use Rattle.std.specs.Prelude.{◌≡◌, ℕ, ◌≤◌, ◌↔◌, List, IsTrue, ◌≢◌}
use Rattle.query.specs.Meaning.{Meaning}
use Rattle.query.specs.Words.{Accepts}
use Rattle.paths.specs.Links.{Links, Triple}
use Rattle.paths.specs.Paths.{Path, word, path_time}
use Rattle.paths.specs.Arrivals.{Arrives, Reached}

-- Which pairs are listed at all: those of two different points.
abbrev pub Listed : ℕ → ℕ → Type 0
Listed a b = a ≢ b

-- A listed pair stands when an arrival from the first at the second is reached in an accepting state.
pub record Stands (G : Links) (m : Meaning) (a b : ℕ) : Type 0 where
  pub listed : Listed a b
  pub state : ℕ
  pub accepts : IsTrue (m.accepting state)
  pub reached : Reached G m a b state

-- Its time is the greatest of those arrivals' times.
pub record PairTime (G : Links) (m : Meaning) (a b g : ℕ) : Type 0 where
  pub listed : Listed a b
  pub state : ℕ
  pub accepts : IsTrue (m.accepting state)
  pub path : List Triple
  pub arrives : Arrives G m a b state path
  pub time : path_time G path ≡ g
  pub most : (s : ℕ) → IsTrue (m.accepting s) → (ts : List Triple) → Arrives G m a b s ts → path_time G ts ≤ g

-- A path of a pair leads from its first point to its second, with a word that the query accepts.
pub record PairPath (G : Links) (m : Meaning) (a b : ℕ) (ts : List Triple) : Type 0 where
  pub path : Path G a ts b
  pub accepted : Accepts m (word ts)

-- The greatest time of a pair's paths: one has it, and none has more.
abbrev pub GreatestTime : Links → Meaning → ℕ → ℕ → ℕ → Type 0
GreatestTime G m a b g =
    ((ts : List Triple) × PairPath G m a b ts × (path_time G ts ≡ g)) × ((ts : List Triple) → PairPath G m a b ts → path_time G ts ≤ g)

-- So a listed pair stands exactly where it has a path, and its time is the greatest of its paths' times.
abbrev pub PairLaw : Type 0
PairLaw =
    (G : Links) (m : Meaning) (a b : ℕ) →
    (Stands G m a b ↔ (Listed a b × ((ts : List Triple) × PairPath G m a b ts)))
    × ((g : ℕ) → PairTime G m a b g ↔ (Listed a b × GreatestTime G m a b g))
