-- Arrivals: a start point, an end point and a state of the query.
use Rattle.std.specs.Prelude.{◌≡◌, ℕ, ◌≤◌, List, Some, None, Option, IsSome, IsTrue}
use Rattle.query.specs.Meaning.{Meaning}
use Rattle.query.specs.Words.{Leads}
use Rattle.paths.specs.Links.{Links, Triple}
use Rattle.paths.specs.Paths.{Path, word, path_time}

-- A path from the start to the end whose word leads from state 0 to the state.
pub record Arrives (G : Links) (m : Meaning) (a b s : ℕ) (ts : List Triple) : Type 0 where
  pub path : Path G a ts b
  pub leads : Leads m 0 (word ts) s

-- An arrival is reached when there is such a path.
abbrev pub Reached : Links → Meaning → ℕ → ℕ → ℕ → Type 0
Reached G m a b s = (ts : List Triple) × Arrives G m a b s ts

-- A last step: a link, told by its triple, and the state of the arrival that it comes after, which is at the point where the link comes from;
-- or no state where it comes straight from the start.
pub record Step : Type 0 where
  pub link : Triple
  pub before : Option ℕ

-- A link leads to state s by a move on its label: from the start itself by a move from state 0, or else by one from the state of the arrival
-- that it comes after, which is reached.
abbrev pub ComesAfter : Links → Meaning → ℕ → Option ℕ → Triple → ℕ → Type 0
ComesAfter G m a None t s = (t.from ≡ a) × IsTrue (m.moves 0 t.label s)
ComesAfter G m a (Some q) t s = Reached G m a t.from q × IsTrue (m.moves q t.label s)

-- A step is a last step of an arrival where its link is there, leads into the arrival's end point, and comes after just what the step says.
pub record LastStep (G : Links) (m : Meaning) (a b s : ℕ) (step : Step) : Type 0 where
  pub there : IsSome (G step.link)
  pub ends : step.link.to ≡ b
  pub after : ComesAfter G m a step.before step.link s

-- An arrival's time is the greatest time of all its paths.
pub record ArrivalTime (G : Links) (m : Meaning) (a b s g : ℕ) : Type 0 where
  pub path : List Triple
  pub arrives : Arrives G m a b s path
  pub time : path_time G path ≡ g
  pub most : (ts : List Triple) → Arrives G m a b s ts → path_time G ts ≤ g
