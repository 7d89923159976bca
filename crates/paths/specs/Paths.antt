-- Paths along links, their words and their times.
use Rattle.std.specs.Prelude.{◌≡◌, ℕ, ◌<◌, min, List, [], ◌∷◌, length, map, IsSome}
use Rattle.std.specs.Option.{unwrap_or}
use Rattle.paths.specs.Links.{Links, Triple}

-- The number of a link that is there.
abbrev pub time_of : Links → Triple → ℕ
time_of G t = unwrap_or (G t) 0

-- Links laid end to end lead from one point to another. A link may come again.
abbrev pub Chain : Links → ℕ → List Triple → ℕ → Type 0
Chain G a [] b = a ≡ b
Chain G a (t ∷ ts) b = (t.from ≡ a) × (IsSome (G t)) × Chain G t.to ts b

-- A path is one or more links laid end to end.
pub record Path (G : Links) (a : ℕ) (ts : List Triple) (b : ℕ) : Type 0 where
  pub some : 0 < length ts
  pub laid : Chain G a ts b

-- Its word has the labels of its links, in order.
abbrev pub word : List Triple → List ℕ
word ts = map (λ t. t.label) ts

-- Its time is the least of its links' times.
abbrev pub path_time : Links → List Triple → ℕ
path_time G [] = 0
path_time G (t ∷ []) = time_of G t
path_time G (t ∷ u ∷ ts) = min (time_of G t) (path_time G (u ∷ ts))
