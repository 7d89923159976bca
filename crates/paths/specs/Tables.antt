-- A table of the arrivals of one start, each with a rank and a last step, and what makes it right.
use Rattle.std.specs.Prelude.{◌≡◌, ℕ, ◌+◌, ◌-◌, ◌*◌, ◌<◌, ◌≤◌, min, List, [], ◌∷◌, ◌++◌, length, Some, None, Option, IsSome, IsNone, IsTrue, ◌≢◌, ◌⊎◌, Any}
use Rattle.query.specs.Meaning.{Meaning, Lawful}
use Rattle.paths.specs.Links.{Links, Triple}
use Rattle.paths.specs.Paths.{time_of, path_time}
use Rattle.paths.specs.Arrivals.{Arrives, Reached, ArrivalTime, Step, LastStep}
use Rattle.paths.specs.Pairs.{Stands, PairPath, PairTime}

-- For each end point and state a rank, which is 0 where the arrival is not reached and else its time plus 1, and a last step.
pub record Table : Type 0 where
  pub rank : ℕ → ℕ → ℕ
  pub last : ℕ → ℕ → Option Step

-- The rank of a link.
abbrev pub link_rank : Links → Triple → ℕ
link_rank G t = time_of G t + 1

-- A last step is a link that is there, into the arrival's end point, whose rank is at least the arrival's.
pub record Into (G : Links) (T : Table) (t : Triple) (b s : ℕ) : Type 0 where
  pub there : IsSome (G t)
  pub ends : t.to ≡ b
  pub most : T.rank b s ≤ link_rank G t

-- Last steps followed back end at the start, and give the shown path.
pub data Shown (G : Links) (m : Meaning) (a : ℕ) (T : Table) : ℕ → ℕ → List Triple → Type 0 where
  first : (b s : ℕ) (t : Triple) → T.last b s ≡ Some (record { link = t; before = None }) → Into G T t b s → t.from ≡ a → IsTrue (m.moves 0 t.label s) → Shown G m a T b s (t ∷ [])
  next : (b s : ℕ) (t : Triple) (c q : ℕ) (ts : List Triple) → T.last b s ≡ Some (record { link = t; before = Some q }) → Into G T t b s → t.from ≡ c → IsTrue (m.moves q t.label s) → T.rank b s ≤ T.rank c q → Shown G m a T c q ts → Shown G m a T b s (ts ++ t ∷ [])

-- Supported: each reached arrival has a last step, whose rank and whose source's rank are at least its own, and last steps end at the start.
pub record Supported (G : Links) (m : Meaning) (a : ℕ) (T : Table) : Type 0 where
  pub shown : (b s : ℕ) → 0 < T.rank b s → (ts : List Triple) × Shown G m a T b s ts
  pub lost : (b s : ℕ) → T.rank b s ≡ 0 → T.last b s ≡ None

-- Closed: no link and move offers its target more than it has, neither from the start nor from an arrival.
pub record Closed (G : Links) (m : Meaning) (a : ℕ) (T : Table) : Type 0 where
  pub start : (t : Triple) (s : ℕ) → IsSome (G t) → t.from ≡ a → IsTrue (m.moves 0 t.label s) → link_rank G t ≤ T.rank t.to s
  pub later : (t : Triple) (q s : ℕ) → IsSome (G t) → IsTrue (m.moves q t.label s) → min (T.rank t.from q) (link_rank G t) ≤ T.rank t.to s

-- The table is right: it has just the reached arrivals, with their times; each of them has a last step and a shown path, which is a path of that
-- arrival and of its time; and an arrival that is not reached has no last step.
pub record Right (G : Links) (m : Meaning) (a : ℕ) (T : Table) : Type 0 where
  pub reached : (b s : ℕ) → 0 < T.rank b s → ArrivalTime G m a b s (T.rank b s - 1)
  pub only : (b s : ℕ) → Reached G m a b s → 0 < T.rank b s
  pub lasts : (b s : ℕ) → 0 < T.rank b s → (step : Step) × (T.last b s ≡ Some step) × LastStep G m a b s step
  pub lost : (b s : ℕ) → T.rank b s ≡ 0 → T.last b s ≡ None
  pub shown : (b s : ℕ) → 0 < T.rank b s → (ts : List Triple) × Shown G m a T b s ts
  pub shows : (b s : ℕ) (ts : List Triple) → Shown G m a T b s ts → Arrives G m a b s ts × (path_time G ts + 1 ≡ T.rank b s)

-- The shown path of a pair is a path of the pair and has the pair's time: it is that of the lowest accepting state whose arrival has that time.
pub record PairShown (G : Links) (m : Meaning) (a : ℕ) (T : Table) (b : ℕ) (ts : List Triple) : Type 0 where
  pub path : PairPath G m a b ts
  pub time : PairTime G m a b (path_time G ts)
  pub state : ℕ
  pub accepts : IsTrue (m.accepting state)
  pub arrival : ArrivalTime G m a b state (path_time G ts)
  pub lowest : (s : ℕ) → IsTrue (m.accepting s) → ArrivalTime G m a b s (path_time G ts) → state ≤ s
  pub shown : Shown G m a T b state ts

-- All points are below n.
abbrev pub Below : ℕ → Links → Type 0
Below n G = (t : Triple) → IsSome (G t) → (t.from < n) × (t.to < n)

-- Two local facts make a table right. Then no shown path is longer than n × size links, and each pair that stands has a shown path.
abbrev pub TableLaw : Type 0
TableLaw =
    (G : Links) (m : Meaning) (a n : ℕ) (T : Table) →
    Lawful m → Below n G → Supported G m a T → Closed G m a T →
    Right G m a T
    × ((b s : ℕ) (ts : List Triple) → Shown G m a T b s ts → length ts ≤ n * m.size)
    × ((b : ℕ) → Stands G m a b → (ts : List Triple) × PairShown G m a T b ts)

-- A last step changes where it names another triple, comes after another arrival or the start in an arrival's stead or the reverse, and where
-- the arrival gets or loses it. A new last step further back is no change of this one.
abbrev pub StepChanges : Table → Table → ℕ → ℕ → Type 0
StepChanges T T' b s = T.last b s ≢ T'.last b s

-- An arrival's time rises where it has a time after, and had a lesser one or none before.
abbrev pub TimeRises : Links → Links → Meaning → ℕ → ℕ → ℕ → Type 0
TimeRises G G' m a b s = (g' : ℕ) × ArrivalTime G' m a b s g' × ((g : ℕ) → ArrivalTime G m a b s g → g < g')

-- An arrival's shown path breaks where a link of it counted before and does not count after.
abbrev pub PathBreaks : Links → Links → Meaning → ℕ → Table → ℕ → ℕ → Type 0
PathBreaks G G' m a T b s = (ts : List Triple) × Shown G m a T b s ts × Any (λ t. IsSome (G t) × IsNone (G' t)) ts

-- From a call's entry to its exit a last step changes only where its arrival's time rises, or the path that the arrival showed breaks. The
-- table of the start is T over the links G that count at the entry, and T' over G' at the exit.
abbrev pub KeepsSteps : Meaning → ℕ → Links → Table → Links → Table → Type 0
KeepsSteps m a G T G' T' = (b s : ℕ) → StepChanges T T' b s → TimeRises G G' m a b s ⊎ PathBreaks G G' m a T b s

-- So a table that did not change has kept its steps. Where no link stops counting, a step changes only where its arrival's time rises; and where
-- no link begins to count or gets another time, only where the path that its arrival showed breaks.
abbrev pub StepsLaw : Type 0
StepsLaw =
    (m : Meaning) (a : ℕ) (G G' : Links) (T T' : Table) →
    KeepsSteps m a G T G' T
    × (KeepsSteps m a G T G' T' → ((t : Triple) → IsSome (G t) → IsSome (G' t)) → (b s : ℕ) → StepChanges T T' b s → TimeRises G G' m a b s)
    × (Right G m a T → KeepsSteps m a G T G' T' → ((t : Triple) → IsSome (G' t) → G' t ≡ G t) → (b s : ℕ) → StepChanges T T' b s → PathBreaks G G' m a T b s)
