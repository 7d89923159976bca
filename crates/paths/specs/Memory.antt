-- What a slice of link records and a slice of arrival records mean.
use Rattle.std.specs.Prelude.{◌≡◌, ℕ, ◌+◌, ◌*◌, ◌<◌, ◌≤◌, if◌then◌else◌, ◌&&◌, ◌≢◌, ◌↔◌, List, length, take, find, slice_index_or, slice_set, All, AllPairs, Contains, Some, None, Option, IfSome, option_map, ◌==◌, nat_lt}
use Rattle.query.specs.Meaning.{most_states}
use Rattle.paths.specs.Links.{Links, Triple, same}
use Rattle.paths.specs.Arrivals.{Step}
use Rattle.paths.specs.Tables.{Table}

-- A link record has a link's triple (from, to and label) and its time.
pub record LinkRecord : Type 0 where
  pub link : Triple
  pub time : ℕ

-- The first `count` records of a slice are in use.
abbrev pub in_use : List LinkRecord → (count : ℕ) → List LinkRecord
in_use records count = take count records

-- The links that the slice means: of a triple the time of the first record in use that has it, and none where no record in use has it.
abbrev pub links_of : List LinkRecord → (count : ℕ) → Links
links_of records count t = option_map (λ r. r.time) (find (λ r. same t r.link) (in_use records count))

-- The slice is lawful where it has so many records, and no two in use have the same triple.
pub record LawfulLinks (records : List LinkRecord) (count : ℕ) : Type 0 where
  pub there : count ≤ length records
  pub once : AllPairs (λ r q. r.link ≢ q.link) (in_use records count)

-- So a lawful slice means just its records in use: a triple has a time exactly where a record in use has both, and has none exactly where no
-- record in use has the triple.
abbrev pub LinkMemoryLaw : Type 0
LinkMemoryLaw =
    (records : List LinkRecord) (count : ℕ) → LawfulLinks records count → (t : Triple) →
    ((time : ℕ) → (links_of records count t ≡ Some time) ↔ Contains (in_use records count) (record { link = t; time = time }))
    × ((links_of records count t ≡ None) ↔ All (λ r. r.link ≢ t) (in_use records count))

-- An arrival record has the arrival's rank, which is 0 where it is not reached and else its time plus 1; the from point and the label of its
-- last step's link, whose to point is the arrival's end point; and the state of the arrival before, or a mark for the start.
pub record ArrivalRecord : Type 0 where
  pub rank : ℕ
  pub from : ℕ
  pub label : ℕ
  pub before : ℕ

-- The mark is the first number that is no state.
abbrev pub start_mark : ℕ
start_mark = most_states

abbrev pub before_of : ℕ → Option ℕ
before_of q = if q == start_mark then None else Some q

-- The last step that a record says, for an arrival at the end point b. One of rank 0 has none.
abbrev pub last_of : (b : ℕ) → ArrivalRecord → Option Step
last_of b r =
    if r.rank == 0 then None else Some (record { link = record { from = r.from; to = b; label = r.label }; before = before_of r.before })

-- A record can say each last step into its end point that comes from the start or from a state of a query, with each rank but 0.
abbrev pub StepRecordLaw : Type 0
StepRecordLaw =
    (rank b : ℕ) (step : Step) → 0 < rank → step.link.to ≡ b → IfSome step.before (λ q. q < most_states) →
    (r : ArrivalRecord) × (r.rank ≡ rank) × (last_of b r ≡ Some step)

-- Where the record of the start a, the end point b and the state s lies, for n points and a query of this size.
abbrev pub place_of : (n size a b s : ℕ) → ℕ
place_of n size a b s = (a * n + b) * size + s

-- There is such a record where both points are below n and the state is below the size.
pub record HasPlace (n size a b s : ℕ) : Type 0 where
  pub start : a < n
  pub end : b < n
  pub state : s < size

-- The record of an arrival that is not reached.
abbrev pub not_reached : ArrivalRecord
not_reached = record { rank = 0; from = 0; label = 0; before = start_mark }

-- An arrival's record in the slice. An arrival that has no place is not reached.
abbrev pub arrival_at : List ArrivalRecord → (n size a b s : ℕ) → ArrivalRecord
arrival_at records n size a b s =
    if nat_lt a n && (nat_lt b n && nat_lt s size) then slice_index_or records (place_of n size a b s) not_reached else not_reached

-- The table of the start a that the slice means.
abbrev pub table_of : List ArrivalRecord → (n size a : ℕ) → Table
table_of records n size a = record { rank = λ b s. (arrival_at records n size a b s).rank; last = λ b s. last_of b (arrival_at records n size a b s) }

-- Places are within n × n × size records, and each is that of one start, end point and state.
abbrev pub PlaceLaw : Type 0
PlaceLaw =
    (n size a b s : ℕ) → HasPlace n size a b s →
    (place_of n size a b s < n * n * size)
    × ((c d q : ℕ) → HasPlace n size c d q → place_of n size a b s ≡ place_of n size c d q → (a ≡ c) × (b ≡ d) × (s ≡ q))

-- What has no place has rank 0, and what has rank 0 has no last step.
abbrev pub NoPlaceLaw : Type 0
NoPlaceLaw =
    (records : List ArrivalRecord) (n size a b s : ℕ) →
    ((¬ HasPlace n size a b s) → (table_of records n size a).rank b s ≡ 0)
    × ((table_of records n size a).rank b s ≡ 0 → (table_of records n size a).last b s ≡ None)

-- A record that is written at its place says the rank and the last step there. Every other arrival's record stays as it was, and so does every
-- other start's table.
abbrev pub ArrivalWriteLaw : Type 0
ArrivalWriteLaw =
    (records : List ArrivalRecord) (n size a b s : ℕ) (r : ArrivalRecord) → n * n * size ≤ length records → HasPlace n size a b s →
    (written : List ArrivalRecord) → written ≡ slice_set records (place_of n size a b s) r →
    ((table_of written n size a).rank b s ≡ r.rank)
    × ((table_of written n size a).last b s ≡ last_of b r)
    × ((c d q : ℕ) → ¬ ((c ≡ a) × (d ≡ b) × (q ≡ s)) → arrival_at written n size c d q ≡ arrival_at records n size c d q)
    × ((c : ℕ) → c ≢ a → table_of written n size c ≡ table_of records n size c)
