-- The plain watch: what it holds, its calls with their refusals in order, and what it then tells. It works everything out anew.
use Rattle.std.specs.Prelude.{ℕ, ◌+◌, ◌-◌, ◌*◌, min, Bool, if◌then◌else◌, not, ◌&&◌, ◌||◌, List, [], ◌∷◌, count_by, sum_by, is_some, is_none, Some, None, Option, option_map, ◌==◌, nat_le, nat_lt}
use Rattle.std.specs.List.{range_with_len}
use Rattle.query.specs.Meaning.{Meaning, too_many, last_label}
use Rattle.paths.specs.Numbers.{idle_number, open_number, points_number, window_number, states_number, arrivals_number, report_number, point_number, label_number, room_number, not_kept_number, clock_back_number, last_clock_number, entered_number, tag_number, left_number}
use Rattle.paths.specs.Links.{Links, Triple, same, Windows, has_bad_window, is_kept, rank_of, most_points, last_clock}
use Rattle.paths.specs.Pairs.{Stands}

-- What an open watch holds: its number of points, windows and tag, the query's meaning, the clock, the kept links with their times, and how
-- many passes are out for each point.
pub record Held : Type 0 where
  pub n : ℕ
  pub windows : Windows
  pub tag : ℕ
  pub query : Meaning
  pub clock : ℕ
  pub links : Links
  pub passes : ℕ → ℕ

-- A watch is idle, without any of these, until it is opened.
pub data Plain : Type 0 where
  idle : Plain
  opened : Held → Plain

-- How many passes a point may have out.
abbrev pub most_passes : ℕ
most_passes = 1

-- A point is in maintenance while a pass is out for it.
abbrev pub in_maintenance : Held → ℕ → Bool
in_maintenance h p = nat_lt 0 (h.passes p)

-- A kept link counts, by its rank, while neither end is in maintenance.
abbrev pub counting : Held → Links
counting h t = if in_maintenance h t.from || in_maintenance h t.to then None else option_map (rank_of h.windows t) (h.links t)

-- Which pairs stand: they are found anew from the counting links. Idle, there are none.
abbrev pub Standing : Plain → ℕ → ℕ → Type 0
Standing idle a b = ⊥
Standing (opened h) a b = Stands (counting h) h.query a b

-- What is asked of an open watch, each with its arguments: of a pass its tag and point.
pub data Request : Type 0 where
  adding : (link : Triple) → Request
  dropping : (link : Triple) → Request
  advancing : (clock : ℕ) → Request
  entering : (point : ℕ) → Request
  leaving : (tag point : ℕ) → Request

-- A call is an opening, with the query's meaning, or a request with report memory of this length (room).
pub data Call : Type 0 where
  opening : (n : ℕ) → (windows : Windows) → (tag : ℕ) → Meaning → Call
  with_report : (room : ℕ) → Request → Call

-- Of its link records a watch uses at most this many, the first ones.
abbrev pub most_links : ℕ
most_links = 4096

-- How many records the watch's link memory and arrival memory have.
pub record Memory : Type 0 where
  pub links : ℕ
  pub arrivals : ℕ

abbrev pub capacity : Memory → ℕ
capacity memory = min memory.links most_links

-- A refusal's condition and its number.
pub record RefusalCase : Type 0 where
  pub holds : Bool
  pub number : ℕ

abbrev pub refuse : Bool → ℕ → RefusalCase
refuse b k = record { holds = b; number = k }

-- Refusals are tried in order.
abbrev pub first_refusal : List RefusalCase → Option ℕ
first_refusal [] = None
first_refusal (r ∷ rs) = if r.holds then Some r.number else first_refusal rs

-- The points of a watch, and the labels.
abbrev pub points : Held → List ℕ
points h = range_with_len 0 h.n

abbrev pub labels : List ℕ
labels = range_with_len 0 (last_label + 1)

-- How many links are kept: over all triples of points and labels.
abbrev pub kept_links : Held → ℕ
kept_links h = sum_by (λ a. sum_by (λ b. count_by (λ l. is_some (h.links (record { from = a; to = b; label = l }))) labels) (points h)) (points h)

-- A point is n or above, or the label is above the last one.
abbrev pub bad_link : Held → Triple → List RefusalCase → List RefusalCase
bad_link h t rest = refuse (nat_le h.n t.from || nat_le h.n t.to) point_number ∷ refuse (nat_lt last_label t.label) label_number ∷ rest

-- The refusals of an opening of an idle watch, in order.
abbrev pub open_refusals : ℕ → ℕ → Windows → ℕ → List RefusalCase
open_refusals arrivals n windows size =
    refuse (n == 0 || nat_lt most_points n) points_number ∷
    refuse (has_bad_window windows) window_number ∷
    refuse (size == too_many) states_number ∷
    refuse (nat_lt arrivals (n * n * size)) arrivals_number ∷ []

-- Those of each request of an open watch.
abbrev pub request_refusals : Memory → Held → Request → List RefusalCase
request_refusals memory h (adding t) = bad_link h t (refuse (is_none (h.links t) && kept_links h == capacity memory) room_number ∷ [])
request_refusals memory h (dropping t) = bad_link h t (refuse (is_none (h.links t)) not_kept_number ∷ [])
request_refusals memory h (advancing clock) = refuse (nat_lt last_clock clock) last_clock_number ∷ refuse (nat_lt clock h.clock) clock_back_number ∷ []
request_refusals memory h (entering p) = refuse (nat_le h.n p) point_number ∷ refuse (nat_le most_passes (h.passes p)) entered_number ∷ []
request_refusals memory h (leaving tag p) = refuse (not (tag == h.tag)) tag_number ∷ refuse (not (in_maintenance h p)) left_number ∷ []

-- The number of the first refusal that holds, or none. Report memory is too short where it has fewer than n × n words.
abbrev pub refusal : Memory → Plain → Call → Option ℕ
refusal memory idle (opening n windows tag query) = first_refusal (open_refusals memory.arrivals n windows query.size)
refusal memory idle (with_report room request) = Some idle_number
refusal memory (opened h) (opening n windows tag query) = Some open_number
refusal memory (opened h) (with_report room request) = first_refusal (refuse (nat_lt room (h.n * h.n)) report_number ∷ request_refusals memory h request)

-- A link that is past its time is not kept any longer.
abbrev pub unless_past : Windows → Triple → (clock : ℕ) → Option ℕ → Option ℕ
unless_past windows t clock None = None
unless_past windows t clock (Some time) = if is_kept windows t clock time then Some time else None

-- What an accepted request makes of the watch.
abbrev pub changed : Held → Request → Held
changed h (adding t) = record h { links = λ u. if same u t then Some h.clock else h.links u }
changed h (dropping t) = record h { links = λ u. if same u t then None else h.links u }
changed h (advancing clock) = record h { clock = clock; links = λ u. unless_past h.windows u clock (h.links u) }
changed h (entering p) = record h { passes = λ q. if q == p then h.passes q + 1 else h.passes q }
changed h (leaving tag p) = record h { passes = λ q. if q == p then h.passes q - 1 else h.passes q }

-- And what an accepted call makes of it.
abbrev pub after : Plain → Call → Plain
after idle (opening n windows tag query) = opened (record { n = n; windows = windows; tag = tag; query = query; clock = 0; links = λ _. None; passes = λ _. 0 })
after (opened h) (with_report room request) = opened (changed h request)
after s call = s
