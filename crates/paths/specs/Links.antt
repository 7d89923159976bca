-- Links, and for how long each is kept.
use Rattle.std.specs.Prelude.{ℕ, ◌+◌, Bool, ◌&&◌, ◌||◌, Option, ◌==◌, nat_lt}

-- A watch has at most this many points; they are 0 to n less 1.
abbrev pub most_points : ℕ
most_points = 64

-- The clock counts milliseconds from 0 to this; a window is 1 to this.
abbrev pub last_clock : ℕ
last_clock = 268435455

-- A link is told by its triple: the point it comes from, the point it leads to, and its label. From and to may be equal.
pub record Triple : Type 0 where
  pub from : ℕ
  pub to : ℕ
  pub label : ℕ

-- Whether two triples are the same.
abbrev pub same : Triple → Triple → Bool
same t u = t.from == u.from && (t.to == u.to && t.label == u.label)

-- The links that are kept, at most one for each triple, each with a number: its time, or how it ranks.
abbrev pub Links : Type 0
Links = Triple → Option ℕ

-- The windows of a watch: one for all links.
abbrev pub Windows : Type 0
Windows = ℕ

-- How long a link is kept.
abbrev pub window_of : Windows → Triple → ℕ
window_of windows t = windows

-- Whether a window is 0 or above the last clock.
abbrev pub has_bad_window : Windows → Bool
has_bad_window windows = windows == 0 || nat_lt last_clock windows

-- The first clock at which a link of this time is no longer kept.
abbrev pub leaves : Windows → Triple → (time : ℕ) → ℕ
leaves windows t time = time + window_of windows t

-- A link of this time is kept while the clock is short of that.
abbrev pub is_kept : Windows → Triple → (clock time : ℕ) → Bool
is_kept windows t clock time = nat_lt clock (leaves windows t time)

-- How a link of this time ranks among links: by its time.
abbrev pub rank_of : Windows → Triple → (time : ℕ) → ℕ
rank_of windows t time = time

-- The first clock at which what has this rank has ended, be it a link, a path, an arrival or a pair.
abbrev pub ends_at : Windows → (rank : ℕ) → ℕ
ends_at windows rank = rank + windows
