-- The numbers by which the refusals of the watch's calls are told. Each stands here once.
use Rattle.std.specs.Prelude.{ℕ}

-- The watch is idle; it is open already.
abbrev pub idle_number : ℕ
idle_number = 1

abbrev pub open_number : ℕ
open_number = 2

-- Of an opening: the number of points, the window, a query of too many states, too few arrival records.
abbrev pub points_number : ℕ
points_number = 3

abbrev pub window_number : ℕ
window_number = 4

abbrev pub states_number : ℕ
states_number = 5

abbrev pub arrivals_number : ℕ
arrivals_number = 6

-- Report memory is too short; a point is n or above; the label is above the last one.
abbrev pub report_number : ℕ
report_number = 7

abbrev pub point_number : ℕ
point_number = 8

abbrev pub label_number : ℕ
label_number = 9

-- There is no room for another link; the link is not kept.
abbrev pub room_number : ℕ
room_number = 10

abbrev pub not_kept_number : ℕ
not_kept_number = 11

-- The clock would go back; it would pass the last one.
abbrev pub clock_back_number : ℕ
clock_back_number = 12

abbrev pub last_clock_number : ℕ
last_clock_number = 13

-- The point is in maintenance already; the pass has another tag; the point is not in maintenance.
abbrev pub entered_number : ℕ
entered_number = 14

abbrev pub tag_number : ℕ
tag_number = 15

abbrev pub left_number : ℕ
left_number = 16

-- Path memory is too short; the pair does not stand.
abbrev pub path_memory_number : ℕ
path_memory_number = 17

abbrev pub standing_number : ℕ
standing_number = 18
