-- The watch's refusals.
use Rattle.std.specs.Prelude.{ℕ}
use Rattle.paths.specs.Numbers.{points_number, window_number, states_number, arrivals_number}
use Rattle.watch.specs.declared.refusal.Refusal.{Refusal}
use Rattle.watch.specs.declared.refusal.Refusal.TheVariants.{Points, Window, States, Arrivals}

-- The number by which a refusal is told.
abbrev pub refusal_number : Refusal → ℕ
refusal_number Points = points_number
refusal_number Window = window_number
refusal_number States = states_number
refusal_number Arrivals = arrivals_number
