-- What opening a watch answers: the first refusal of the plain watch that holds, by its number, or none.
use Rattle.std.specs.Prelude.{◌≡◌, ℕ, Some, None, Ok, Err, Option, Result}
use Rattle.paths.specs.Plain.{first_refusal, open_refusals}
use Rattle.watch.specs.declared.refusal.Refusal.{Refusal}
use Rattle.watch.specs.Refusals.{refusal_number}

-- The number that an answer tells, if it is a refusal.
abbrev pub number_of_answer : Result (Unit {0}) Refusal → Option ℕ
number_of_answer (Ok x) = None
number_of_answer (Err r) = Some (refusal_number r)

-- By the number of arrival records and of points, the window and the query's size.
abbrev pub OpeningAnswers : ℕ → ℕ → ℕ → ℕ → Result (Unit {0}) Refusal → Type 0
OpeningAnswers arrivals n window size r = number_of_answer r ≡ first_refusal (open_refusals arrivals n window size)
