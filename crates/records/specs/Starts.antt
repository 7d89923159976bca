-- What running a tape's start answers.
use Rattle.std.specs.Prelude.{◌≡◌, ℕ, ◌+◌, List, length, Some, None, Ok, Err, Option, Result}
use Rattle.expression.specs.declared.fault.Fault.{Fault}
use Rattle.expression.specs.Reading.{WellFormed, Fills}
use Rattle.expression.specs.Scan.{reading_fault, letters_of}
use Rattle.watch.specs.declared.refusal.Refusal.{Refusal}
use Rattle.paths.specs.Plain.{first_refusal, open_refusals}
use Rattle.watch.specs.Refusals.{refusal_number}
use Rattle.records.specs.declared.fault.TapeFault.{TapeFault}
use Rattle.records.specs.declared.fault.TapeFault.TheVariants.{Expression}
use Rattle.records.specs.declared.fault.RunFault.{RunFault}
use Rattle.records.specs.declared.fault.RunFault.TheVariants.{Tape, Watch}
use Rattle.records.specs.declared.start.Begun.{Begun}
use Rattle.records.specs.Records.{PlainStart, plain_start, start_words, BeginsWith, BeginsWithNone}

-- The program has 2,048 arrival records.
abbrev pub arrivals : ℕ
arrivals = 2048

-- The tape begins with a start whose expression can be read: what the watch is opened with is the start's, the machine is its expression's, and
-- the place is the one after the start.
pub record IsRead (ws : List ℕ) (b : Begun) : Type 0 where
  pub expression : List ℕ
  pub begins : BeginsWith (plain_start b.opening expression) ws
  pub reads : reading_fault expression ≡ None
  pub well_formed : WellFormed expression
  pub fills : Fills expression b.machine
  pub place : b.place ≡ length (start_words (plain_start b.opening expression))

-- The tape begins with a start whose expression is refused.
pub record Misread (ws : List ℕ) (f : Fault) : Type 0 where
  pub start : PlainStart
  pub begins : BeginsWith start ws
  pub refused : reading_fault start.expression ≡ Some f

-- The fault of a start that can't be read: its expression's where the tape begins with a start, and else its own.
abbrev pub NotRead : List ℕ → TapeFault → Type 0
NotRead ws (Expression f) = Misread ws f
NotRead ws f = BeginsWithNone ws f

-- A start that can be read, or its fault.
abbrev pub ReadsStart : List ℕ → Result Begun TapeFault → Type 0
ReadsStart ws (Ok b) = IsRead ws b
ReadsStart ws (Err f) = NotRead ws f

-- The number of the refusal, if there is one, when a watch of n points is opened over the expression's machine and the program's arrival records.
abbrev pub opening_refusal : PlainStart → Option ℕ
opening_refusal s = first_refusal (open_refusals arrivals s.n s.window (length (letters_of s.expression) + 1))

-- A start that can be read is refused where the opening is.
pub record NotOpened (ws : List ℕ) (x : Refusal) : Type 0 where
  pub start : PlainStart
  pub begins : BeginsWith start ws
  pub reads : reading_fault start.expression ≡ None
  pub refused : opening_refusal start ≡ Some (refusal_number x)

-- A start is refused by its own fault or its expression's, or else by the opening's.
abbrev pub Begins : List ℕ → Result Begun RunFault → Type 0
Begins ws (Ok b) = (h : IsRead ws b) × (opening_refusal (plain_start b.opening h.expression) ≡ None)
Begins ws (Err (Tape f)) = NotRead ws f
Begins ws (Err (Watch x)) = NotOpened ws x
