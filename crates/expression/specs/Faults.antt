-- The causes for which an expression is refused.
use Rattle.std.specs.Prelude.{ℕ}
use Rattle.expression.specs.declared.fault.Cause.{Cause}
use Rattle.expression.specs.declared.fault.Cause.TheVariants.{WordCount, NotAWord, NoPiece, TooManyLetters, TooDeep, Unfinished}

-- The number by which a cause is told.
abbrev pub cause_number : Cause → ℕ
cause_number WordCount = 20
cause_number NotAWord = 21
cause_number NoPiece = 22
cause_number TooManyLetters = 23
cause_number TooDeep = 24
cause_number Unfinished = 25
