-- Where and why an expression is refused: one pass over its words from the left, which stops at the first fault.
use Rattle.std.specs.Prelude.{◌≡◌, ℕ, ◌+◌, ◌-◌, ◌<◌, Bool, true, false, if◌then◌else◌, ◌||◌, List, [], ◌∷◌, ◌++◌, length, Some, None, Option, ◌==◌, nat_lt}
use Rattle.query.specs.Meaning.{most_states}
use Rattle.expression.specs.declared.fault.Cause.{Cause}
use Rattle.expression.specs.declared.fault.Cause.TheVariants.{WordCount, NotAWord, NoPiece, TooManyLetters, TooDeep, Unfinished}
use Rattle.expression.specs.declared.fault.Fault.{Fault}
use Rattle.expression.specs.declared.symbol.Symbol.{Symbol}
use Rattle.expression.specs.declared.symbol.Symbol.TheVariants.{Letter, Open, Close, Bar, Star, Plus, Maybe}
use Rattle.expression.specs.Symbols.{symbol_of}

-- An expression has at most this many words,
abbrev pub most_words : ℕ
most_words = 256

-- this many letters, one fewer than a query has states,
abbrev pub most_letters : ℕ
most_letters = most_states - 1

-- and this many brackets open at once.
abbrev pub most_open : ℕ
most_open = 16

-- What the pass knows at a word: how many opens are not closed, how many letters came, and whether a piece must begin.
pub record Scan : Type 0 where
  pub depth : ℕ
  pub letters : ℕ
  pub begins : Bool

-- Before the first word a piece must begin.
abbrev pub start : Scan
start = record { depth = 0; letters = 0; begins = true }

-- What is wrong with a symbol there, if anything is.
abbrev pub objection : Scan → Symbol → Option Cause
objection s (Letter l) = if nat_lt s.letters most_letters then None else Some TooManyLetters
objection s Open = if nat_lt s.depth most_open then None else Some TooDeep
objection s Close = if s.begins || s.depth == 0 then Some NoPiece else None
objection s Bar = if s.begins then Some NoPiece else None
objection s Star = if s.begins then Some NoPiece else None
objection s Plus = if s.begins then Some NoPiece else None
objection s Maybe = if s.begins then Some NoPiece else None

-- What the pass knows after a symbol.
abbrev pub onward : Scan → Symbol → Scan
onward s (Letter l) = record s { letters = s.letters + 1; begins = false }
onward s Open = record s { depth = s.depth + 1; begins = true }
onward s Close = record s { depth = s.depth - 1; begins = false }
onward s Bar = record s { begins = true }
onward s Star = s
onward s Plus = s
onward s Maybe = s

-- The fault of a cause at place p, if there is one; else whatever comes later.
abbrev pub unless : ℕ → Option Cause → Option Fault → Option Fault
unless p (Some c) later = Some (record { cause = c; place = p })
unless p None later = later

-- The fault at place p, where the word there stands for this symbol or for none; else whatever comes after the symbol.
abbrev pub judged : ℕ → Scan → Option Symbol → (Symbol → Option Fault) → Option Fault
judged p s None later = Some (record { cause = NotAWord; place = p })
judged p s (Some y) later = unless p (objection s y) (later y)

-- The first fault of the words from place p on, or none. At their end nothing may be open, and no piece may be due.
abbrev pub verdict : ℕ → Scan → List ℕ → Option Fault
verdict p s [] = unless p (if s.begins || nat_lt 0 s.depth then Some Unfinished else None) None
verdict p s (w ∷ ws) = judged p s (symbol_of w) (λ y. verdict (p + 1) (onward s y) ws)

-- The fault of a whole expression, or none.
abbrev pub reading_fault : List ℕ → Option Fault
reading_fault ws = unless 0 (if length ws == 0 || nat_lt most_words (length ws) then Some WordCount else None) (verdict 0 start ws)

-- The label of a letter, and nothing of another symbol.
abbrev pub labels_of_symbol : Option Symbol → List ℕ
labels_of_symbol None = []
labels_of_symbol (Some (Letter l)) = l ∷ []
labels_of_symbol (Some Open) = []
labels_of_symbol (Some Close) = []
labels_of_symbol (Some Bar) = []
labels_of_symbol (Some Star) = []
labels_of_symbol (Some Plus) = []
labels_of_symbol (Some Maybe) = []

-- The labels of the letters among the words, in order.
abbrev pub letters_of : List ℕ → List ℕ
letters_of [] = []
letters_of (w ∷ ws) = labels_of_symbol (symbol_of w) ++ letters_of ws

-- How many brackets are open after a symbol, where d were before it.
abbrev pub deeper : Option Symbol → ℕ → ℕ
deeper None d = d
deeper (Some (Letter l)) d = d
deeper (Some Open) d = d + 1
deeper (Some Close) d = d - 1
deeper (Some Bar) d = d
deeper (Some Star) d = d
deeper (Some Plus) d = d
deeper (Some Maybe) d = d

-- No open stands inside 16 unclosed ones, where d are unclosed before the words.
abbrev pub Shallow : ℕ → List ℕ → Type 0
Shallow d [] = Unit {0}
Shallow d (w ∷ ws) = (symbol_of w ≡ Some Open → d < most_open) × Shallow (deeper (symbol_of w) d) ws
