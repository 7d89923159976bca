-- What reading an expression answers.
use Rattle.std.specs.Prelude.{◌≡◌, ℕ, ◌+◌, ◌<◌, ◌≤◌, Bool, ◌&&◌, ◌||◌, ◌⊎◌, List, length, Some, None, Ok, Err, IsTrue, ◌↔◌, Result, ◌==◌, slice_index}
use Rattle.query.specs.Words.{Accepts}
use Rattle.expression.specs.declared.fault.Cause.{Cause}
use Rattle.expression.specs.declared.fault.Cause.TheVariants.{WordCount, NotAWord, NoPiece, TooManyLetters, TooDeep, Unfinished}
use Rattle.expression.specs.declared.fault.Fault.{Fault}
use Rattle.expression.specs.declared.machine.Machine.{Machine}
use Rattle.expression.specs.Grammar.{HasTree, Denotes}
use Rattle.expression.specs.Language.{Tree}
use Rattle.expression.specs.Machines.{machine_meaning, linked, label_of}
use Rattle.expression.specs.Positions.{may_be_empty, comes_first, comes_last, comes_after}
use Rattle.expression.specs.Scan.{reading_fault, verdict, start, letters_of, Shallow, most_words, most_letters}

-- The words are an expression: they have a tree, and only one, and denote some word.
pub record WellFormed (ws : List ℕ) : Type 0 where
  pub tree : (t : Tree) × HasTree ws t × ((s : Tree) → HasTree ws s → s ≡ t)
  pub some : (w : List ℕ) × Denotes ws w

-- The machine is that of the words: it accepts a word exactly where they denote it. It is the position automaton: there is a state for each
-- letter of the words besides the start; state t has the label of the t-th letter from the left; moves lead from the start to the letters
-- that may come first, and from a letter to those that may come directly after it; and the letters that may come last accept, with the start
-- where nothing will do.
pub record Fills (ws : List ℕ) (m : Machine) : Type 0 where
  pub accepts : (w : List ℕ) → Accepts (machine_meaning m) w ↔ Denotes ws w
  pub starts : (t : Tree) → HasTree ws t → (p : ℕ) → linked m 0 p ≡ comes_first t 0 p
  pub follows : (t : Tree) → HasTree ws t → (s p : ℕ) → 1 ≤ s → linked m s p ≡ comes_after t 0 s p
  pub ends : (t : Tree) → HasTree ws t → (s : ℕ) → (machine_meaning m).accepting s ≡ (comes_last t 0 s || (may_be_empty t && s == 0))
  pub size : (machine_meaning m).size ≡ length (letters_of ws) + 1
  pub labels : (t : ℕ) → t < length (letters_of ws) → label_of m (t + 1) ≡ slice_index (letters_of ws) t

-- The words are no expression.
abbrev pub NoTree : List ℕ → Type 0
NoTree ws = (t : Tree) → HasTree ws t → ⊥

-- What each cause says of the words: they are no expression, or they pass a limit.
abbrev pub Why : Cause → List ℕ → Type 0
Why WordCount ws = (length ws ≡ 0) ⊎ (most_words < length ws)
Why NotAWord ws = NoTree ws
Why NoPiece ws = NoTree ws
Why TooManyLetters ws = most_letters < length (letters_of ws)
Why TooDeep ws = Shallow 0 ws → ⊥
Why Unfinished ws = NoTree ws

-- The words are within the limits of an expression.
pub record Limited (ws : List ℕ) : Type 0 where
  pub words : length ws ≤ most_words
  pub letters : length (letters_of ws) ≤ most_letters
  pub shallow : Shallow 0 ws

-- A reading is refused with the fault of the pass from the left, which says why; an expression within the limits never is.
pub record Refused (ws : List ℕ) (f : Fault) : Type 0 where
  pub fault : reading_fault ws ≡ Some f
  pub why : Why f.cause ws
  pub never : (t : Tree) → HasTree ws t → Limited ws → ⊥

-- Words with no fault are an expression, and fill the machine. Words with a fault are refused, and the machine is as it was.
abbrev pub ReadingAnswers : List ℕ → Machine → Machine → Result (Unit {0}) Fault → Type 0
ReadingAnswers ws m m' (Ok _) = (reading_fault ws ≡ None) × WellFormed ws × Fills ws m'
ReadingAnswers ws m m' (Err f) = Refused ws f × (m' ≡ m)

-- The same, of a count of words that is within the limit.
abbrev pub MachineOf : List ℕ → Result Machine Fault → Type 0
MachineOf ws (Ok m) = (verdict 0 start ws ≡ None) × WellFormed ws × Fills ws m
MachineOf ws (Err f) = verdict 0 start ws ≡ Some f

-- Whether an expression's language has a word: yes exactly where the words denote it, and words with a fault are refused.
abbrev pub Membership : List ℕ → List ℕ → Result Bool Fault → Type 0
Membership ws w (Ok b) = (reading_fault ws ≡ None) × (IsTrue b ↔ Denotes ws w)
Membership ws w (Err f) = Refused ws f
