-- From a tape's bytes to its words.
use Rattle.std.specs.Prelude.{◌≡◌, ℕ, ◌+◌, ◌*◌, ◌/◌, ◌<◌, ◌≤◌, List, [], ◌∷◌, length, take, Ok, Err, Result}
use Rattle.paths.specs.Words.{PutsInFront}
use Rattle.records.specs.declared.fault.TapeFault.{TapeFault}
use Rattle.records.specs.declared.fault.TapeFault.TheVariants.{TooLong}

-- Four bytes make a word, low byte first.
abbrev pub word_of_bytes : ℕ → ℕ → ℕ → ℕ → ℕ
word_of_bytes a b c d = a + 256 * (b + 256 * (c + 256 * d))

-- Fewer than four bytes at the end make no word.
abbrev pub words_of : List ℕ → List ℕ
words_of [] = []
words_of (a ∷ []) = []
words_of (a ∷ b ∷ []) = []
words_of (a ∷ b ∷ c ∷ []) = []
words_of (a ∷ b ∷ c ∷ d ∷ bytes) = word_of_bytes a b c d ∷ words_of bytes

-- A tape has at most this many words, and so this many bytes.
abbrev pub most_tape_words : ℕ
most_tape_words = 2048

abbrev pub most_bytes : ℕ
most_bytes = 4 * most_tape_words

-- The words are put in front of the memory, as many as it has room for, and their count in all is answered. A tape that is too long changes
-- nothing.
abbrev pub Loads : List ℕ → List ℕ → List ℕ → Result ℕ TapeFault → Type 0
Loads bytes memory memory' (Ok count) =
    (length bytes ≤ most_bytes) × (count ≡ length bytes / 4) × PutsInFront (take (length memory) (words_of bytes)) memory memory'
Loads bytes memory memory' (Err f) = (most_bytes < length bytes) × (f ≡ TooLong) × (memory' ≡ memory)
