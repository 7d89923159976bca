-- The words in which an advance and a link's add are written, and words that are put into memory.
use Rattle.std.specs.Prelude.{◌≡◌, ℕ, ◌+◌, ◌*◌, ◌<◌, ◌≤◌, List, ◌++◌, length, drop}
use Rattle.query.specs.Meaning.{last_label}
use Rattle.paths.specs.Links.{Triple}

-- An advance is 0xA0000000, with the new clock in the low 28 bits.
abbrev pub advance_word : ℕ → ℕ
advance_word clock = 0xA0000000 + clock

-- A triple in bits: the to point in bits 0 to 7, the from point in bits 8 to 15, and the label from bit 16 on.
abbrev pub triple_bits : Triple → ℕ
triple_bits t = 65536 * t.label + 256 * t.from + t.to

-- A triple has a word where its points fit into eight bits each and its label is a label.
pub record HasWord (t : Triple) : Type 0 where
  pub from : t.from < 256
  pub to : t.to < 256
  pub label : t.label ≤ last_label

-- An add is 0xB0000000 with the triple's bits.
abbrev pub add_word : Triple → ℕ
add_word t = 0xB0000000 + triple_bits t

-- From the memory before to the memory after: these numbers stand at its front, and the rest of it is as it was.
pub record PutsInFront (xs memory memory' : List ℕ) : Type 0 where
  pub room : length xs ≤ length memory
  pub changed : memory' ≡ xs ++ drop (length xs) memory
