-- Worked cases of what expressions denote.
use Rattle.std.specs.Prelude.{ℕ, ◌+◌, [], ◌∷◌}
use Rattle.expression.specs.Grammar.{Denotes}

-- The words of the symbols, and a letter's by its label.
abbrev pub letter_word : ℕ → ℕ
letter_word l = 0x10000000 + l

abbrev pub open_word : ℕ
open_word = 0x20000000

abbrev pub close_word : ℕ
close_word = 0x30000000

abbrev pub bar_word : ℕ
bar_word = 0x40000000

abbrev pub star_word : ℕ
star_word = 0x50000000

abbrev pub plus_word : ℕ
plus_word = 0x60000000

-- With a letter written as its label:
pub record ExpressionCases : Type 0 where
  -- 1 has the word (1), and not the empty word; 1 star has the empty word.
  pub letter_itself : Denotes (letter_word 1 ∷ []) (1 ∷ [])
  pub letter_not_empty : Denotes (letter_word 1 ∷ []) [] → ⊥
  pub star_empty : Denotes (letter_word 1 ∷ star_word ∷ []) []
  -- 1 2 plus has (1 2 2), and not (1 2 1 2), since a plus is of its piece; open 1 2 close plus has (1 2 1 2).
  pub plus_last : Denotes (letter_word 1 ∷ letter_word 2 ∷ plus_word ∷ []) (1 ∷ 2 ∷ 2 ∷ [])
  pub plus_not_both : Denotes (letter_word 1 ∷ letter_word 2 ∷ plus_word ∷ []) (1 ∷ 2 ∷ 1 ∷ 2 ∷ []) → ⊥
  pub group_plus : Denotes (open_word ∷ letter_word 1 ∷ letter_word 2 ∷ close_word ∷ plus_word ∷ []) (1 ∷ 2 ∷ 1 ∷ 2 ∷ [])
  -- 1 bar 2 3 does not have (1 3), since a bar parts whole sequences.
  pub bar_parts : Denotes (letter_word 1 ∷ bar_word ∷ letter_word 2 ∷ letter_word 3 ∷ []) (1 ∷ 3 ∷ []) → ⊥
