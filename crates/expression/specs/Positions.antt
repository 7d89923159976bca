-- The letters of a tree by their position: numbered from the left, after the k letters that come before the tree. These are the sets from
-- which the position automaton is made.
use Rattle.std.specs.Prelude.{ℕ, ◌+◌, Bool, true, false, ◌&&◌, ◌||◌, ◌==◌}
use Rattle.expression.specs.Language.{Tree, letter, either, then, star, plus, maybe}

-- How many letters a tree has.
abbrev pub letter_count : Tree → ℕ
letter_count (letter l) = 1
letter_count (either s t) = letter_count s + letter_count t
letter_count (then s t) = letter_count s + letter_count t
letter_count (star t) = letter_count t
letter_count (plus t) = letter_count t
letter_count (maybe t) = letter_count t

-- Whether nothing will do.
abbrev pub may_be_empty : Tree → Bool
may_be_empty (letter l) = false
may_be_empty (either s t) = may_be_empty s || may_be_empty t
may_be_empty (then s t) = may_be_empty s && may_be_empty t
may_be_empty (star t) = true
may_be_empty (plus t) = may_be_empty t
may_be_empty (maybe t) = true

-- Whether the letter at p may come first.
abbrev pub comes_first : Tree → ℕ → ℕ → Bool
comes_first (letter l) k p = p == k + 1
comes_first (either s t) k p = comes_first s k p || comes_first t (k + letter_count s) p
comes_first (then s t) k p = comes_first s k p || (may_be_empty s && comes_first t (k + letter_count s) p)
comes_first (star t) k p = comes_first t k p
comes_first (plus t) k p = comes_first t k p
comes_first (maybe t) k p = comes_first t k p

-- Whether it may come last.
abbrev pub comes_last : Tree → ℕ → ℕ → Bool
comes_last (letter l) k p = p == k + 1
comes_last (either s t) k p = comes_last s k p || comes_last t (k + letter_count s) p
comes_last (then s t) k p = comes_last t (k + letter_count s) p || (may_be_empty t && comes_last s k p)
comes_last (star t) k p = comes_last t k p
comes_last (plus t) k p = comes_last t k p
comes_last (maybe t) k p = comes_last t k p

-- Whether the letter at q may come directly after the letter at p.
abbrev pub comes_after : Tree → ℕ → ℕ → ℕ → Bool
comes_after (letter l) k p q = false
comes_after (either s t) k p q = comes_after s k p q || comes_after t (k + letter_count s) p q
comes_after (then s t) k p q = (comes_after s k p q || comes_after t (k + letter_count s) p q) || (comes_last s k p && comes_first t (k + letter_count s) q)
comes_after (star t) k p q = comes_after t k p q || (comes_last t k p && comes_first t k q)
comes_after (plus t) k p q = comes_after t k p q || (comes_last t k p && comes_first t k q)
comes_after (maybe t) k p q = comes_after t k p q
