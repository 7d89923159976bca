-- What every tree has: a word in its language, and words that spell it.
use Rattle.std.proofs.Common.{◌≡◌, ℕ, true, List, [], ◌∷◌, ◌++◌, length, refl, inl, arith}
use Rattle.std.proofs.lemmas.Bool.{false≢true}
use Rattle.expression.specs.Grammar.{Expression, HasTree, last_sequence, bar_next}
use Rattle.expression.specs.Language.{Tree, Language, letter, either, then, star, plus, maybe, none}
use Rattle.expression.specs.Readers.{begins_piece}
use Rattle.expression.proofs.Unique.{ahead, sequence_begins}

pub some_word : (t : Tree) → (w : List ℕ) × Language t w
some_word (letter l) = (l ∷ [], refl)
some_word (either s t) = let x = some_word s in (x.0, inl x.1)
some_word (then s t) = let x = some_word s in let y = some_word t in (x.0 ++ y.0, (x.0, y.0, refl, x.1, y.1))
some_word (star t) = ([], none)
some_word (plus t) = let x = some_word t in (x.0 ++ [], (x.0, [], refl, x.1, none))
some_word (maybe t) = ([], inl refl)

-- An expression begins with a letter or an open.
begins : {ws rest : List ℕ} {t : Tree} → Expression ws rest t → begins_piece (ahead ws) ≡ true
begins (last_sequence s) = sequence_begins s
begins (bar_next s e x) = sequence_begins s

pub no_words : (ws : List ℕ) → length ws ≡ 0 → (t : Tree) → HasTree ws t → ⊥
no_words [] e t has = false≢true (begins has)
no_words (w ∷ ws) e t has = omega arith
