-- The grammar, as a relation between a list of expression words and a tree.
-- `Expression ws rest t` says that the words ws begin with an expression of tree t, and that rest is what follows it; and so for the other levels.
use Rattle.std.specs.Prelude.{◌≡◌, ℕ, List, [], ◌∷◌, Some}
use Rattle.expression.specs.declared.symbol.Symbol.TheVariants.{Letter, Open, Close, Bar, Star, Plus, Maybe}
use Rattle.expression.specs.Language.{Tree, letter, either, then, star, plus, maybe, Language}
use Rattle.expression.specs.Symbols.{symbol_of}

-- Any number of stars, pluses and maybes after a part of tree s make a part of tree t.
pub data Repeats : List ℕ → List ℕ → Tree → Tree → Type 0 where
  done : {ws : List ℕ} {t : Tree} → Repeats ws ws t t
  star_next : {w : ℕ} {ws rest : List ℕ} {s t : Tree} → symbol_of w ≡ Some Star → Repeats ws rest (star s) t → Repeats (w ∷ ws) rest s t
  plus_next : {w : ℕ} {ws rest : List ℕ} {s t : Tree} → symbol_of w ≡ Some Plus → Repeats ws rest (plus s) t → Repeats (w ∷ ws) rest s t
  maybe_next : {w : ℕ} {ws rest : List ℕ} {s t : Tree} → symbol_of w ≡ Some Maybe → Repeats ws rest (maybe s) t → Repeats (w ∷ ws) rest s t

mutual
  -- An expression is sequences parted by bars.
  pub data Expression : List ℕ → List ℕ → Tree → Type 0 where
    last_sequence : {ws rest : List ℕ} {t : Tree} → Sequence ws rest t → Expression ws rest t
    bar_next : {w : ℕ} {ws more rest : List ℕ} {s t : Tree} → Sequence ws (w ∷ more) s → symbol_of w ≡ Some Bar → Expression more rest t → Expression ws rest (either s t)

  -- A sequence is one or more pieces.
  pub data Sequence : List ℕ → List ℕ → Tree → Type 0 where
    last_piece : {ws rest : List ℕ} {t : Tree} → Piece ws rest t → Sequence ws rest t
    piece_next : {ws more rest : List ℕ} {s t : Tree} → Piece ws more s → Sequence more rest t → Sequence ws rest (then s t)

  -- A piece is a letter or a group, with any number of stars, pluses and maybes after it.
  pub data Piece : List ℕ → List ℕ → Tree → Type 0 where
    piece : {ws more rest : List ℕ} {s t : Tree} → Atom ws more s → Repeats more rest s t → Piece ws rest t

  -- A letter has its label; a group is an expression between open and close.
  pub data Atom : List ℕ → List ℕ → Tree → Type 0 where
    letter_atom : {w l : ℕ} {rest : List ℕ} → symbol_of w ≡ Some (Letter l) → Atom (w ∷ rest) rest (letter l)
    group_atom : {w v : ℕ} {ws rest : List ℕ} {t : Tree} → symbol_of w ≡ Some Open → Expression ws (v ∷ rest) t → symbol_of v ≡ Some Close → Atom (w ∷ ws) rest t

-- The words are an expression of this tree.
abbrev pub HasTree : List ℕ → Tree → Type 0
HasTree ws t = Expression ws [] t

-- What a list of words denotes: the language of its tree. Words that are no expression denote no word.
abbrev pub Denotes : List ℕ → List ℕ → Type 0
Denotes ws w = (t : Tree) × HasTree ws t × Language t w
