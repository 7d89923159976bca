-- The grammar gives a list of words at most one tree: from the left, each level ends where a symbol comes that it cannot take.
use Rattle.std.proofs.Common.{◌≡◌, ℕ, Bool, true, List, [], ◌∷◌, Some, None, Option, refl, ap, arith}
use Rattle.expression.specs.declared.symbol.Symbol.{Symbol}
use Rattle.expression.specs.Grammar.{Expression, Sequence, Piece, Atom, Repeats, last_sequence, bar_next, last_piece, piece_next, piece, letter_atom, group_atom, done, star_next, plus_next, maybe_next, HasTree}
use Rattle.expression.specs.Language.{Tree, either, then}
use Rattle.expression.specs.Readers.{after_piece, after_sequence, after_expression, begins_piece}
use Rattle.expression.specs.Symbols.{symbol_of}

-- The symbol that comes next, if the words go on with one.
abbrev pub ahead : List ℕ → Option Symbol
ahead [] = None
ahead (w ∷ ws) = symbol_of w

-- A test of the next symbol; nothing passes too.
abbrev passes : (Symbol → Bool) → Option Symbol → Bool
passes test None = true
passes test (Some y) = test y

-- What follows a level of the grammar.
abbrev Ends : (Symbol → Bool) → List ℕ → Type 0
Ends test ws = passes test (ahead ws) ≡ true

-- What may follow an expression may follow a sequence, and what may follow that may follow a piece.
wider : (ws : List ℕ) → Ends after_expression ws → Ends after_sequence ws
wider ws e = grind arith

widest : (ws : List ℕ) → Ends after_sequence ws → Ends after_piece ws
widest ws e = grind arith

-- A sequence begins as a piece does, which may follow a piece, but not a sequence.
atom_begins : {ws rest : List ℕ} {t : Tree} → Atom ws rest t → begins_piece (ahead ws) ≡ true
atom_begins (letter_atom e) = ap begins_piece e
atom_begins (group_atom e x c) = ap begins_piece e

piece_begins : {ws rest : List ℕ} {t : Tree} → Piece ws rest t → begins_piece (ahead ws) ≡ true
piece_begins (piece a r) = atom_begins a

pub sequence_begins : {ws rest : List ℕ} {t : Tree} → Sequence ws rest t → begins_piece (ahead ws) ≡ true
sequence_begins (last_piece p) = piece_begins p
sequence_begins (piece_next p s) = piece_begins p

after_one : {ws rest : List ℕ} {t : Tree} → Sequence ws rest t → Ends after_piece ws
after_one s = let start = sequence_begins s in grind arith

-- Two readings that leave the same and give the same tree.
abbrev Same : List ℕ → List ℕ → Tree → Tree → Type 0
Same r r' t t' = (r ≡ r') × (t ≡ t')

repeats_same : {ws r1 r2 : List ℕ} {s t1 t2 : Tree} → Repeats ws r1 s t1 → Repeats ws r2 s t2 → Ends after_piece r1 → Ends after_piece r2 → Same r1 r2 t1 t2
repeats_same done done e1 e2 = (refl, refl)
repeats_same (star_next e a) (star_next f b) e1 e2 = repeats_same a b e1 e2
repeats_same (plus_next e a) (plus_next f b) e1 e2 = repeats_same a b e1 e2
repeats_same (maybe_next e a) (maybe_next f b) e1 e2 = repeats_same a b e1 e2
repeats_same done (star_next f b) e1 e2 = grind arith
repeats_same done (plus_next f b) e1 e2 = grind arith
repeats_same done (maybe_next f b) e1 e2 = grind arith
repeats_same (star_next e a) done e1 e2 = grind arith
repeats_same (plus_next e a) done e1 e2 = grind arith
repeats_same (maybe_next e a) done e1 e2 = grind arith
repeats_same (star_next e a) (plus_next f b) e1 e2 = grind arith
repeats_same (star_next e a) (maybe_next f b) e1 e2 = grind arith
repeats_same (plus_next e a) (star_next f b) e1 e2 = grind arith
repeats_same (plus_next e a) (maybe_next f b) e1 e2 = grind arith
repeats_same (maybe_next e a) (star_next f b) e1 e2 = grind arith
repeats_same (maybe_next e a) (plus_next f b) e1 e2 = grind arith

mutual
  expression_same : {ws r1 r2 : List ℕ} {t1 t2 : Tree} → Expression ws r1 t1 → Expression ws r2 t2 → Ends after_expression r1 → Ends after_expression r2 → Same r1 r2 t1 t2
  expression_same {r1 = r1} {r2 = r2} (last_sequence a) (last_sequence b) e1 e2 = sequence_same a b (wider r1 e1) (wider r2 e2)
  expression_same {r1 = r1} (last_sequence a) (bar_next b f y) e1 e2 = let q = sequence_same a b (wider r1 e1) (ap (passes after_sequence) f) in grind arith
  expression_same {r2 = r2} (bar_next a e x) (last_sequence b) e1 e2 = let q = sequence_same a b (ap (passes after_sequence) e) (wider r2 e2) in grind arith
  expression_same (bar_next {more = us} a e x) (bar_next {more = vs} b f y) e1 e2 =
      let q = sequence_same a b (ap (passes after_sequence) e) (ap (passes after_sequence) f) in
      let z = expression_same x (let same : us ≡ vs = cc in rw same y) e1 e2 in
      (z.0, (λ i. either (q.1 i) (z.1 i)))

  sequence_same : {ws r1 r2 : List ℕ} {t1 t2 : Tree} → Sequence ws r1 t1 → Sequence ws r2 t2 → Ends after_sequence r1 → Ends after_sequence r2 → Same r1 r2 t1 t2
  sequence_same {r1 = r1} {r2 = r2} (last_piece a) (last_piece b) e1 e2 = piece_same a b (widest r1 e1) (widest r2 e2)
  sequence_same {r1 = r1} (last_piece a) (piece_next b y) e1 e2 =
      let q = piece_same a b (widest r1 e1) (after_one y) in let start = sequence_begins y in grind arith
  sequence_same {r2 = r2} (piece_next a x) (last_piece b) e1 e2 =
      let q = piece_same a b (after_one x) (widest r2 e2) in let start = sequence_begins x in grind arith
  sequence_same (piece_next a x) (piece_next b y) e1 e2 =
      let q = piece_same a b (after_one x) (after_one y) in
      let z = sequence_same x (rw q.0 y) e1 e2 in
      (z.0, (λ i. then (q.1 i) (z.1 i)))

  piece_same : {ws r1 r2 : List ℕ} {t1 t2 : Tree} → Piece ws r1 t1 → Piece ws r2 t2 → Ends after_piece r1 → Ends after_piece r2 → Same r1 r2 t1 t2
  piece_same (piece a x) (piece b y) e1 e2 =
      let q = atom_same a b in repeats_same x (rw (q.0, q.1) y) e1 e2

  atom_same : {ws r1 r2 : List ℕ} {t1 t2 : Tree} → Atom ws r1 t1 → Atom ws r2 t2 → Same r1 r2 t1 t2
  atom_same (letter_atom e) (letter_atom f) = (refl, grind arith)
  atom_same (letter_atom e) (group_atom f y d) = grind arith
  atom_same (group_atom e x c) (letter_atom f) = grind arith
  atom_same (group_atom e x c) (group_atom f y d) = let q = expression_same x y (ap (passes after_expression) c) (ap (passes after_expression) d) in (cc, q.1)

-- A list of words has at most one tree.
pub one_tree : (ws : List ℕ) (s t : Tree) → HasTree ws s → HasTree ws t → s ≡ t
one_tree ws s t a b = (expression_same a b refl refl).1
