-- What the readers promise each other. Only the contracts of private functions cite this file.
use Rattle.std.specs.Prelude.{◌≡◌, ℕ, ◌+◌, ◌<◌, ◌≤◌, Bool, true, false, ◌⊎◌, List, [], ◌∷◌, ◌++◌, length, drop, Some, None, Ok, Err, Option, Result}
use Rattle.expression.specs.declared.fault.Fault.{Fault}
use Rattle.expression.specs.declared.part.Part.{Part}
use Rattle.expression.specs.declared.reader.Reader.{Reader}
use Rattle.expression.specs.declared.symbol.Symbol.{Symbol}
use Rattle.expression.specs.declared.symbol.Symbol.TheVariants.{Letter, Open, Close, Bar, Star, Plus, Maybe}
use Rattle.expression.specs.declared.machine.Machine.{Machine}
use Rattle.expression.specs.Fragments.{Fragment}
use Rattle.expression.specs.Grammar.{Repeats}
use Rattle.expression.specs.Language.{Tree, Language}
use Rattle.expression.specs.Machines.{linked, label_of, letters_in}
use Rattle.expression.specs.Scan.{Scan, verdict, letters_of}
use Rattle.expression.specs.Symbols.{symbol_of}
use Rattle.masks.specs.Members.{member}
use Rattle.expression.specs.Parts.{Within}
use Rattle.expression.specs.Rows.{labels_in}
use Rattle.expression.specs.Positions.{letter_count, may_be_empty, comes_first, comes_last, comes_after}

-- The words that are still to be read.
abbrev pub left : Reader → List ℕ
left r = drop r.place r.words.now

-- What the pass over the words knows where the reader is.
abbrev pub scan_at : Reader → Bool → Scan
scan_at r b = record { depth = r.depth; letters = letters_in r.machine; begins = b }

-- The fault that is still to come, or none.
abbrev pub ahead : Reader → Bool → Option Fault
ahead r b = verdict r.place (scan_at r b) (left r)

-- The labels of all letters, of those read and of those to come; the start's place comes first.
abbrev pub labels_at : Reader → List ℕ
labels_at r = labels_in r.machine.positions.items ++ letters_of (left r)

-- A reader has gone on from r to r', in the same words, with the same faults to come and the same letters in all.
-- The tests say whether a piece must begin there.
pub record Advanced (b : Bool) (r : Reader) (b' : Bool) (r' : Reader) : Type 0 where
  pub words : r'.words.now ≡ r.words.now
  pub place : r.place ≤ r'.place
  pub letters : letters_in r.machine ≤ letters_in r'.machine
  pub labels : labels_at r' ≡ labels_at r
  pub faults : ahead r b ≡ ahead r' b'

-- Up to letter k, the moves and the labels are as they were.
pub record Kept (k : ℕ) (m m' : Machine) : Type 0 where
  pub moves : (s t : ℕ) → s ≤ k → linked m' s t ≡ linked m s t
  pub labels : (t : ℕ) → t ≤ k → label_of m' t ≡ label_of m t

-- In the machine, the letters after lo are a fragment for the tree's language.
abbrev pub Spells : Machine → ℕ → Part → Tree → Type 0
Spells m lo p t = Fragment (linked m) (label_of m) lo (letters_in m) p (Language t)

-- The part's sets and the moves from its letters are those of the tree's positions.
pub record Exact (m : Machine) (lo : ℕ) (p : Part) (t : Tree) : Type 0 where
  pub count : letters_in m ≡ lo + letter_count t
  pub nullable : p.nullable ≡ may_be_empty t
  pub first : (x : ℕ) → member p.first x ≡ comes_first t lo x
  pub last : (x : ℕ) → member p.last x ≡ comes_last t lo x
  pub after : (s x : ℕ) → lo < s → s ≤ letters_in m → linked m s x ≡ comes_after t lo s x

-- A reader has read a part that begins at r and ends at r', of this level of the grammar.
pub record ReadPart (Level : List ℕ → List ℕ → Tree → Type 0) (r r' : Reader) (p : Part) : Type 0 where
  pub advanced : Advanced true r false r'
  pub depth : r'.depth ≡ r.depth
  pub further : r.place < r'.place
  pub kept : Kept (letters_in r.machine) r.machine r'.machine
  pub tree : Tree
  pub derived : Level (left r) (left r') tree
  pub fragment : Spells r'.machine (letters_in r.machine) p tree
  pub exact : Exact r'.machine (letters_in r.machine) p tree

-- What a reader answers: a part, or the fault that was to come.
abbrev pub Read : (List ℕ → List ℕ → Tree → Type 0) → Reader → Reader → Result Part Fault → Type 0
Read Level r r' (Ok p) = ReadPart Level r r' p
Read Level r r' (Err f) = ahead r true ≡ Some f

-- The repeats read have made a part of a larger tree from one of tree s.
pub record RepeatedTree (p : Part) (r r' : Reader) (q : Part) (s : Tree) : Type 0 where
  pub tree : Tree
  pub derived : Repeats (left r) (left r') s tree
  pub fragment : (lo : ℕ) → Spells r.machine lo p s → Spells r'.machine lo q tree
  pub exact : (lo : ℕ) → Exact r.machine lo p s → Exact r'.machine lo q tree

-- The reader of repeats has made q of the part p, with no letter more.
pub record RepeatedPart (p : Part) (r r' : Reader) (q : Part) : Type 0 where
  pub advanced : Advanced false r false r'
  pub depth : r'.depth ≡ r.depth
  pub kept : (lo : ℕ) → Within lo (letters_in r.machine) p → Kept lo r.machine r'.machine
  pub tree : (s : Tree) → RepeatedTree p r r' q s

abbrev pub Repeated : Part → Reader → Reader → Result Part Fault → Type 0
Repeated p r r' (Ok q) = RepeatedPart p r r' q
Repeated p r r' (Err f) = ahead r false ≡ Some f

-- Nothing is left, or a symbol of which the test holds comes next.
abbrev pub Stops : (Symbol → Bool) → List ℕ → Type 0
Stops test ws = (ws ≡ []) ⊎ ((w : ℕ) × (us : List ℕ) × (y : Symbol) × (ws ≡ w ∷ us) × (symbol_of w ≡ Some y) × (test y ≡ true))

-- After an accepted reading, that is so of what is left.
abbrev pub Stopped : (Symbol → Bool) → Reader → Result Part Fault → Type 0
Stopped test r (Ok p) = Stops test (left r)
Stopped test r (Err f) = Unit {0}

-- A piece begins with a letter or an open.
abbrev pub begins_piece : Option Symbol → Bool
begins_piece (Some (Letter l)) = true
begins_piece (Some Open) = true
begins_piece _ = false

-- What may come after a piece, a sequence and an expression.
abbrev pub after_piece : Symbol → Bool
after_piece Star = false
after_piece Plus = false
after_piece Maybe = false
after_piece _ = true

abbrev pub after_sequence : Symbol → Bool
after_sequence Close = true
after_sequence Bar = true
after_sequence _ = false

abbrev pub after_expression : Symbol → Bool
after_expression Close = true
after_expression _ = false

-- What a look at the next word tells: its symbol, the end, or a word that is none.
abbrev pub Peeked : Reader → Result (Option Symbol) Fault → Type 0
Peeked r (Ok None) = left r ≡ []
Peeked r (Ok (Some y)) = (w : ℕ) × (left r ≡ w ∷ drop (r.place + 1) r.words.now) × (symbol_of w ≡ Some y) × (r.place < length r.words.now)
Peeked r (Err f) = (s : Scan) → verdict r.place s (left r) ≡ Some f
