-- Why words are refused: they are no expression, or they pass a limit.
use Rattle.std.proofs.Common.{◌≡◌, ℕ, ◌+◌, ◌<◌, Bool, true, false, cond, List, [], ◌∷◌, length, Some, None, Option, refl, arith}
use Rattle.std.proofs.lemmas.Bool.Decides.{nat_tests}
use Rattle.expression.specs.declared.fault.Cause.{Cause}
use Rattle.expression.specs.declared.fault.Cause.TheVariants.{WordCount, TooManyLetters, TooDeep}
use Rattle.expression.specs.declared.fault.Fault.{Fault}
use Rattle.expression.specs.declared.symbol.Symbol.TheVariants.{Close}
use Rattle.expression.specs.Grammar.{Expression, Sequence, Piece, Atom, Repeats, last_sequence, bar_next, last_piece, piece_next, piece, letter_atom, group_atom, done, star_next, plus_next, maybe_next, HasTree}
use Rattle.expression.specs.Language.{Tree}
use Rattle.expression.specs.Scan.{Scan, verdict, start, letters_of, Shallow, unless}
use Rattle.expression.specs.Symbols.{symbol_of}

-- The causes that speak of a limit.
abbrev pub is_limit : Cause → Bool
is_limit TooManyLetters = true
is_limit TooDeep = true
is_limit _ = false

abbrev scan : ℕ → ℕ → Bool → Scan
scan d k b = record { depth = d; letters = k; begins = b }

-- There is no fault, or that of a limit.
abbrev Fine : Option Fault → Type 0
Fine None = Unit {0}
Fine (Some f) = is_limit f.cause ≡ true

-- What comes at a limit is fine, where what comes before it is.
at_limit : (p : ℕ) (b : Bool) (c : Cause) (later : Option Fault) → is_limit c ≡ true → Fine later → Fine (unless p (cond b None (Some c)) later)
at_limit p true c later l fine = fine
at_limit p false c later l fine = l

at_close : (p d k v : ℕ) (rest : List ℕ) → symbol_of v ≡ Some Close → Fine (verdict (p + 1) (scan d k false) rest) → Fine (verdict p (scan (d + 1) k false) (v ∷ rest))
at_close p d k v rest e fine = grind (arith, nat_tests)

-- The pass over the words is fine where it is over what follows them, from wherever it comes there.
abbrev Passes : List ℕ → List ℕ → Type 0
Passes ws rest = (p d k : ℕ) (b : Bool) → ((p' k' : ℕ) → Fine (verdict p' (scan d k' false) rest)) → Fine (verdict p (scan d k b) ws)

-- And so it is over each level of the grammar.
repeats_fine : {ws rest : List ℕ} {s t : Tree} → Repeats ws rest s t → (p d k : ℕ) → ((p' k' : ℕ) → Fine (verdict p' (scan d k' false) rest)) → Fine (verdict p (scan d k false) ws)
repeats_fine done p d k more = more p k
repeats_fine (star_next e r) p d k more = rw e (repeats_fine r (p + 1) d k more)
repeats_fine (plus_next e r) p d k more = rw e (repeats_fine r (p + 1) d k more)
repeats_fine (maybe_next e r) p d k more = rw e (repeats_fine r (p + 1) d k more)

mutual
  expression_fine : {ws rest : List ℕ} {t : Tree} → Expression ws rest t → Passes ws rest
  expression_fine (last_sequence a) p d k b more = sequence_fine a p d k b more
  expression_fine (bar_next a e x) p d k b more = sequence_fine a p d k b (λ p' k'. rw e (expression_fine x (p' + 1) d k' true more))

  sequence_fine : {ws rest : List ℕ} {t : Tree} → Sequence ws rest t → Passes ws rest
  sequence_fine (last_piece a) p d k b more = piece_fine a p d k b more
  sequence_fine (piece_next a x) p d k b more = piece_fine a p d k b (λ p' k'. sequence_fine x p' d k' false more)

  piece_fine : {ws rest : List ℕ} {t : Tree} → Piece ws rest t → Passes ws rest
  piece_fine (piece a r) p d k b more = atom_fine a p d k b (λ p' k'. repeats_fine r p' d k' more)

  atom_fine : {ws rest : List ℕ} {t : Tree} → Atom ws rest t → Passes ws rest
  atom_fine (letter_atom e) p d k b more = rw e (at_limit p _ TooManyLetters _ refl (more (p + 1) (k + 1)))
  atom_fine (group_atom {v = v} {rest = rest} e x c) p d k b more =
      rw e (at_limit p _ TooDeep _ refl (expression_fine x (p + 1) (d + 1) k true (λ p' k'. at_close p' d k' v rest c (more (p' + 1) k'))))

-- So a fault of another cause says that the words have no tree.
pub no_tree : (ws : List ℕ) (f : Fault) → is_limit f.cause ≡ false → verdict 0 start ws ≡ Some f → (t : Tree) → HasTree ws t → ⊥
no_tree ws f plain is t d = let fine = expression_fine d 0 0 0 true (λ p k. tt) in grind arith

-- A fault for too many letters says that there are more than 31.
pub too_many : (p : ℕ) (s : Scan) (ws : List ℕ) (f : Fault) → verdict p s ws ≡ Some f → f.cause ≡ TooManyLetters → 31 < s.letters + length (letters_of ws)
too_many p s [] f is cause = grind arith
too_many p s (w ∷ ws) f is cause = grind (arith, nat_tests, λ (t : Scan) (e : verdict (p + 1) t ws ≡ Some f). too_many (p + 1) t ws f e cause)

-- A fault for too deep brackets says that an open stands inside 16 unclosed ones.
pub too_deep : (p : ℕ) (s : Scan) (ws : List ℕ) (f : Fault) → verdict p s ws ≡ Some f → f.cause ≡ TooDeep → Shallow s.depth ws → ⊥
too_deep p s [] f is cause shallow = grind arith
too_deep p s (w ∷ ws) f is cause shallow = grind (arith, nat_tests, λ (t : Scan) (e : verdict (p + 1) t ws ≡ Some f). too_deep (p + 1) t ws f e cause)

-- The pass over the words names no wrong count.
pub not_count : (p : ℕ) (s : Scan) (ws : List ℕ) (f : Fault) → verdict p s ws ≡ Some f → f.cause ≡ WordCount → ⊥
not_count p s [] f is cause = grind arith
not_count p s (w ∷ ws) f is cause = grind (arith, nat_tests, λ (t : Scan) (e : verdict (p + 1) t ws ≡ Some f). not_count (p + 1) t ws f e cause)
