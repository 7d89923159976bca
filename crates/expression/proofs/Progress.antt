-- How a reader goes on over the words, and what it may then promise.
use Rattle.std.proofs.Common.{◌≡◌, ℕ, ◌+◌, ◌<◌, ◌≤◌, true, false, [], ◌∷◌, ◌++◌, Some, Ok, append_assoc, arith}
use Rattle.std.proofs.lemmas.Bool.Decides.{nat_tests}
use Rattle.expression.specs.Machines.{letters_in}
use Rattle.expression.specs.declared.reader.Reader.{Reader}
use Rattle.expression.specs.declared.symbol.Symbol.TheVariants.{Letter}
use Rattle.expression.specs.Rows.{labels_in}
use Rattle.expression.specs.Readers.{left, Advanced, Peeked}
use Rattle.expression.specs.Scan.{letters_of}
use Rattle.expression.specs.Symbols.{symbol_of}

-- A label is at most 15.
pub label_small : (w l : ℕ) → symbol_of w ≡ Some (Letter l) → l ≤ 15
unfolding symbol_of
label_small w l e = grind (arith, nat_tests)

-- One letter read.
pub advanced_letter : (r r' : Reader) (l k : ℕ) → Peeked r (Ok (Some (Letter l))) → letters_in r.machine < 31 → k ≡ letters_in r.machine + 1 → r'.words.now ≡ r.words.now → r'.place ≡ r.place + 1 → r'.depth ≡ r.depth → letters_in r'.machine ≡ k → labels_in r'.machine.positions.items ≡ labels_in r.machine.positions.items ++ l ∷ [] → Advanced true r false r'
advanced_letter r r' l k peek room next words place depth letters labels =
    grind (arith, nat_tests, append_assoc (labels_in r.machine.positions.items) (l ∷ []) (letters_of (left r')))
