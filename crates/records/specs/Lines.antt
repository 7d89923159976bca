-- The bytes of a printed line.
use Rattle.std.specs.Prelude.{◌≡◌, ℕ, ◌<◌, List, [], ◌∷◌, ◌++◌, length, Ok, Err, codes, decimal, Result}
use Rattle.paths.specs.Words.{PutsInFront}
use Rattle.records.specs.declared.line.Line.{Line}
use Rattle.records.specs.declared.line.Line.TheVariants.{Start, Fault, End}
use Rattle.records.specs.declared.line.LineRefusal.{LineRefusal}
use Rattle.records.specs.declared.line.LineRefusal.TheVariants.{TooShort}
use Rattle.records.specs.Faults.{layer_of_fault, number_of_fault, word_of_fault}

-- Numbers in decimal with a space before each, and byte 10 last.
abbrev pub fields : List ℕ → List ℕ
fields [] = 10 ∷ []
fields (n ∷ ns) = 32 ∷ (decimal n ++ fields ns)

-- A line's word and its numbers.
abbrev pub line_bytes : Line → List ℕ
line_bytes (Start n size) = codes "start" ++ fields (n ∷ size ∷ [])
line_bytes (Fault f) = codes "fault" ++ fields (layer_of_fault f ∷ number_of_fault f ∷ word_of_fault f ∷ [])
line_bytes (End records announced withdrawn) = codes "end" ++ fields (records ∷ announced ∷ withdrawn ∷ [])

-- The bytes are put in front of the memory, and their count is answered. Where they have no room, nothing changes.
abbrev pub Writes : List ℕ → List ℕ → List ℕ → Result ℕ LineRefusal → Type 0
Writes bytes memory memory' (Ok count) = PutsInFront bytes memory memory' × (count ≡ length bytes)
Writes bytes memory memory' (Err e) = (length memory < length bytes) × (e ≡ TooShort) × (memory' ≡ memory)

-- The number by which the refusal is told.
abbrev pub line_refusal_number : LineRefusal → ℕ
line_refusal_number TooShort = 33
