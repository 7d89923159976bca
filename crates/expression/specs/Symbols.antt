-- Expression words.
use Rattle.std.specs.Prelude.{◌≡◌, ℕ, ◌-◌, if◌then◌else◌, ◌&&◌, Some, None, Ok, Err, Option, Result, ◌==◌, nat_le}
use Rattle.expression.specs.declared.symbol.NotAWord.{NotAWord}
use Rattle.expression.specs.declared.symbol.Symbol.{Symbol}
use Rattle.expression.specs.declared.symbol.Symbol.TheVariants.{Letter, Open, Close, Bar, Star, Plus, Maybe}

-- Which symbol a word stands for: its kind is in the top four bits, a letter's label in the lowest four, and all other bits are zero.
unfoldable pub symbol_of : ℕ → Option Symbol
symbol_of w =
    if nat_le 0x10000000 w && nat_le w 0x1000000F then Some (Letter (w - 0x10000000))
    else if w == 0x20000000 then Some Open
    else if w == 0x30000000 then Some Close
    else if w == 0x40000000 then Some Bar
    else if w == 0x50000000 then Some Star
    else if w == 0x60000000 then Some Plus
    else if w == 0x70000000 then Some Maybe
    else None

-- What decoding a word answers: the symbol, or the word itself where it stands for none.
abbrev pub DecodesSymbol : ℕ → Result Symbol NotAWord → Type 0
DecodesSymbol w (Ok y) = symbol_of w ≡ Some y
DecodesSymbol w (Err e) = (symbol_of w ≡ None) × (e.0 ≡ w)
