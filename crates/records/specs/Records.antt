-- The words of a tape's records, and what decoding them answers.
use Rattle.std.specs.Prelude.{◌≡◌, ℕ, ◌+◌, ◌*◌, ◌^◌, ◌<◌, ◌≤◌, Bool, List, [], ◌∷◌, ◌++◌, length, take, Some, None, Ok, Err, Option, Result, slice_index, IsTrue, IsFalse}
use Rattle.paths.specs.Links.{Triple}
use Rattle.paths.specs.Words.{advance_word, add_word, triple_bits, HasWord}
use Rattle.watch.specs.declared.opening.Opening.{Opening}
use Rattle.watch.specs.declared.triple.Triple.{Triple as TripleRead}
use Rattle.records.specs.declared.fault.TapeFault.{TapeFault}
use Rattle.records.specs.declared.fault.TapeFault.TheVariants.{Short, Stray, TooLong, Expression}
use Rattle.records.specs.declared.record.Start.{Start}
use Rattle.records.specs.declared.record.NotARecord.{NotARecord}
use Rattle.records.specs.declared.record.Record.{Record}
use Rattle.records.specs.declared.record.Record.TheVariants as record_of

-- A start as plain values.
pub record PlainStart : Type 0 where
  pub n : ℕ
  pub window : ℕ
  pub expression : List ℕ

-- A record as plain values.
pub data PlainRecord : Type 0 where
  start : PlainStart → PlainRecord
  advance : (clock : ℕ) → PlainRecord
  add : (link : Triple) → PlainRecord
  drop : (link : Triple) → PlainRecord

-- A start's words: 0x80000000 with n in bits 0 to 7 and the expression's word count from bit 8 on, 0x90000000 with the window in the low
-- 28 bits, and then the expression.
abbrev pub start_words : PlainStart → List ℕ
start_words s = (0x80000000 + 256 * length s.expression + s.n) ∷ (0x90000000 + s.window) ∷ s.expression

-- A start has words where n fits into eight bits, the count into nine and the window into 28.
pub record StartHasWords (s : PlainStart) : Type 0 where
  pub n : s.n < 256
  pub count : length s.expression < 512
  pub window : s.window < 2 ^ 28

-- A drop is 0xC0000000 with the triple's bits.
abbrev pub drop_word : Triple → ℕ
drop_word t = 0xC0000000 + triple_bits t

-- Each record but a start is one word.
abbrev pub words_of_record : PlainRecord → List ℕ
words_of_record (start s) = start_words s
words_of_record (advance clock) = advance_word clock ∷ []
words_of_record (add t) = add_word t ∷ []
words_of_record (drop t) = drop_word t ∷ []

-- Which records have words.
abbrev pub HasWords : PlainRecord → Type 0
HasWords (start s) = StartHasWords s
HasWords (advance clock) = clock < 2 ^ 28
HasWords (add t) = HasWord t
HasWords (drop t) = HasWord t

-- The words are those of the record, which has some.
pub record AreWordsOf (r : PlainRecord) (ws : List ℕ) : Type 0 where
  pub has : HasWords r
  pub words : words_of_record r ≡ ws

-- What a start and a record of the program say, as plain values.
abbrev pub plain_start : Opening → List ℕ → PlainStart
plain_start o expression = record { n = o.n; window = o.window; expression = expression }

abbrev pub plain_triple : TripleRead → Triple
plain_triple t = record { from = t.from; to = t.to; label = t.label }

abbrev pub plain_record : Record → PlainRecord
plain_record (record_of.Start s) = start (plain_start s.opening s.expression.now)
plain_record (record_of.Advance clock) = advance clock
plain_record (record_of.Add t) = add (plain_triple t)
plain_record (record_of.Drop t) = drop (plain_triple t)

-- Decoding a word answers the record that has this one word, or the word itself where no record has.
abbrev pub DecodesRecord : ℕ → Result Record NotARecord → Type 0
DecodesRecord w (Ok r) = AreWordsOf (plain_record r) (w ∷ [])
DecodesRecord w (Err e) = ((r : PlainRecord) → ¬ AreWordsOf r (w ∷ [])) × (e.0 ≡ w)

-- Decoding the record at a place after the start answers the record that has the word there, or that the word does not belong there where no
-- record has. At the end of the whole words there is no record, unless the tape is cut: then it ends inside one.
abbrev pub DecodesNext : List ℕ → Bool → ℕ → Result (Option Record) TapeFault → Type 0
DecodesNext ws cut p (Ok (Some r)) = (p < length ws) × AreWordsOf (plain_record r) (slice_index ws p ∷ [])
DecodesNext ws cut p (Ok None) = (length ws ≤ p) × IsFalse cut
DecodesNext ws cut p (Err (Stray q)) = (q ≡ p) × (p < length ws) × ((r : PlainRecord) → ¬ AreWordsOf r (slice_index ws p ∷ []))
DecodesNext ws cut p (Err (Short q)) = (q ≡ length ws) × (length ws ≤ p) × IsTrue cut
DecodesNext ws cut p (Err TooLong) = ⊥
DecodesNext ws cut p (Err (Expression f)) = ⊥

-- A tape of these whole words begins with the start.
pub record BeginsWith (s : PlainStart) (ws : List ℕ) : Type 0 where
  pub has : StartHasWords s
  pub rest : List ℕ
  pub words : ws ≡ start_words s ++ rest

-- All these words belong to some start: they are its first ones.
pub record BelongToAStart (ws : List ℕ) : Type 0 where
  pub start : PlainStart
  pub has : StartHasWords start
  pub rest : List ℕ
  pub words : ws ++ rest ≡ start_words start

-- Where the start is faulty: at the leftmost word that belongs to no start, or at the count of the words where the tape ends inside the start.
abbrev pub FaultyAt : List ℕ → TapeFault → Type 0
FaultyAt ws (Stray p) = (p < length ws) × BelongToAStart (take p ws) × (¬ BelongToAStart (take (p + 1) ws))
FaultyAt ws (Short p) = (p ≡ length ws) × BelongToAStart ws
FaultyAt ws TooLong = ⊥
FaultyAt ws (Expression f) = ⊥

-- The tape begins with no start.
pub record BeginsWithNone (ws : List ℕ) (f : TapeFault) : Type 0 where
  pub none : (s : PlainStart) → ¬ BeginsWith s ws
  pub place : FaultyAt ws f

-- Decoding the start answers the start that the tape begins with, or the fault where it begins with none.
abbrev pub DecodesStart : List ℕ → Result Start TapeFault → Type 0
DecodesStart ws (Ok s) = BeginsWith (plain_start s.opening s.expression.now) ws
DecodesStart ws (Err f) = BeginsWithNone ws f

-- What is decoded is determined: where one record's words begin as another's, the two are the same, and what follows them is too. A tape's
-- start has one fault at most.
pub record OneDecoding : Type 0 where
  pub one_record : (r q : PlainRecord) (a b : List ℕ) → HasWords r → HasWords q → words_of_record r ++ a ≡ words_of_record q ++ b → (r ≡ q) × (a ≡ b)
  pub one_fault : (ws : List ℕ) (f g : TapeFault) → BeginsWithNone ws f → BeginsWithNone ws g → f ≡ g
