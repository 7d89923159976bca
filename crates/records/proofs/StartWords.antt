-- Which words begin a start, and where words that begin none are faulty.
use Rattle.std.proofs.Common.{◌≡◌, ◌≢◌, ℕ, ◌+◌, ◌-◌, ◌*◌, ◌/◌, ◌%◌, ◌<◌, ◌≤◌, List, [], ◌∷◌, ◌++◌, length, take, drop, refl, ap, sym, ◌∙◌, arith}
use Rattle.std.proofs.Math.ListN.{replicate}
use Rattle.std.proofs.lemmas.List.{length-append, length-replicate, length-take-le, take-append-drop}
use Rattle.records.specs.declared.fault.TapeFault.TheVariants.{Short, Stray}
use Rattle.records.specs.Records.{PlainStart, StartHasWords, start_words, BeginsWith, BelongToAStart, BeginsWithNone}

-- A start word: its kind, and room for the expression's word count.
pub record SaysStart (w : ℕ) : Type 0 where
  pub kind : w / 0x10000000 ≡ 8
  pub count : w % 0x10000000 / 256 < 512

-- A start's first two words, and its word count.
pub says_start : (s : PlainStart) (w : ℕ) → StartHasWords s → w ≡ 0x80000000 + 256 * length s.expression + s.n → SaysStart w
says_start s w has e = record { kind = omega arith; count = omega arith }

pub count_said : (s : PlainStart) (w : ℕ) → StartHasWords s → w ≡ 0x80000000 + 256 * length s.expression + s.n → w % 0x10000000 / 256 ≡ length s.expression
count_said s w has e = omega arith

pub says_window : (s : PlainStart) (v : ℕ) → StartHasWords s → v ≡ 0x90000000 + s.window → v / 0x10000000 ≡ 9
says_window s v has e = omega arith

-- The start that these words say, with any expression of the right length.
abbrev pub said : ℕ → ℕ → List ℕ → PlainStart
said w v expression = record { n = w % 256; window = v % 0x10000000; expression = expression }

pub said_has : (w v : ℕ) (expression : List ℕ) → SaysStart w → length expression ≡ w % 0x10000000 / 256 → StartHasWords (said w v expression)
said_has w v expression says some = record { n = omega arith; count = omega arith; window = omega arith }

pub first_is : (w : ℕ) (expression : List ℕ) → SaysStart w → length expression ≡ w % 0x10000000 / 256 → w ≡ 0x80000000 + 256 * length expression + w % 256
first_is w expression says some = omega arith

pub second_is : (v : ℕ) → v / 0x10000000 ≡ 9 → v ≡ 0x90000000 + v % 0x10000000
second_is v kind = omega arith

pub said_words : (w v : ℕ) (expression : List ℕ) → SaysStart w → v / 0x10000000 ≡ 9 → length expression ≡ w % 0x10000000 / 256 → start_words (said w v expression) ≡ w ∷ v ∷ expression
said_words w v expression says kind some = λ i. sym (first_is w expression says some) i ∷ sym (second_is v kind) i ∷ expression

-- An expression filled up to its count.
abbrev pub filled : ℕ → List ℕ → List ℕ
filled count ws = ws ++ replicate (count - length ws) 0

length_filled : (count : ℕ) (ws : List ℕ) → length ws ≤ count → length (filled count ws) ≡ count
length_filled count ws some = simp (length-append, length-replicate) (omega arith)

-- Any words belong to a start as far as its first two and its count allow.
pub all_belong : (w v : ℕ) (ws : List ℕ) → SaysStart w → v / 0x10000000 ≡ 9 → length ws ≤ w % 0x10000000 / 256 → BelongToAStart (w ∷ v ∷ ws)
all_belong w v ws says kind some =
    let count = w % 0x10000000 / 256 in
    let whole = length_filled count ws some in
    record {
      start = said w v (filled count ws);
      has = said_has w v (filled count ws) says whole;
      rest = replicate (count - length ws) 0;
      words = sym (said_words w v (filled count ws) says kind whole);
    }

pub one_belongs : (w : ℕ) → SaysStart w → BelongToAStart (w ∷ [])
one_belongs w says = let more = all_belong w 0x90000000 [] says refl (omega arith) in record { start = more.start; has = more.has; rest = 0x90000000 ∷ more.rest; words = more.words }

pub none_belong : BelongToAStart []
none_belong = let more = one_belongs 0x80000000 (record { kind = refl; count = omega arith }) in record { start = more.start; has = more.has; rest = 0x80000000 ∷ more.rest; words = more.words }

-- What words say that belong to a start or begin with one.
pub first_belongs : (w : ℕ) (ws : List ℕ) → BelongToAStart (w ∷ ws) → SaysStart w
first_belongs w ws belong = says_start belong.start w belong.has (let e = belong.words in cc)

pub second_belongs : (w v : ℕ) (ws : List ℕ) → BelongToAStart (w ∷ v ∷ ws) → v / 0x10000000 ≡ 9
second_belongs w v ws belong = says_window belong.start v belong.has (let e = belong.words in cc)

-- Where no start begins the tape.
pub nothing : (ws : List ℕ) → ws ≡ [] → BeginsWithNone ws (Short (length ws))
nothing ws e = record { none = λ s begins. let f = begins.words in cc; place = (refl, rw e none_belong) }

pub first_is_stray : (ws : List ℕ) (w : ℕ) (rest : List ℕ) → ws ≡ w ∷ rest → (¬ SaysStart w) → BeginsWithNone ws (Stray 0)
first_is_stray ws w rest e wrong = rw e (record {
  none = λ s begins. wrong (says_start s w begins.has (let f = begins.words in cc));
  place = (omega arith, none_belong, λ belong. wrong (first_belongs w [] belong));
})

pub second_is_missing : (w : ℕ) (ws : List ℕ) → ws ≡ w ∷ [] → SaysStart w → BeginsWithNone ws (Short (length ws))
second_is_missing w ws e says = rw e (record { none = λ s begins. let f = begins.words in cc; place = (refl, one_belongs w says) })

pub second_is_stray : (ws : List ℕ) (w v : ℕ) (rest : List ℕ) → ws ≡ w ∷ v ∷ rest → SaysStart w → v / 0x10000000 ≢ 9 → BeginsWithNone ws (Stray 1)
second_is_stray ws w v rest e says wrong = rw e (record {
  none = λ s begins. wrong (says_window s v begins.has (let f = begins.words in cc));
  place = (omega arith, one_belongs w says, λ belong. wrong (second_belongs w v [] belong));
})

pub expression_is_short : (ws : List ℕ) (w v : ℕ) (rest : List ℕ) → ws ≡ w ∷ v ∷ rest → SaysStart w → v / 0x10000000 ≡ 9 → length rest < w % 0x10000000 / 256 → BeginsWithNone ws (Short (length ws))
expression_is_short ws w v rest e says kind short = rw e (record {
  none = λ s begins.
      let f = begins.words in
      let same_rest : rest ≡ s.expression ++ begins.rest = cc in
      let same_first : w ≡ 0x80000000 + 256 * length s.expression + s.n = cc in
      let count = count_said s w begins.has same_first in
      let longer = ap length same_rest ∙ length-append s.expression begins.rest in
      omega arith;
  place = (refl, all_belong w v rest says kind (omega arith));
})

-- Where a start begins it.
pub start_begins : (ws : List ℕ) (w v : ℕ) (rest expression : List ℕ) (n window : ℕ) → ws ≡ w ∷ v ∷ rest → SaysStart w → v / 0x10000000 ≡ 9 → w % 0x10000000 / 256 ≤ length rest → expression ≡ take (w % 0x10000000 / 256) rest → n ≡ w % 256 → window ≡ v % 0x10000000 → BeginsWith (record { n = n; window = window; expression = expression }) ws
start_begins ws w v rest expression n window e says kind some cut n_is window_is =
    let count = w % 0x10000000 / 256 in
    let whole : length expression ≡ count = ap length cut ∙ length-take-le count rest some in
    let joined : expression ++ drop count rest ≡ rest = rw cut (take-append-drop count rest) in
    rw (n_is, window_is) (record {
      has = said_has w v expression says whole;
      rest = drop count rest;
      words = e ∙ λ i. sym (ap (λ xs. xs ++ drop count rest) (said_words w v expression says kind whole) ∙ λ j. w ∷ v ∷ joined j) i;
    })
