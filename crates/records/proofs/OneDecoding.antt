-- What is decoded is determined.
use Rattle.std.proofs.Common.{◌≡◌, ℕ, ◌+◌, ◌*◌, ◌<◌, List, [], ◌∷◌, ◌++◌, length, take, drop, refl, ap, sym, subst, ◌∙◌, arith, append_assoc}
use Rattle.std.proofs.lemmas.List.{take-append-drop, take-take}
use Rattle.paths.specs.Links.{Triple}
use Rattle.paths.specs.Words.{HasWord, triple_bits}
use Rattle.records.specs.declared.fault.TapeFault.{TapeFault}
use Rattle.records.specs.declared.fault.TapeFault.TheVariants.{Short, Stray, TooLong, Expression}
use Rattle.records.specs.Records.{PlainRecord, start, advance, add, drop as drop_record, HasWords, words_of_record, BelongToAStart, FaultyAt, OneDecoding}

-- Two lists that begin with equally many are equal in both parts.
same_parts : {X : Type 0} (xs ys a b : List X) → length xs ≡ length ys → xs ++ a ≡ ys ++ b → (xs ≡ ys) × (a ≡ b)
same_parts [] [] a b l e = (refl, e)
same_parts [] (y ∷ ys) a b l e = absurd (omega arith)
same_parts (x ∷ xs) [] a b l e = absurd (omega arith)
same_parts (x ∷ xs) (y ∷ ys) a b l e =
    let first : x ≡ y = cc in
    let more = same_parts xs ys a b (omega arith) cc in
    (λ i. first i ∷ more.0 i, more.1)

-- A triple is in its bits.
same_triple : (t u : Triple) → HasWord t → HasWord u → triple_bits t ≡ triple_bits u → t ≡ u
same_triple t u has has' e =
    let from : t.from ≡ u.from = omega arith in
    let to : t.to ≡ u.to = omega arith in
    let label : t.label ≡ u.label = omega arith in
    λ i. record { from = from i; to = to i; label = label i }

one_record : (r q : PlainRecord) (a b : List ℕ) → HasWords r → HasWords q → words_of_record r ++ a ≡ words_of_record q ++ b → (r ≡ q) × (a ≡ b)
one_record (start s) (start t) a b has has' e =
    let first : 0x80000000 + 256 * length s.expression + s.n ≡ 0x80000000 + 256 * length t.expression + t.n = cc in
    let second : 0x90000000 + s.window ≡ 0x90000000 + t.window = cc in
    let n : s.n ≡ t.n = omega arith in
    let window : s.window ≡ t.window = omega arith in
    let parts = same_parts s.expression t.expression a b (omega arith) cc in
    (λ i. start (record { n = n i; window = window i; expression = parts.0 i }), parts.1)
one_record (start s) (advance clock) a b has has' e = absurd (grind arith)
one_record (start s) (add t) a b has has' e = absurd (grind arith)
one_record (start s) (drop_record t) a b has has' e = absurd (grind arith)
one_record (advance clock) (start t) a b has has' e = absurd (grind arith)
one_record (advance clock) (advance clock') a b has has' e = grind arith
one_record (advance clock) (add t) a b has has' e = absurd (grind arith)
one_record (advance clock) (drop_record t) a b has has' e = absurd (grind arith)
one_record (add t) (start s) a b has has' e = absurd (grind arith)
one_record (add t) (advance clock) a b has has' e = absurd (grind arith)
one_record (add t) (add u) a b has has' e = (ap add (same_triple t u has has' (grind arith)), cc)
one_record (add t) (drop_record u) a b has has' e = absurd (grind arith)
one_record (drop_record t) (start s) a b has has' e = absurd (grind arith)
one_record (drop_record t) (advance clock) a b has has' e = absurd (grind arith)
one_record (drop_record t) (add u) a b has has' e = absurd (grind arith)
one_record (drop_record t) (drop_record u) a b has has' e = (ap drop_record (same_triple t u has has' (grind arith)), cc)

-- The first of words that belong to a start belong to one.
fewer_belong : (k : ℕ) (ws : List ℕ) → BelongToAStart ws → BelongToAStart (take k ws)
fewer_belong k ws belong = record {
  start = belong.start;
  has = belong.has;
  rest = drop k ws ++ belong.rest;
  words = sym (append_assoc (take k ws) (drop k ws) belong.rest) ∙ ap (λ xs. xs ++ belong.rest) (take-append-drop k ws) ∙ belong.words;
}

-- A later word is not the leftmost that does not belong.
not_later : (ws : List ℕ) (p q : ℕ) → p < q → BelongToAStart (take q ws) → ¬ BelongToAStart (take (p + 1) ws) → ⊥
not_later ws p q before belong stray = stray (subst BelongToAStart (take-take (p + 1) q ws (omega arith)) (fewer_belong (p + 1) (take q ws) belong))

same_place : (ws : List ℕ) (f g : TapeFault) → FaultyAt ws f → FaultyAt ws g → f ≡ g
same_place ws (Stray p) (Stray q) place place' =
    let none_before : p < q → ⊥ = λ before. not_later ws p q before place'.1 place.2 in
    let none_after : q < p → ⊥ = λ after. not_later ws q p after place.1 place'.2 in
    ap Stray (omega arith)
same_place ws (Stray p) (Short q) place place' = absurd (place.2 (fewer_belong (p + 1) ws place'.1))
same_place ws (Short p) (Stray q) place place' = absurd (place'.2 (fewer_belong (q + 1) ws place.1))
same_place ws (Short p) (Short q) place place' = ap Short (place.0 ∙ sym place'.0)
same_place ws (Stray p) TooLong place place' = absurd place'
same_place ws (Stray p) (Expression f) place place' = absurd place'
same_place ws (Short p) TooLong place place' = absurd place'
same_place ws (Short p) (Expression f) place place' = absurd place'
same_place ws TooLong g place place' = absurd place
same_place ws (Expression f) g place place' = absurd place

pub one_decoding : OneDecoding
one_decoding = record { one_record = one_record; one_fault = λ ws f g faulty faulty'. same_place ws f g faulty.place faulty'.place }
