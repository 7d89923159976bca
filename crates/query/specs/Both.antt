-- What a query of two queries means: it goes over a word in both at once.
use Rattle.std.specs.Prelude.{◌≡◌, ℕ, ◌*◌, ◌/◌, ◌%◌, ◌<◌, ◌≤◌, Bool, true, if◌then◌else◌, ◌&&◌, ◌≢◌, List, nat_le, nat_lt, IsTrue}
use Rattle.std.proofs.Common.{arith}
use Rattle.std.proofs.lemmas.Nat.{mul-le}
use Rattle.std.proofs.lemmas.Bool.{and_parts, leb-true, ltb-true, cond_both}
use Rattle.query.specs.Meaning.{Meaning, Lawful, most_states, too_many}
use Rattle.query.specs.Words.{Accepts}
use Rattle.query.specs.declared.both.Both.{Both}

-- There is a state for each pair of a state of the first and a state of the second, unless those are too many.
abbrev pub both_size : Meaning → Meaning → ℕ
both_size m n = if nat_le (m.size * n.size) most_states then m.size * n.size else too_many

-- The pair of state a of the first and state b of the second is the state a times the second's size plus b, so a is the quotient by that size.
abbrev pub first_state : Meaning → ℕ → ℕ
first_state n s = s / n.size

-- And b is the remainder.
abbrev pub second_state : Meaning → ℕ → ℕ
second_state n s = s % n.size

-- The number s is a state where it is below the size; where there are too many states, no number is.
abbrev pub is_state : Meaning → Meaning → ℕ → Bool
is_state m n s = nat_le (both_size m n) most_states && nat_lt s (both_size m n)

-- A state accepts where both of its parts do, and a move is a move of both at once.
abbrev pub both_meaning : Meaning → Meaning → Meaning
both_meaning m n = record {
  size = both_size m n;
  accepting = λ s. is_state m n s && m.accepting (first_state n s) && n.accepting (second_state n s);
  moves = λ s l t. is_state m n s && is_state m n t && m.moves (first_state n s) l (first_state n t) && n.moves (second_state n s) l (second_state n t);
}

-- What a value of two queries means, where `first` and `second` say what each of the two means.
abbrev pub meaning_of : {A B : Type 0} → (A → Meaning) → (B → Meaning) → Both A B → Meaning
meaning_of first second q = both_meaning (first q.first) (second q.second)

-- The query b accepts a word just where m and n both do; or no word, where it has too many states, as it has where m or n has too many.
pub record AcceptsBoth (m n b : Meaning) : Type 0 where
  pub each : b.size ≢ too_many → (w : List ℕ) → (Accepts b w → Accepts m w × Accepts n w) × (Accepts m w × Accepts n w → Accepts b w)
  pub none : b.size ≡ too_many → (w : List ℕ) → Accepts b w → ⊥
  pub parts : b.size ≢ too_many → (m.size ≢ too_many) × (n.size ≢ too_many)

-- A state is below the size, and there are not too many.
pub state_below : (m n : Meaning) (s : ℕ) → is_state m n s ≡ true → (s < both_size m n) × (both_size m n ≤ most_states)
state_below m n s e =
    let p = and_parts (nat_le (both_size m n) most_states) (nat_lt s (both_size m n)) e in
    (ltb-true s (both_size m n) p.1, leb-true (both_size m n) most_states p.0)

-- Both parts of a state that accepts do.
pub ends_both : (m n : Meaning) (s : ℕ) → (both_meaning m n).accepting s ≡ true → (is_state m n s ≡ true) × IsTrue (m.accepting (first_state n s)) × IsTrue (n.accepting (second_state n s))
ends_both m n s e =
    let p = and_parts (is_state m n s && m.accepting (first_state n s)) (n.accepting (second_state n s)) e in
    let q = and_parts (is_state m n s) (m.accepting (first_state n s)) p.0 in
    (q.0, q.1, p.1)

-- A move is one of each part.
pub steps_both : (m n : Meaning) (s l t : ℕ) → (both_meaning m n).moves s l t ≡ true → (is_state m n s ≡ true) × (is_state m n t ≡ true) × IsTrue (m.moves (first_state n s) l (first_state n t)) × IsTrue (n.moves (second_state n s) l (second_state n t))
steps_both m n s l t e =
    let p = and_parts (is_state m n s && is_state m n t && m.moves (first_state n s) l (first_state n t)) (n.moves (second_state n s) l (second_state n t)) e in
    let q = and_parts (is_state m n s && is_state m n t) (m.moves (first_state n s) l (first_state n t)) p.0 in
    let r = and_parts (is_state m n s) (is_state m n t) q.0 in
    (r.0, r.1, q.1, p.1)

-- The limits of every query, from those of the two.
pub both_lawful : (m n : Meaning) → Lawful m → Lawful n → Lawful (both_meaning m n)
both_lawful m n lm ln = record {
  some =
      cond_both (nat_le (m.size * n.size) most_states) (m.size * n.size) too_many (λ size. 1 ≤ size)
      (λ _. mul-le 1 1 m.size n.size lm.some ln.some) (λ _. omega arith);
  most =
      cond_both (nat_le (m.size * n.size) most_states) (m.size * n.size) too_many (λ size. size ≤ too_many)
      (λ e. omega (arith, leb-true (m.size * n.size) most_states e)) (λ _. omega arith);
  ends = λ s e. state_below m n s (ends_both m n s e).0;
  steps = λ s l t e.
      let p = steps_both m n s l t e in
      let from = state_below m n s p.0 in
      let to = state_below m n t p.1 in
      (from.0, (lm.steps (first_state n s) l (first_state n t) p.2).1, to.0, to.1);
}
