-- A query of two moves along a word where both parts do, so it accepts the words that both accept.
use Rattle.std.proofs.Common.{◌≡◌, ℕ, ◌+◌, ◌*◌, ◌<◌, ◌≤◌, true, ◌&&◌, ltb, leb, ◌≢◌, List, [], ◌∷◌, refl, ap, ◌∙◌, subst, ⊎_elim, arith}
use native.Mathlib.Nat.{zero-div, zero-mod}
use Rattle.std.proofs.lemmas.Nat.{mul-le, mul-add-lt, div-mul-add, mod-mul-add}
use Rattle.std.proofs.lemmas.Bool.{and_from, cases_Bool, cond-true, cond-false, leb-true, le-leb, lt-ltb}
use Rattle.query.specs.Both.{both_size, first_state, second_state, is_state, both_meaning, AcceptsBoth, ends_both, steps_both, both_lawful}
use Rattle.query.specs.Meaning.{Meaning, Lawful, most_states, too_many}
use Rattle.query.specs.Words.{Leads, Accepts}

-- The state that stands for state a of the first and state b of the second.
abbrev pair : Meaning → ℕ → ℕ → ℕ
pair n a b = a * n.size + b

module _ (m n : Meaning) where
  -- Moves along a word are moves of the first along it,
  leads_first : (w : List ℕ) (s t : ℕ) → Leads (both_meaning m n) s w t → Leads m (first_state n s) w (first_state n t)
  leads_first [] s t e = ap (first_state n) e
  leads_first (l ∷ w) s t p = (first_state n p.0, (steps_both m n s l p.0 p.1).2, leads_first w p.0 t p.2)

  -- and of the second.
  leads_second : (w : List ℕ) (s t : ℕ) → Leads (both_meaning m n) s w t → Leads n (second_state n s) w (second_state n t)
  leads_second [] s t e = ap (second_state n) e
  leads_second (l ∷ w) s t p = (second_state n p.0, (steps_both m n s l p.0 p.1).3, leads_second w p.0 t p.2)

  -- A word that the query accepts, both parts accept.
  accepts_parts : (w : List ℕ) → Accepts (both_meaning m n) w → Accepts m w × Accepts n w
  accepts_parts w a =
      let t = a.0 in
      let e = ends_both m n t a.2 in (
        (first_state n t, subst (λ (s : ℕ). Leads m s w (first_state n t)) (zero-div n.size) (leads_first w 0 t a.1), e.1),
        (second_state n t, subst (λ (s : ℕ). Leads n s w (second_state n t)) (zero-mod n.size) (leads_second w 0 t a.1), e.2),
      )

  -- Unless there are too many states, there is one for each pair.
  size_pairs : both_size m n ≢ too_many → (both_size m n ≡ m.size * n.size) × (m.size * n.size ≤ most_states)
  size_pairs few =
      ⊎_elim
      (λ e. (cond-true (leb (m.size * n.size) most_states) (m.size * n.size) too_many e, leb-true (m.size * n.size) most_states e))
      (λ e. absurd (few (cond-false (leb (m.size * n.size) most_states) (m.size * n.size) too_many e)))
      (cases_Bool (leb (m.size * n.size) most_states))

  module _ (few : both_size m n ≢ too_many) where
    -- Then the number of a pair is a state,
    pair_state : (a b : ℕ) → a < m.size → b < n.size → is_state m n (pair n a b) ≡ true
    pair_state a b p q =
        let e = size_pairs few in
        and_from (leb (both_size m n) most_states) (ltb (pair n a b) (both_size m n)) (le-leb (both_size m n) most_states (omega arith))
        (lt-ltb (pair n a b) (both_size m n) (omega (arith, mul-add-lt a n.size b m.size p q)))

    -- which accepts where both parts do,
    pair_ends : (a b : ℕ) → a < m.size → b < n.size → m.accepting a ≡ true → n.accepting b ≡ true → (both_meaning m n).accepting (pair n a b) ≡ true
    pair_ends a b p q x y =
        let s = pair n a b in
        let first : m.accepting (first_state n s) ≡ true = ap m.accepting (div-mul-add a n.size b q) ∙ x in
        let second : n.accepting (second_state n s) ≡ true = ap n.accepting (mod-mul-add a n.size b q) ∙ y in
        and_from (is_state m n s && m.accepting (first_state n s)) (n.accepting (second_state n s))
        (and_from (is_state m n s) (m.accepting (first_state n s)) (pair_state a b p q) first) second

    -- and two moves on one label are one of the pairs.
    pair_steps : (a b l c d : ℕ) → a < m.size → b < n.size → c < m.size → d < n.size → m.moves a l c ≡ true → n.moves b l d ≡ true → (both_meaning m n).moves (pair n a b) l (pair n c d) ≡ true
    pair_steps a b l c d pa pb pc pd x y =
        let s = pair n a b in
        let t = pair n c d in
        let first : m.moves (first_state n s) l (first_state n t) ≡ true = rw (div-mul-add a n.size b pb, div-mul-add c n.size d pd) x in
        let second : n.moves (second_state n s) l (second_state n t) ≡ true = rw (mod-mul-add a n.size b pb, mod-mul-add c n.size d pd) y in
        and_from (is_state m n s && is_state m n t && m.moves (first_state n s) l (first_state n t)) (n.moves (second_state n s) l (second_state n t))
        (and_from (is_state m n s && is_state m n t) (m.moves (first_state n s) l (first_state n t)) (and_from (is_state m n s) (is_state m n t) (pair_state a b pa pb) (pair_state c d pc pd)) first)
        second

    module _ (lm : Lawful m) (ln : Lawful n) where
      -- Moves of both parts along one word are moves of the pairs along it.
      leads_pair : (w : List ℕ) (a b c d : ℕ) → Leads m a w c → Leads n b w d → Leads (both_meaning m n) (pair n a b) w (pair n c d)
      leads_pair [] a b c d x y = rw (x, y) refl
      leads_pair (l ∷ w) a b c d x y =
          let p = lm.steps a l x.0 x.1 in
          let q = ln.steps b l y.0 y.1 in
          (pair n x.0 y.0, pair_steps a b l x.0 y.0 p.0 q.0 p.2 q.2 x.1 y.1, leads_pair w x.0 y.0 c d x.2 y.2)

      -- A word that both parts accept, the query accepts.
      accepts_pair : (w : List ℕ) → Accepts m w → Accepts n w → Accepts (both_meaning m n) w
      accepts_pair w x y =
          let start : pair n 0 0 ≡ 0 = omega arith in
          let ends = pair_ends x.0 y.0 (lm.ends x.0 x.2).0 (ln.ends y.0 y.2).0 x.2 y.2 in
          (pair n x.0 y.0, subst (λ (s : ℕ). Leads (both_meaning m n) s w (pair n x.0 y.0)) start (leads_pair w 0 0 x.0 y.0 x.1 y.1), ends)

-- A query of two accepts just the words that both parts accept.
pub accepts_both : (m n : Meaning) → Lawful m → Lawful n → AcceptsBoth m n (both_meaning m n)
accepts_both m n lm ln = record {
  each = λ few w. (accepts_parts m n w, λ p. accepts_pair m n few lm ln w p.0 p.1);
  none = λ many w a. omega (arith, ((both_lawful m n lm ln).ends a.0 a.2).1);
  parts = λ few.
      let fits = (size_pairs m n few).1 in (
        λ e. omega (arith, mul-le too_many 1 m.size n.size (omega arith) ln.some),
        λ e. omega (arith, mul-le 1 too_many m.size n.size lm.some (omega arith)),
      );
}
