-- What a machine means as a query.
use Rattle.std.specs.Prelude.{◌≡◌, ℕ, ◌-◌, ◌<◌, ◌≤◌, Bool, IsTrue, true, false, ◌&&◌, ◌==◌, length, slice_index}
use Rattle.masks.specs.Members.{member}
use Rattle.expression.specs.Rows.{labels_in, rows_in}
use Rattle.query.specs.Meaning.{Meaning, Lawful, most_states}
use Rattle.std.proofs.Common.{ap, ◌∙◌, ⊎_elim, arith}
use Rattle.std.proofs.lemmas.List.{get_or_past, length-map}
use Rattle.std.proofs.lemmas.Bool.{and_parts, both_ways, cases_lt, eqb-true}
use Rattle.masks.proofs.Laws.{member_none}
use Rattle.expression.specs.declared.machine.Machine.{Machine}

-- How many letters there are: one for each state but the start.
abbrev pub letters_in : Machine → ℕ
letters_in m = length m.positions.items - 1

-- State t may come after state s.
abbrev pub linked : Machine → ℕ → ℕ → Bool
linked m s t = member (slice_index (rows_in m.positions.items) s) t

-- The label of the letter that state t stands for.
abbrev pub label_of : Machine → ℕ → ℕ
label_of m t = slice_index (labels_in m.positions.items) t

-- One state for each letter and one for the start. A move bears the label of the state that it leads into.
abbrev pub machine_meaning : Machine → Meaning
machine_meaning m = record {
  size = length m.positions.items;
  accepting = member m.accepting;
  moves = λ s l t. linked m s t && (label_of m t == l);
}

-- What is in the row of a state is named by a state that is there.
pub linked_from : (m : Machine) (s t : ℕ) → linked m s t ≡ true → s < length m.positions.items
linked_from m s t e =
    ⊎_elim (λ h. h) (λ h. absurd (both_ways _ (ap (λ (x : ℕ). member x t) (get_or_past (rows_in m.positions.items) s 0 (omega (arith, h, length-map m.positions.items (λ p. p.next)))) ∙ member_none t) e))
    (cases_lt s (length m.positions.items))

-- The limits of every query, from the machine's own law.
pub machine_lawful : (m : Machine) → Lawful (machine_meaning m)
machine_lawful m = record {
  some = m.start;
  most = omega (arith, m.few);
  ends = λ s e. (m.ends s e, m.few);
  steps = λ s l t e.
      let p = and_parts (linked m s t) (label_of m t == l) e in
      (linked_from m s t p.0, omega (arith, m.labelled t, eqb-true _ _ p.1), m.within s t p.0, m.few);
}

-- What every machine keeps besides: at most 32 states, no move into state 0, and one label on all moves into a state.
pub record MachineLaw (m : Meaning) : Type 0 where
  pub size : m.size ≤ most_states
  pub start : (s l t : ℕ) → IsTrue (m.moves s l t) → 1 ≤ t
  pub one_label : (s s' l l' t : ℕ) → IsTrue (m.moves s l t) → IsTrue (m.moves s' l' t) → l ≡ l'

-- The machine of one state that accepts nothing and has no moves or labels.
pub record Empty (m : Machine) : Type 0 where
  pub size : (machine_meaning m).size ≡ 1
  pub ends : (s : ℕ) → (machine_meaning m).accepting s ≡ false
  pub steps : (s l t : ℕ) → (machine_meaning m).moves s l t ≡ false
  pub labels : (t : ℕ) → label_of m t ≡ 0
