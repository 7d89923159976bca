-- A machine keeps its own law while it is built.
use Rattle.std.proofs.Common.{◌≡◌, ℕ, ◌+◌, ◌<◌, ◌≤◌, true, false, ◌&&◌, ◌||◌, ltb, List, [], ◌∷◌, ◌++◌, length, get_or, set, ◌∙◌, ap, ◌⊎◌, ⊎_elim, arith}
use Rattle.std.specs.List.{refill}
use Rattle.std.proofs.lemmas.Grind.{common_steps, get_or-set_at}
use Rattle.std.proofs.lemmas.List.{length-map, map-append, map-set, length-set, get_or-set_other, get_or-map}
use Rattle.std.proofs.lemmas.Bool.{cases_Bool}
use Rattle.std.proofs.lemmas.Bool.Decides.{nat_tests}
use Rattle.std.proofs.Math.Seq.{map-set_same}
use Rattle.masks.specs.Members.{member}
use Rattle.expression.specs.declared.machine.Machine.{Machine}
use Rattle.expression.specs.declared.machine.Position.{Position}
use Rattle.expression.specs.Machines.{linked, linked_from}
use Rattle.expression.specs.Rows.{labels_in, rows_in}

-- There is a label for each state.
pub names : (m : Machine) → length (labels_in m.positions.items) ≡ length m.positions.items
names m = length-map m.positions.items _

-- No move leads from or to a state that is not there.
pub not_from : (m : Machine) (s t : ℕ) → length m.positions.items ≤ s → linked m s t ≡ false
not_from m s t out = ⊎_elim (λ e. absurd (let z = linked_from m s t e in omega arith)) (λ e. e) (cases_Bool (linked m s t))

pub not_into : (m : Machine) (s t : ℕ) → length m.positions.items ≤ t → linked m s t ≡ false
not_into m s t out = ⊎_elim (λ e. absurd (let z = m.within s t e in omega arith)) (λ e. e) (cases_Bool (linked m s t))

pub ruleset no_move = (not_from, not_into)

-- A slice that was lent whole and given back as long as it was is the list then.
pub given_back : (xs ws : List Position) → length ws ≡ length xs → refill (length xs) xs ws ≡ ws
given_back xs ws e = grind (arith, common_steps)

-- A row of nothing at the end names nothing.
pub push_zero : (rs : List ℕ) (s : ℕ) → ◌≡◌ {A = ℕ} (get_or (rs ++ 0 ∷ []) s 0) (get_or rs s 0)
push_zero rs s = grind (arith, common_steps)

pub push_row : (ps : List Position) (p : Position) → p.next ≡ 0 → (s t : ℕ) → member (get_or (rows_in (ps ++ p ∷ [])) s 0) t ≡ member (get_or (rows_in ps) s 0) t
push_row ps p none s t = ap (λ rs. member (get_or rs s 0) t) (map-append (λ q. q.next) ps (p ∷ []) ∙ ap (λ n. rows_in ps ++ n ∷ []) none) ∙ ap (λ (x : ℕ). member x t) (push_zero (rows_in ps) s)

-- Labels stay small where a small one is put after them.
pub push_small : (ps : List Position) (p : Position) (t : ℕ) → ((s : ℕ) → get_or (labels_in ps) s 0 ≤ 15) → p.label ≤ 15 → get_or (labels_in (ps ++ p ∷ [])) t 0 ≤ 15
push_small ps p t sofar small = rw (map-append (λ q. q.label) ps (p ∷ [])) (at_end (labels_in ps) p.label t (sofar t) small)
  where
    at_end : (ls : List ℕ) (l t : ℕ) → get_or ls t 0 ≤ 15 → l ≤ 15 → get_or (ls ++ l ∷ []) t 0 ≤ 15
    at_end ls l t a b = grind (arith, common_steps)

-- The rows below k have the states of `to` besides, where they are in `from`; all else is as it was.
pub record Linked (old new : List Position) (from to k : ℕ) : Type 0 where
  pub places : length new ≡ length old
  pub labels : labels_in new ≡ labels_in old
  pub rows : (s t : ℕ) → member (get_or (rows_in new) s 0) t ≡ (member (get_or (rows_in old) s 0) t || ((ltb s k && member from s) && member to t))

-- One place more: its label stays, and its set of next states has those of `to` besides where it is in `from`.
pub link_one : (old new : List Position) (from to k : ℕ) (p d : Position) → Linked old new from to k → k < length old → p.label ≡ (get_or new k d).label → ((j : ℕ) → member p.next j ≡ (member (get_or new k d).next j || (member from k && member to j))) → Linked old (set new k p) from to (k + 1)
link_one old new from to k p d sofar here label next = record {
  places = length-set new k p ∙ sofar.places;
  labels = map-set_same (λ q. q.label) new k p d label ∙ sofar.labels;
  rows = λ s t. grind (arith, nat_tests, map-set (λ q. q.next) new k p, length-map new (λ q. q.next), get_or-map (λ q. q.next) new k d 0, get_or-set_at, get_or-set_other, sofar.rows s t, sofar.rows k t, next t);
}

-- A next state of a table after one place was put in is one of that place, or one of the table before.
pub row_cases : (ps : List Position) (k : ℕ) (p : Position) (s t : ℕ) → k < length ps → member (get_or (rows_in (set ps k p)) s 0) t ≡ true → ((s ≡ k) × (member p.next t ≡ true)) ⊎ (member (get_or (rows_in ps) s 0) t ≡ true)
row_cases ps k p s t inside e = grind (arith, map-set (λ q. q.next) ps k p, length-map ps (λ q. q.next), get_or-set_at, get_or-set_other)
