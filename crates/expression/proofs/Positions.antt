-- The machine's sets are those of the tree's positions, construction by construction.
use Rattle.std.proofs.Common.{◌≡◌, ℕ, ◌+◌, ◌<◌, ◌≤◌, true, false, ◌&&◌, ◌||◌, eqb, arith}
use Rattle.std.proofs.lemmas.Bool.Decides.{nat_tests}
use Rattle.masks.specs.Members.{member}
use Rattle.expression.specs.declared.machine.Machine.{Machine}
use Rattle.expression.specs.declared.part.Part.{Part}
use Rattle.expression.specs.Language.{Tree, letter, either, then, star, plus, maybe}
use Rattle.expression.specs.Machines.{linked, letters_in}
use Rattle.expression.specs.Parts.{Either, Then, optional}
use Rattle.expression.specs.Positions.{letter_count, comes_last, comes_after}
use Rattle.expression.specs.Readers.{Exact}

-- Positions of a tree lie after those before it, and within its letters.
last_range : (t : Tree) (k p : ℕ) → comes_last t k p ≡ true → (k < p) × (p ≤ k + letter_count t)
last_range (letter l) k p e = grind (arith, nat_tests)
last_range (either s t) k p e = grind (arith, last_range s k p, last_range t (k + letter_count s) p)
last_range (then s t) k p e = grind (arith, last_range s k p, last_range t (k + letter_count s) p)
last_range (star t) k p e = last_range t k p e
last_range (plus t) k p e = last_range t k p e
last_range (maybe t) k p e = last_range t k p e

pub after_range : (t : Tree) (k p q : ℕ) → comes_after t k p q ≡ true → (k < p) × (p ≤ k + letter_count t)
after_range (letter l) k p q e = grind arith
after_range (either s t) k p q e = grind (arith, after_range s k p q, after_range t (k + letter_count s) p q)
after_range (then s t) k p q e = grind (arith, after_range s k p q, after_range t (k + letter_count s) p q, last_range s k p)
after_range (star t) k p q e = grind (arith, after_range t k p q, last_range t k p)
after_range (plus t) k p q e = grind (arith, after_range t k p q, last_range t k p)
after_range (maybe t) k p q e = after_range t k p q e

-- So outside them the answer is no.
pub after_out : (t : Tree) (k p q : ℕ) → ((k < p) × (p ≤ k + letter_count t) → ⊥) → comes_after t k p q ≡ false
after_out t k p q out = grind (arith, after_range t k p q)

-- A letter.
pub exact_letter : (m : Machine) (lo k l own : ℕ) → k ≡ lo + 1 → letters_in m ≡ k → ((x : ℕ) → member own x ≡ eqb x k) → ((x : ℕ) → linked m k x ≡ false) → Exact m lo (record { nullable = false; first = own; last = own }) (letter l)
exact_letter m lo k l own next letters is still = grind arith

-- Two parts, the second after the first: which of their moves is which.
module _ (m1 m2 : Machine) (lo : ℕ) (p q : Part) (s t : Tree) (front : Exact m1 lo p s) (back : Exact m2 (letters_in m1) q t) (kept : (y x : ℕ) → y ≤ letters_in m1 → linked m2 y x ≡ linked m1 y x) where
  both_after : (y x : ℕ) → lo < y → y ≤ letters_in m2 → linked m2 y x ≡ (comes_after s lo y x || comes_after t (lo + letter_count s) y x)
  both_after y x a b = grind (arith, after_out)

  pub exact_either : (x : Part) → Either p q x → Exact m2 lo x (either s t)
  exact_either x e = grind (arith, both_after)

  pub exact_then : (m : Machine) (x : Part) → letters_in m ≡ letters_in m2 → ((y z : ℕ) → linked m y z ≡ (linked m2 y z || (member p.last y && member q.first z))) → Then p q x → Exact m lo x (then s t)
  exact_then m x letters follow e = grind (arith, both_after)

-- A part again and again.
module _ (m m' : Machine) (lo : ℕ) (p : Part) (t : Tree) (exact : Exact m lo p t) (letters : letters_in m' ≡ letters_in m) (follow : (y z : ℕ) → linked m' y z ≡ (linked m y z || (member p.last y && member p.first z))) where
  pub exact_plus : Exact m' lo p (plus t)
  exact_plus = grind arith

  pub exact_star : Exact m' lo (optional p) (star t)
  exact_star = grind arith

pub exact_maybe : (m : Machine) (lo : ℕ) (p : Part) (t : Tree) → Exact m lo p t → Exact m lo (optional p) (maybe t)
exact_maybe m lo p t exact = grind arith
