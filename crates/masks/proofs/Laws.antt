-- How membership goes through the operations on masks: union, one state, no state, and past the last place.
use Rattle.std.proofs.Common.{◌≡◌, ◌≢◌, ℕ, zero, suc, ◌-◌, ◌*◌, ◌/◌, ◌%◌, ◌^◌, ◌<◌, ◌≤◌, max, Bool, false, ◌&&◌, ◌||◌, eqb, sym, ap, ◌∙◌, ⊎_elim, arith}
use Rattle.std.specs.Prelude.{not, Some}
use Rattle.std.specs.Int.{bit_at, trailing_zeros, w32}
use Rattle.std.specs.Int.Bits.{bit_and, bit_or}
use Rattle.std.proofs.lemmas.Nat.{one_shl, and_le_r}
use Rattle.std.proofs.lemmas.Nat.Bits.{bit_at_or, bit_at-lt, bit_at-zero, bit_at_above, bit_at-pow_same, bit_at-pow_other, bit_at_lowest, bit_at-suc, bit_at_and, bit_at-trailing_zeros}
use Rattle.std.proofs.lemmas.Bool.{cases_eq, cases_lt, eq-eqb, ne_eqb, lt-ltb}
use Rattle.std.proofs.lemmas.Bool.Decides.{nat_tests}
use Rattle.masks.specs.Members.{member, with_member, TakesFirst}

odd_max : (x y : ℕ) → x < 2 → y < 2 → eqb (max x y) 1 ≡ (eqb x 1 || eqb y 1)
odd_max x y hx hy = grind (arith, nat_tests)

-- A state is in the union where it is in either set.
pub member_or : (a b k : ℕ) → member (bit_or a b) k ≡ (member a k || member b k)
unfolding member
member_or a b k = ap (λ (n : ℕ). eqb n 1) (bit_at_or a b k) ∙ odd_max (bit_at a k) (bit_at b k) (bit_at-lt a k) (bit_at-lt b k)

-- No state is in the empty set.
pub member_none : (k : ℕ) → member 0 k ≡ false
unfolding member
member_none k = ap (λ (n : ℕ). eqb n 1) (bit_at-zero k)

-- A mask of 32 bits has no state from 32 on.
pub member_above : (set k : ℕ) → set < 2 ^ 32 → 32 ≤ k → member set k ≡ false
unfolding member
member_above set k small high = ap (λ (n : ℕ). eqb n 1) (bit_at_above set 32 k small high)

-- 2 ^ k is the set of state k alone.
pub member_one : (k j : ℕ) → member (2 ^ k) j ≡ eqb j k
unfolding member
member_one k j =
    ⊎_elim (λ e. ap (λ (n : ℕ). eqb (bit_at (2 ^ k) n) 1) e ∙ ap (λ (n : ℕ). eqb n 1) (bit_at-pow_same k) ∙ sym (eq-eqb j k e))
    (λ ne. ap (λ (n : ℕ). eqb n 1) (bit_at-pow_other k j ne) ∙ sym (ne_eqb j k ne)) (cases_eq j k)

-- One state put in by `set | (1 << k)`, as a mask of 32 bits has it.
pub member_with : (set k j : ℕ) → k < 32 → member (bit_or set ((1 * 2 ^ k) % 2 ^ 32)) j ≡ with_member set k j
member_with set k j h =
    ap (λ (n : ℕ). member (bit_or set n) j) (one_shl k 32 h)
    ∙ member_or set (2 ^ k) j ∙ ap (λ (b : Bool). member set j || b) (member_one k j)
    ∙ ap (λ (b : Bool). member set j || (b && eqb j k)) (sym (lt-ltb k 32 h))

-- A number less one, where its lowest bit that is 1 is bit k: that bit is then 0, and the ones above it stay.
one_less : (k n : ℕ) → 0 < n → bit_at n k ≡ 1 → ((i : ℕ) → i < k → bit_at n i ≡ 0) → (bit_at (n - 1) k ≡ 0) × ((j : ℕ) → k < j → bit_at (n - 1) j ≡ bit_at n j)
one_less zero n some one low = (omega (arith, bit_at_lowest n, bit_at_lowest (n - 1), one), above)
  where
    half : (n - 1) / 2 ≡ n / 2
    half = omega (arith, bit_at_lowest n, one)

    above : (j : ℕ) → 0 < j → bit_at (n - 1) j ≡ bit_at n j
    above zero l = absurd (omega arith)
    above (suc i) l = bit_at-suc (n - 1) i ∙ ap (λ (x : ℕ). bit_at x i) half ∙ sym (bit_at-suc n i)
one_less (suc k) n some one low =
    let even : n % 2 ≡ 0 = sym (bit_at_lowest n) ∙ low 0 (omega arith) in
    let rest = one_less k (n / 2) (omega (arith, even, some)) (sym (bit_at-suc n k) ∙ one) (λ i l. sym (bit_at-suc n i) ∙ low (suc i) (omega arith)) in
    (half even k ∙ rest.0, above even rest.1)
  where
    half : n % 2 ≡ 0 → (i : ℕ) → bit_at (n - 1) (suc i) ≡ bit_at (n / 2 - 1) i
    half even i = let e : (n - 1) / 2 ≡ n / 2 - 1 = omega (arith, even, some) in bit_at-suc (n - 1) i ∙ ap (λ (x : ℕ). bit_at x i) e

    above : n % 2 ≡ 0 → ((j : ℕ) → k < j → bit_at (n / 2 - 1) j ≡ bit_at (n / 2) j) → (j : ℕ) → suc k < j → bit_at (n - 1) j ≡ bit_at n j
    above even rest zero l = absurd (omega arith)
    above even rest (suc i) l = half even i ∙ rest i (omega arith) ∙ sym (bit_at-suc n i)

taken : (b b' j k : ℕ) → b < 2 → (j ≡ k → b' ≡ 0) → (j ≢ k → b' ≡ b) → eqb b' 1 ≡ (eqb b 1 && not (eqb j k))
taken b b' j k small same other = grind (arith, nat_tests, same, other)

-- The lowest state k is taken out by `set & (set - 1)`.
member_first : (set k j : ℕ) → 0 < set → bit_at set k ≡ 1 → ((i : ℕ) → i < k → bit_at set i ≡ 0) → member (bit_and set (set - 1)) j ≡ (member set j && not (eqb j k))
unfolding member
member_first set k j some one low =
    let rest = bit_and set (set - 1) in
    let less = one_less k set some one low in
    let same : j ≡ k → bit_at rest j ≡ 0 = λ e. ap (bit_at rest) e ∙ omega (arith, bit_at_and set (set - 1) k, less.0) in
    let below : j < k → bit_at rest j ≡ bit_at set j = λ l. omega (arith, bit_at_and set (set - 1) j, low j l) in
    let above : k < j → bit_at rest j ≡ bit_at set j = λ l. omega (arith, bit_at_and set (set - 1) j, less.1 j l) in
    let other : j ≢ k → bit_at rest j ≡ bit_at set j = λ ne. ⊎_elim below (λ l. above (grind (arith, ne))) (cases_lt j k) in
    taken (bit_at set j) (bit_at rest j) j k (bit_at-lt set j) same other

-- It is the number of the mask's trailing zeros, and the mask without it is a smaller number.
pub takes_first : (set : ℕ) → 0 < set → set < 2 ^ 32 → TakesFirst set (bit_and set (set - 1)) (Some (trailing_zeros w32 set)) × (bit_and set (set - 1) < set)
unfolding member
takes_first set some small =
    let lowest = bit_at-trailing_zeros w32 set some small in (
      (
        ap (λ (n : ℕ). eqb n 1) lowest.1,
        lowest.0,
        λ j l. ap (λ (n : ℕ). eqb n 1) (lowest.2 j l),
        λ j. member_first set (trailing_zeros w32 set) j some lowest.1 lowest.2,
      ),
      omega (arith, and_le_r set (set - 1), some),
    )

-- What the goals of the two functions need.
pub ruleset mask_laws = (member_above, member_with, member_or)
