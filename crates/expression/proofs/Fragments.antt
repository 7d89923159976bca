-- What each construction of the position automaton does to the words that lead through it.
use Rattle.std.proofs.Common.{◌≡◌, ℕ, ◌+◌, ◌<◌, ◌≤◌, Bool, true, false, ◌&&◌, ◌||◌, eqb, ◌⊎◌, List, [], ◌∷◌, ◌++◌, sym, refl, ap, ◌∙◌, subst, inl, inr, ⊎_elim, append_assoc, append-nil, arith}
use Rattle.std.proofs.lemmas.Bool.{or_cases, and_parts}
use Rattle.std.proofs.lemmas.Bool.Decides.{nat_tests}
use Rattle.masks.specs.Members.{member}
use Rattle.expression.specs.declared.part.Part.{Part}
use Rattle.expression.specs.Fragments.{Walk, Through, Fragment}
use Rattle.expression.specs.Language.{Joined, Many, none, more}
use Rattle.expression.specs.Parts.{Within, Either, Then, optional}

pub walk_join : (F : ℕ → ℕ → Bool) (L : ℕ → ℕ) (u v : List ℕ) (s x t : ℕ) → Walk F L s u x → Walk F L x v t → Walk F L s (u ++ v) t
walk_join F L [] v s x t e q = subst (λ (y : ℕ). Walk F L y v t) (sym e) q
walk_join F L (l ∷ u) v s x t p q = (p.0, p.1, p.2, walk_join F L u v p.0 x t p.3 q)

-- Walks under one rule are walks under another, where each step of the first from a place in the range is one of the second, and stays in the range.
pub walk_map : (F G : ℕ → ℕ → Bool) (L M : ℕ → ℕ) (R : ℕ → Type 0) → ((s u : ℕ) → R s → F s u ≡ true → (G s u ≡ true) × (M u ≡ L u) × R u) → (w : List ℕ) (s t : ℕ) → R s → Walk F L s w t → Walk G M s w t × R t
walk_map F G L M R step [] s t r e = (e, subst R e r)
walk_map F G L M R step (l ∷ w) s t r p =
    let q = step s p.0 r p.1 in
    let rest = walk_map F G L M R step w p.0 t q.2 p.3 in
    ((p.0, q.0, q.1 ∙ p.2, rest.0), rest.1)

-- Under one rule and under another, in a range that the first rule does not leave, where each of its moves there is one of the second too.
module _ (F G : ℕ → ℕ → Bool) (L M : ℕ → ℕ) (lo hi : ℕ) (step : (s u : ℕ) → lo < s → s ≤ hi → F s u ≡ true → (G s u ≡ true) × ((lo < u) × (u ≤ hi))) (labels : (u : ℕ) → lo < u → u ≤ hi → M u ≡ L u) where
  walk_within : (w : List ℕ) (s t : ℕ) → lo < s → s ≤ hi → Walk F L s w t → Walk G M s w t × ((lo < t) × (t ≤ hi))
  walk_within w s t a b walk =
      walk_map F G L M (λ (x : ℕ). (lo < x) × (x ≤ hi)) (λ x u r e. let q = step x u r.0 r.1 e in (q.0, labels u q.1.0 q.1.1, q.1)) w s t (a, b) walk

  through_map : {p : Part} → Within lo hi p → (w : List ℕ) → Through F L p w → Through G M p w
  through_map own [] e = e
  through_map own (l ∷ w) x =
      let r = own.first x.0 x.2 in
      (x.0, x.1, x.2, labels x.0 r.0 r.1 ∙ x.3, (walk_within w x.0 x.1 r.0 r.1 x.4).0, x.5)

-- Among the letters of a fragment the two rules agree.
pub record Agree (F G : ℕ → ℕ → Bool) (L M : ℕ → ℕ) (lo hi : ℕ) : Type 0 where
  pub moves : (s t : ℕ) → lo < s → s ≤ hi → G s t ≡ F s t
  pub labels : (t : ℕ) → lo < t → t ≤ hi → M t ≡ L t

-- So what came before stays as it is while later letters are read.
pub fragment_kept : {F G : ℕ → ℕ → Bool} {L M : ℕ → ℕ} {lo hi : ℕ} {p : Part} {P : List ℕ → Type 0} → Agree F G L M lo hi → Fragment F L lo hi p P → Fragment G M lo hi p P
fragment_kept {F} {G} {L} {M} {lo} {hi} agree f = record {
  own = f.own;
  stays = grind arith;
  says = λ w x. f.says w (through_map G F M L lo hi (grind arith) (grind arith) f.own w x);
  takes = λ w q. through_map F G L M lo hi (grind arith) (grind arith) f.own w (f.takes w q);
}

-- A walk from a letter of the fragment ends at one.
walk_stays : {F : ℕ → ℕ → Bool} {L : ℕ → ℕ} {lo hi : ℕ} {p : Part} {P : List ℕ → Type 0} → Fragment F L lo hi p P → (w : List ℕ) (s t : ℕ) → lo < s → s ≤ hi → Walk F L s w t → (lo < t) × (t ≤ hi)
walk_stays {F} {L} {lo} {hi} f w s t a b walk = (walk_within F F L L lo hi (grind arith) (grind arith) w s t a b walk).1

-- Where the part may be nothing besides.
pub through_optional : (F : ℕ → ℕ → Bool) (L : ℕ → ℕ) (p : Part) (w : List ℕ) → Through F L p w → Through F L (optional p) w
through_optional F L p [] e = refl
through_optional F L p (l ∷ w) x = x

pub fragment_maybe : {F : ℕ → ℕ → Bool} {L : ℕ → ℕ} {lo hi : ℕ} {p : Part} {P : List ℕ → Type 0} → Fragment F L lo hi p P → Fragment F L lo hi (optional p) (λ w. (w ≡ []) ⊎ P w)
fragment_maybe {F} {L} {lo} {hi} {p} {P} f = record { own = grind arith; stays = f.stays; says = says; takes = takes }
  where
    says : (w : List ℕ) → Through F L (optional p) w → (w ≡ []) ⊎ P w
    says [] e = inl refl
    says (l ∷ w) x = inr (f.says (l ∷ w) x)

    takes : (w : List ℕ) → (w ≡ []) ⊎ P w → Through F L (optional p) w
    takes w (inl e) = rw e refl
    takes w (inr q) = through_optional F L p w (f.takes w q)

-- One letter, from which no move leads yet.
pub fragment_letter : {F : ℕ → ℕ → Bool} {L : ℕ → ℕ} {lo hi l : ℕ} {p : Part} → hi ≡ lo + 1 → p.nullable ≡ false → ((x : ℕ) → member p.first x ≡ eqb x hi) → ((x : ℕ) → member p.last x ≡ eqb x hi) → L hi ≡ l → ((t : ℕ) → F hi t ≡ false) → Fragment F L lo hi p (λ w. w ≡ l ∷ [])
fragment_letter {F} {L} {lo} {hi} {l} {p} next some first last label still = record {
  own = record { first = λ x e. grind (arith, nat_tests, first x); last = λ x e. grind (arith, nat_tests, last x) };
  stays = λ s t a b e. let q : s ≡ hi = omega arith in grind (arith, still t);
  says = says;
  takes = λ w e. rw e (hi, hi, grind (arith, nat_tests, first hi), label, refl, grind (arith, nat_tests, last hi));
}
  where
    says : (w : List ℕ) → Through F L p w → w ≡ l ∷ []
    says [] e = grind (arith, some)
    says (m ∷ []) x = grind (arith, nat_tests, first x.0)
    says (m ∷ n ∷ w) x = grind (arith, nat_tests, first x.0, still x.4.0)

-- One part or another, with letters of their own.
pub fragment_either : {F : ℕ → ℕ → Bool} {L : ℕ → ℕ} {lo mid hi : ℕ} {a b p : Part} {P Q : List ℕ → Type 0} → lo ≤ mid → mid ≤ hi → Fragment F L lo mid a P → Fragment F L mid hi b Q → Either a b p → Fragment F L lo hi p (λ w. P w ⊎ Q w)
fragment_either {F} {L} {lo} {mid} {hi} {a} {b} {p} {P} {Q} low high f g e = record { own = grind arith; stays = grind arith; says = says; takes = takes }
  where
    ends : (w : List ℕ) (s t : ℕ) → Walk F L s w t → member p.first s ≡ true → member p.last t ≡ true → ((member a.first s ≡ true) × (member a.last t ≡ true)) ⊎ ((member b.first s ≡ true) × (member b.last t ≡ true))
    ends w s t walk x y = grind (arith, walk_stays f w s t, walk_stays g w s t)

    says : (w : List ℕ) → Through F L p w → P w ⊎ Q w
    says [] n = grind (arith, f.says [], g.says [])
    says (l ∷ w) x =
        ⊎_elim (λ q. inl (f.says (l ∷ w) (x.0, x.1, q.0, x.3, x.4, q.1))) (λ q. inr (g.says (l ∷ w) (x.0, x.1, q.0, x.3, x.4, q.1)))
        (ends w x.0 x.1 x.4 x.2 x.5)

    left : (w : List ℕ) → Through F L a w → Through F L p w
    left [] n = grind arith
    left (l ∷ w) x = (x.0, x.1, grind arith, x.3, x.4, grind arith)

    right : (w : List ℕ) → Through F L b w → Through F L p w
    right [] n = grind arith
    right (l ∷ w) x = (x.0, x.1, grind arith, x.3, x.4, grind arith)

    takes : (w : List ℕ) → P w ⊎ Q w → Through F L p w
    takes w (inl q) = left w (f.takes w q)
    takes w (inr q) = right w (g.takes w q)

-- The rule G has the moves of F and those from each letter of one set to each of another.
pub record Linked (F G : ℕ → ℕ → Bool) (from to : ℕ) : Type 0 where
  pub moves : (s t : ℕ) → G s t ≡ (F s t || (member from s && member to t))

module _ {F G : ℕ → ℕ → Bool} {from to : ℕ} (linked : Linked F G from to) where
  old_move : (s t : ℕ) → F s t ≡ true → G s t ≡ true
  old_move s t e = grind arith

  new_move : (s t : ℕ) → member from s ≡ true → member to t ≡ true → G s t ≡ true
  new_move s t a b = grind arith

  move_cases : (s t : ℕ) → G s t ≡ true → (F s t ≡ true) ⊎ ((member from s ≡ true) × (member to t ≡ true))
  move_cases s t e = grind arith

  walk_old : (L : ℕ → ℕ) (w : List ℕ) (s t : ℕ) → Walk F L s w t → Walk G L s w t
  walk_old L [] s t walk = walk
  walk_old L (l ∷ w) s t walk = (walk.0, old_move s walk.0 walk.1, walk.2, walk_old L w walk.0 t walk.3)

  through_old : (L : ℕ → ℕ) (p : Part) (w : List ℕ) → Through F L p w → Through G L p w
  through_old L p [] n = n
  through_old L p (l ∷ w) x = (x.0, x.1, x.2, x.3, walk_old L w x.0 x.1 x.4, x.5)

  -- A walk, a new move and a walk.
  walk_across : (L : ℕ → ℕ) (u v : List ℕ) (l s x y t : ℕ) → Walk G L s u x → member from x ≡ true → member to y ≡ true → L y ≡ l → Walk G L y v t → Walk G L s (u ++ l ∷ v) t
  walk_across L u v l s x y t front a b label back = walk_join G L u (l ∷ v) s x t front (y, new_move x y a b, label, back)

-- One part and then another: the new moves lead from the first's last letters to the second's first.
module _ {F G : ℕ → ℕ → Bool} {L : ℕ → ℕ} {lo mid hi : ℕ} {a b p : Part} {P Q : List ℕ → Type 0} (low : lo ≤ mid) (high : mid ≤ hi) (f : Fragment F L lo mid a P) (g : Fragment F L mid hi b Q) (linked : Linked F G a.last b.first) (e : Then a b p) where
  -- In the second part there are only its own moves.
  second_walk : (w : List ℕ) (s t : ℕ) → mid < s → s ≤ hi → Walk G L s w t → Walk F L s w t × ((mid < t) × (t ≤ hi))
  second_walk = walk_within G F L L mid hi (λ s u x y m. grind (arith, linked.moves s u, f.own.last s)) (grind arith)

  -- A word that ends in the first part has nothing of the second.
  ends_first : (t : ℕ) → t ≤ mid → member p.last t ≡ true → (b.nullable ≡ true) × (member a.last t ≡ true)
  ends_first t h m = grind arith

  ends_second : (t : ℕ) → mid < t → member p.last t ≡ true → member b.last t ≡ true
  ends_second t h m = grind arith

  -- A walk from the first part to an end goes on to the end of a word of it, and a word of the second is left.
  first_walk : (w : List ℕ) (s t : ℕ) → lo < s → s ≤ mid → Walk G L s w t → member p.last t ≡ true → (u : List ℕ) × (v : List ℕ) × (x : ℕ) × (w ≡ u ++ v) × Walk F L s u x × (member a.last x ≡ true) × Q v
  first_walk [] s t h k walk end = let q = ends_first s k (grind arith) in ([], [], s, refl, refl, q.1, g.says [] q.0)
  first_walk (l ∷ w) s t h k walk end =
      ⊎_elim
      (λ old.
      let r = f.stays s walk.0 h k old in
      let q = first_walk w walk.0 t r.0 r.1 walk.3 end in
      (l ∷ q.0, q.1, q.2, ap (λ us. l ∷ us) q.3, (walk.0, old, walk.2, q.4), q.5, q.6))
      (λ new.
      let r = g.own.first walk.0 new.1 in
      let q = second_walk w walk.0 t r.0 r.1 walk.3 in
      ([], l ∷ w, s, refl, refl, new.0, g.says (l ∷ w) (walk.0, t, new.1, walk.2, q.0, ends_second t q.1.0 end)))
      (move_cases linked s walk.0 walk.1)

  then_says : (w : List ℕ) → Through G L p w → Joined P Q w
  then_says [] n = ([], [], refl, f.says [] (grind arith), g.says [] (grind arith))
  then_says (l ∷ w) x =
      ⊎_elim
      (λ m.
      let r = f.own.first x.0 m in
      let q = first_walk w x.0 x.1 r.0 r.1 x.4 x.5 in
      (l ∷ q.0, q.1, ap (λ us. l ∷ us) q.3, f.says (l ∷ q.0) (x.0, q.2, m, x.3, q.4, q.5), q.6))
      (λ m.
      let n = and_parts a.nullable _ m in
      let r = g.own.first x.0 n.1 in
      let q = second_walk w x.0 x.1 r.0 r.1 x.4 in
      ([], l ∷ w, refl, f.says [] n.0, g.says (l ∷ w) (x.0, x.1, n.1, x.3, q.0, ends_second x.1 q.1.0 x.5)))
      (or_cases _ _ (sym (e.first x.0) ∙ x.2))

  then_joined : (u v : List ℕ) → Through G L a u → Through G L b v → Through G L p (u ++ v)
  then_joined [] [] m n = grind arith
  then_joined [] (l ∷ v) m x = (x.0, x.1, grind arith, x.3, x.4, grind arith)
  then_joined (l ∷ u) [] x n = rw (append-nil u) (x.0, x.1, grind arith, x.3, x.4, grind arith)
  then_joined (l ∷ u) (m ∷ v) x y = (x.0, y.1, grind arith, x.3, walk_across linked L u v m x.0 x.1 y.0 y.1 x.4 x.5 y.2 y.3 y.4, grind arith)

  pub fragment_then : Fragment G L lo hi p (Joined P Q)
  fragment_then = record {
    own = grind arith;
    stays = grind arith;
    says = then_says;
    takes = λ w j. rw j.2 (then_joined j.0 j.1 (through_old linked L a j.0 (f.takes j.0 j.3)) (through_old linked L b j.1 (g.takes j.1 j.4)));
  }

-- A part again and again: the new moves lead from its last letters to its first.
module _ {F G : ℕ → ℕ → Bool} {L : ℕ → ℕ} {lo hi : ℕ} {a : Part} {P : List ℕ → Type 0} (f : Fragment F L lo hi a P) (linked : Linked F G a.last a.first) where
  -- A walk to a last letter goes on to the end of a word of the part, and each new move begins another.
  rounds : (w : List ℕ) (s t : ℕ) → Walk G L s w t → member a.last t ≡ true → (u : List ℕ) × (v : List ℕ) × (x : ℕ) × (w ≡ u ++ v) × Walk F L s u x × (member a.last x ≡ true) × Many P v
  rounds [] s t walk end = ([], [], s, refl, refl, grind arith, none)
  rounds (l ∷ w) s t walk end =
      let r = rounds w walk.0 t walk.3 end in
      ⊎_elim (λ old. (l ∷ r.0, r.1, r.2, ap (λ us. l ∷ us) r.3, (walk.0, old, walk.2, r.4), r.5, r.6))
      (λ new. (
        [],
        l ∷ w,
        s,
        refl,
        refl,
        new.0,
        rw r.3 (more (l ∷ r.0) r.1 (f.says (l ∷ r.0) (walk.0, r.2, new.1, walk.2, r.4, r.5)) r.6),
      ))
      (move_cases linked s walk.0 walk.1)

  again_stays : (s t : ℕ) → lo < s → s ≤ hi → G s t ≡ true → (lo < t) × (t ≤ hi)
  again_stays s t x y m = grind arith

  again_join : (u v : List ℕ) → Through G L a u → Through G L a v → Through G L a (u ++ v)
  again_join [] v m n = n
  again_join (l ∷ u) [] x n = rw (append-nil u) x
  again_join (l ∷ u) (m ∷ v) x y = (x.0, y.1, x.2, x.3, walk_across linked L u v m x.0 x.1 y.0 y.1 x.4 x.5 y.2 y.3 y.4, y.5)

  again_many : (u v : List ℕ) → Through G L a u → Many P v → Through G L a (u ++ v)
  again_many u v x none = rw append-nil x
  again_many u v x (more y z p m) = rw (← append_assoc u y z) (again_many (u ++ y) z (again_join u y x (through_old linked L a y (f.takes y p))) m)

  again_says : (w : List ℕ) → Through G L a w → Joined P (Many P) w
  again_says [] n = ([], [], refl, f.says [] n, none)
  again_says (l ∷ w) x =
      let r = rounds w x.0 x.1 x.4 x.5 in
      (l ∷ r.0, r.1, ap (λ us. l ∷ us) r.3, f.says (l ∷ r.0) (x.0, r.2, x.2, x.3, r.4, r.5), r.6)

  pub fragment_plus : Fragment G L lo hi a (Joined P (Many P))
  fragment_plus = record {
    own = f.own;
    stays = again_stays;
    says = again_says;
    takes = λ w j. rw j.2 (again_many j.0 j.1 (through_old linked L a j.0 (f.takes j.0 j.3)) j.4);
  }

  star_says : (w : List ℕ) → Through G L (optional a) w → Many P w
  star_says [] n = none
  star_says (l ∷ w) x = let j = again_says (l ∷ w) x in rw j.2 (more j.0 j.1 j.3 j.4)

  star_takes : (w : List ℕ) → Many P w → Through G L (optional a) w
  star_takes w none = refl
  star_takes w (more u v p m) = through_optional G L a (u ++ v) (again_many u v (through_old linked L a u (f.takes u p)) m)

  pub fragment_star : Fragment G L lo hi (optional a) (Many P)
  fragment_star = record { own = grind arith; stays = again_stays; says = star_says; takes = star_takes }
