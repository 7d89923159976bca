-- The machine of a whole expression accepts just the words that lead through it.
use Rattle.std.proofs.Common.{◌≡◌, ℕ, ◌<◌, ◌≤◌, true, List, [], ◌∷◌, get_or, sym, refl, ap, ◌∙◌, arith}
use Rattle.std.proofs.lemmas.Bool.{and_parts}
use Rattle.std.proofs.lemmas.Bool.Decides.{nat_tests}
use Rattle.masks.specs.Members.{member}
use Rattle.query.specs.Words.{Leads, Accepts}
use Rattle.expression.specs.declared.machine.Machine.{Machine}
use Rattle.expression.specs.declared.part.Part.{Part}
use Rattle.expression.specs.Fragments.{Walk, Through, Fragment}
use Rattle.expression.specs.Built.{Finished}
use Rattle.expression.specs.Machines.{machine_meaning, linked, label_of, letters_in}

module _ {m m' : Machine} {p : Part} {P : List ℕ → Type 0} (f : Fragment (linked m) (label_of m) 0 (letters_in m) p P) (fin : Finished m m' p) where
  same_label : (t : ℕ) → label_of m' t ≡ label_of m t
  same_label t = ap (λ xs. get_or xs t 0) fin.labels

  -- After the start, the machine's moves are the fragment's.
  from_leads : (w : List ℕ) (s t : ℕ) → 0 < s → s ≤ letters_in m → Leads (machine_meaning m') s w t → Walk (linked m) (label_of m) s w t × (0 < t)
  from_leads [] s t a b e = grind arith
  from_leads (l ∷ w) s t a b x =
      let q = and_parts (linked m' s x.0) _ x.1 in
      let move = sym (fin.follow s x.0 a) ∙ q.0 in
      let r = f.stays s x.0 a b move in
      let rest = from_leads w x.0 t r.0 r.1 x.2 in
      ((x.0, move, grind (arith, nat_tests, same_label x.0), rest.0), rest.1)

  to_leads : (w : List ℕ) (s t : ℕ) → 0 < s → s ≤ letters_in m → Walk (linked m) (label_of m) s w t → Leads (machine_meaning m') s w t
  to_leads [] s t a b e = e
  to_leads (l ∷ w) s t a b x =
      let r = f.stays s x.0 a b x.1 in
      (x.0, grind (arith, nat_tests, fin.follow s x.0, same_label x.0), to_leads w x.0 t r.0 r.1 x.3)

  -- The start accepts where nothing will do; another state where it is a last letter.
  start_ends : (t : ℕ) → 0 ≡ t → member m'.accepting t ≡ true → p.nullable ≡ true
  start_ends t a e = grind (arith, nat_tests, fin.ends t, f.own.last t)

  later_ends : (t : ℕ) → 0 < t → member m'.accepting t ≡ true → member p.last t ≡ true
  later_ends t a e = grind (arith, nat_tests, fin.ends t)

  pub accepts_says : (w : List ℕ) → Accepts (machine_meaning m') w → P w
  accepts_says [] a = f.says [] (start_ends a.0 a.1 a.2)
  accepts_says (l ∷ w) a =
      let x = a.1 in
      let q = and_parts (linked m' 0 x.0) _ x.1 in
      let first = sym (fin.start x.0) ∙ q.0 in
      let r = f.own.first x.0 first in
      let walk = from_leads w x.0 a.0 r.0 r.1 x.2 in
      f.says (l ∷ w) (x.0, a.0, first, grind (arith, nat_tests, same_label x.0), walk.0, later_ends a.0 walk.1 a.2)

  through_accepts : (w : List ℕ) → Through (linked m) (label_of m) p w → Accepts (machine_meaning m') w
  through_accepts [] e = (0, refl, grind (arith, nat_tests, fin.ends 0))
  through_accepts (l ∷ w) x =
      let r = f.own.first x.0 x.2 in
      (x.1, (x.0, grind (arith, nat_tests, fin.start x.0, same_label x.0), to_leads w x.0 x.1 r.0 r.1 x.4), grind (arith, fin.ends x.1))

  pub accepts_takes : (w : List ℕ) → P w → Accepts (machine_meaning m') w
  accepts_takes w q = through_accepts w (f.takes w q)
