use Rattle.std.proofs.Common.{◌≡◌, ◌≤◌, get_or, set, length, refl, sym, subst, ap, ⊎_elim, ◌∙◌, arith}
use Rattle.std.proofs.lemmas.Bool.{or_cases, and_parts, eqb-true}
use Rattle.std.proofs.lemmas.List.{length-set}
use Rattle.std.proofs.Math.Seq.{map-set_same}
use Rattle.masks.specs.Members.{member}
use Rattle.expression.specs.declared.machine.Position.{Position}
use Rattle.expression.specs.Rows.{labels_in, rows_in}
use Rattle.expression.proofs.Machines.{given_back, row_cases}
use Rattle.expression.proofs.machine.Machine.finish.Goals as goal

pub invariant_of-self : goal.invariant_of-self
invariant_of-self c =
    let m = c.args.self.now in
    let ps = m.positions.items in
    let part = c.args.whole in
    let xs = c.deref_mut.result.now in
    let lent : xs ≡ ps = c.deref_mut.ensures.value in
    let p : Position = record { label = (get_or xs 0 c.index-deref_mut-0.result).label; next = part.first } in
    let long : length (set xs 0 p) ≡ length ps = length-set xs 0 p ∙ ap length lent in
    let some : 1 ≤ length xs = omega (arith, m.start, ap length lent) in
    rw (given_back ps (set xs 0 p) long)
    (record {
      start = omega (arith, long, m.start);
      few = omega (arith, long, m.few);
      ends = λ s e.
          ⊎_elim (λ x. let z = (c.requires.last s x).1 in omega (arith, z, long, m.start)) (λ x. let z = eqb-true s 0 (and_parts part.nullable _ x).1 in omega (arith, z, long, m.start))
          (or_cases (member part.last s) _ (sym (c.accepting-self.ensures s) ∙ e));
      into = λ s t e.
          ⊎_elim (λ x. (c.requires.first t x.1).0) (λ x. m.into s t (ap (λ qs. member (get_or (rows_in qs) s 0) t) (sym lent) ∙ x))
          (row_cases xs 0 p s t some e);
      within = λ s t e.
          ⊎_elim (λ x. let z = (c.requires.first t x.1).1 in omega (arith, z, long, m.start))
          (λ x. let z = m.within s t (ap (λ qs. member (get_or (rows_in qs) s 0) t) (sym lent) ∙ x) in omega (arith, z, long)) (row_cases xs 0 p s t some e);
      labelled = λ t.
          subst (λ ls. get_or ls t 0 ≤ 15) (sym (map-set_same (λ q. q.label) xs 0 p c.index-deref_mut-0.result refl ∙ ap labels_in lent)) (m.labelled t);
    })
