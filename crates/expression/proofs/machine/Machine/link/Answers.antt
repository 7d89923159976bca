use Rattle.std.proofs.Common.{◌≡◌, ◌≤◌, ◌&&◌, length, get_or, sym, ap, subst, ⊎_elim, ◌∙◌, arith}
use Rattle.std.proofs.lemmas.Bool.{or_cases, and_parts}
use Rattle.masks.specs.Members.{member}
use Rattle.expression.specs.Rows.{labels_in, rows_in}
use Rattle.expression.proofs.Machines.{given_back}
use Rattle.expression.proofs.machine.Machine.link.Goals as goal

pub invariant_of-self : goal.invariant_of-self
invariant_of-self c =
    let m = c.args.self.now in
    let ps = m.positions.items in
    let lent : c.as_mut_slice.result.now ≡ ps = c.as_mut_slice.ensures.value in
    let long : length c.link_all.new.positions ≡ length ps = c.link_all.ensures.places ∙ ap length lent in
    rw (given_back ps c.link_all.new.positions long)
    (record {
      start = omega (arith, long, m.start);
      few = omega (arith, long, m.few);
      ends = λ s e. omega (arith, m.ends s e, long);
      into = λ s t e.
          ⊎_elim (λ x. m.into s t (ap (λ xs. member (get_or (rows_in xs) s 0) t) (sym lent) ∙ x)) (λ x. (c.requires.to t (and_parts (member c.args.from s) (member c.args.to t) x).1).0)
          (or_cases _ (member c.args.from s && member c.args.to t) (sym (c.link_all.ensures.rows s t) ∙ e));
      within = λ s t e.
          ⊎_elim (λ x. omega (arith, long, m.within s t (ap (λ xs. member (get_or (rows_in xs) s 0) t) (sym lent) ∙ x)))
          (λ x. omega (arith, long, m.start, (c.requires.to t (and_parts (member c.args.from s) (member c.args.to t) x).1).1)) (or_cases _ (member c.args.from s && member c.args.to t) (sym (c.link_all.ensures.rows s t) ∙ e));
      labelled = λ t. subst (λ ls. get_or ls t 0 ≤ 15) (sym (c.link_all.ensures.labels ∙ ap labels_in lent)) (m.labelled t);
    })
