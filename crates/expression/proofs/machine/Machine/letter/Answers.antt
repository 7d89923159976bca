use Rattle.std.proofs.Common.{[], ◌∷◌, sym, ◌∙◌, arith}
use Rattle.std.proofs.lemmas.List.{length-append}
use Rattle.expression.specs.declared.machine.Position.{Position}
use Rattle.expression.proofs.Machines.{push_row, push_small}
use Rattle.expression.proofs.machine.Machine.letter.Goals as goal

pub invariant_of-self : goal.invariant_of-self
invariant_of-self c =
    let m = c.args.self.now in
    let ps = m.positions.items in
    let p : Position = record { label = c.args.label; next = c.none.result } in
    let longer = length-append ps (p ∷ []) in
    rw c.push.ensures.items
    (record {
      start = omega (arith, longer);
      few = omega (arith, longer, m.start);
      ends = λ s e. omega (arith, m.ends s e, longer);
      into = λ s t e. m.into s t (sym (push_row ps p c.none.ensures s t) ∙ e);
      within = λ s t e. omega (arith, m.within s t (sym (push_row ps p c.none.ensures s t) ∙ e), longer);
      labelled = λ t. push_small ps p t m.labelled c.requires.label;
    })
