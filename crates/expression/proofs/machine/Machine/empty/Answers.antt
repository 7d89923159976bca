use Rattle.std.proofs.Common.{◌≡◌, ℕ, Bool, ◌&&◌, eqb, get_or, length, [], ◌∷◌, ◌++◌, ap, ◌∙◌, arith}
use Rattle.std.proofs.lemmas.Bool.{both_ways}
use Rattle.masks.proofs.Laws.{member_none}
use Rattle.expression.proofs.Machines.{push_row, push_small, push_zero}
use Rattle.expression.specs.Rows.{labels_in, rows_in}
use Rattle.masks.specs.Members.{member}
use Rattle.expression.specs.declared.machine.Position.{Position}
use Rattle.expression.proofs.machine.Machine.empty.Goals as goal

pub invariant_of-result : goal.invariant_of-result
invariant_of-result c =
    let p : Position = record { label = 0; next = c.none.result } in
    rw (c.push.ensures.items, c.new-positions.ensures)
    (record {
      start = omega arith;
      few = omega arith;
      ends = λ s e. absurd (both_ways _ (ap (λ (n : ℕ). member n s) c.none-2.ensures ∙ member_none s) e);
      into = λ s t e. absurd (both_ways _ (push_row [] p c.none.ensures s t ∙ member_none t) e);
      within = λ s t e. absurd (both_ways _ (push_row [] p c.none.ensures s t ∙ member_none t) e);
      labelled = λ t. push_small [] p t (λ s. omega arith) (omega arith);
    })

pub returns : goal.returns
returns c =
    let p : Position = record { label = 0; next = c.none.result } in
    let items : c.push.new.self.items ≡ p ∷ [] = c.push.ensures.items ∙ ap (λ ps. ps ++ p ∷ []) c.new-positions.ensures in
    record {
      size = ap length items;
      ends = λ s. ap (λ (n : ℕ). member n s) c.none-2.ensures ∙ member_none s;
      steps = λ s l t.
          ap (λ (b : Bool). b && eqb (get_or (labels_in c.push.new.self.items) t 0) l)
          (ap (λ ps. member (get_or (rows_in ps) s 0) t) items ∙ push_row [] p c.none.ensures s t ∙ member_none t);
      labels = λ t. ap (λ ps. get_or (labels_in ps) t 0) items ∙ push_zero [] t;
    }
