use Rattle.std.proofs.Common.{refl, rules, arith}
use Rattle.std.proofs.lemmas.Result.{err_from_is_err_and}
use Rattle.expression.proofs.Whole.{refused, refused_count}
use Rattle.expression.proofs.machine.Machine.read.Goals as goal

pub returns-then-is_empty : goal.returns-then-is_empty
returns-then-is_empty c = (refused_count c.args.words.now (grind arith), refl)

pub returns-in_err-self : goal.returns-in_err-self
returns-in_err-self c =
    let p = err_from_is_err_and c.from_residual.result c.from_residual.ensures.1 in
    rw (p.1, p.2) (refused c.args.words.now c.in_err-self.field-0.0 (grind arith) (search rules) c.in_err-self.ensures, refl)
