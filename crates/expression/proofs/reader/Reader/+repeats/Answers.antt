use Rattle.std.proofs.Common.{rules}
use Rattle.expression.proofs.Readings.{repeated_none, repeated_next, repeat_star, repeat_plus, repeat_maybe}
use Rattle.expression.proofs.reader.Reader.+repeats.Goals as goal
use Rattle.expression.proofs.reader.Reader.+repeats.Goals.{in-Some-Star, in-Some-Plus, in-Some-Maybe}

pub returns-in_default-clause-read : goal.returns-in_default-clause-read
returns-in_default-clause-read t c = repeated_none c.args.self.now c.args.part

pub returns-clause-read : goal.returns-clause-read
returns-clause-read t c =
    let r = c.args.self.now in
    elim c.match-branch-3.branch [
      | in-Some-Star w ↦
          let e = w.star-repeated.ensures in
          repeated_next _ _ (repeat_star r c.args.part (search rules) e.links) (rw (w.self-is, w.repeated-is, e.value) at c.repeats.ensures.read)
      | in-Some-Plus w ↦
          let e = w.plus-repeated.ensures in
          repeated_next _ _ (repeat_plus r c.args.part (search rules) e.links) (rw (w.self-is, w.repeated-is, e.value) at c.repeats.ensures.read)
      | in-Some-Maybe w ↦
          repeated_next _ _ (repeat_maybe r c.args.part (search rules)) (rw (w.self-is, w.repeated-is, w.or_nothing-repeated.ensures) at c.repeats.ensures.read)
    ]
