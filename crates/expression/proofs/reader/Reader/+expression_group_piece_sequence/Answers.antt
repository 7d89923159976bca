use Rattle.std.proofs.Common.{rules, arith}
use Rattle.expression.specs.Grammar.{last_sequence, last_piece}
use Rattle.expression.proofs.Readings.{read_as, read_expression, read_group, read_piece, read_sequence}
use Rattle.expression.proofs.reader.Reader.+expression_group_piece_sequence.Goals as goal
use Rattle.expression.proofs.reader.Reader.+expression_group_piece_sequence.Goals.{piece-in-Some-Letter+in_ok-part-in-Some-Letter, piece-in-Some-Open+in_ok-part-in-Some-Open}

pub expression-returns-in_default-clause-read : goal.expression-returns-in_default-clause-read
expression-returns-in_default-clause-read t c = read_as (λ _ _ _. last_sequence) c.in_ok-left.ensures.read

pub expression-returns-clause-read : goal.expression-returns-clause-read
expression-returns-clause-read t c = read_expression c.in_ok-left.ensures.read (search rules) c.in_ok-right.ensures.read c.or.ensures

pub group-returns : goal.group-returns
group-returns t c = read_group c.args.self.now _ _ c.requires c.if-self-ge-MOST_OPEN.false c.in_ok-inner.ensures.read (search rules)

pub piece-returns-clause-read : goal.piece-returns-clause-read
piece-returns-clause-read t c =
    elim c.match-branch-3.branch [
      | piece-in-Some-Letter+in_ok-part-in-Some-Letter w ↦ read_piece _ _ w.in_ok-part-in-Some-Letter.ensures (rw (w.self-is, w.part-is) at c.repeats.ensures.read)
      | piece-in-Some-Open+in_ok-part-in-Some-Open w ↦ read_piece _ _ w.in_ok-part-in-Some-Open.ensures (rw (w.self-is, w.part-is) at c.repeats.ensures.read)
    ]

pub sequence-returns-in_default-clause-read : goal.sequence-returns-in_default-clause-read
sequence-returns-in_default-clause-read t c = read_as (λ _ _ _. last_piece) c.in_ok-front.ensures.read

pub sequence-returns-clause-read : goal.sequence-returns-clause-read
sequence-returns-clause-read t c =
    read_sequence c.in_ok-front.ensures.read c.in_ok-peek.field-0 c.in_ok-peek.ensures (grind arith) c.in_ok-back.ensures.read c.link.ensures c.then.ensures
