use Rattle.expression.proofs.Progress.{label_small}
use Rattle.expression.proofs.Readings.{read_letter}
use Rattle.std.proofs.Common.{sym, arith}
use Rattle.expression.proofs.reader.Reader.letter.Goals as goal

pub letter-state-requires-clause-label : goal.letter-state-requires-clause-label
letter-state-requires-clause-label c = label_small _ _ c.requires.2

pub returns : goal.returns
returns c =
    let made = c.letter-state.ensures in
    read_letter c.args.self.now _ c.args.label _ c.letter-state.result c.requires (omega arith) made.value made.labels made.rows (rw (sym c.none.ensures) c.with-own.ensures)
