use Rattle.expression.proofs.Whole.{trailing, no_fault, well_formed, fills}
use Rattle.expression.proofs.reader.machine_of.Goals as goal

pub returns-then-reader-words : goal.returns-then-reader-words
returns-then-reader-words c =
    trailing c.empty.ensures c.in_ok-whole.ensures.read c.fault.result c.in_ok-whole.ensures.next c.if-reader-words.true c.fault.ensures.0 c.fault.ensures.1

pub returns : goal.returns
returns c =
    let read = c.in_ok-whole.ensures.read in
    let done = c.if-reader-words.false in
    (no_fault c.empty.ensures read done, well_formed c.empty.ensures read done, fills c.empty.ensures read done c.finish.ensures)
