use Rattle.std.proofs.Common.{◌≡◌, ◌+◌, ◌*◌, ◌≤◌, ◌++◌, length, drop}
use Rattle.records.specs.Lines.{fields}
use Rattle.records.proofs.line.text_of.Given as goal

abbrev pub invariant-loop-number : goal.invariant-loop-number
invariant-loop-number l = record {
  so_far : l.text.bytes ++ fields (drop l.number-index l.numbers) ≡ l.head ++ fields l.numbers;
  short : length l.text.bytes ≤ 5 + 21 * l.number-index;
}
