use Rattle.std.proofs.Common.{◌≡◌, ◌++◌, map, take, drop, w32}
use Rattle.std.specs.Int.{from_le_bytes}
use Rattle.records.proofs.load.load.Given as goal

abbrev pub invariant-loop-index : goal.invariant-loop-index
invariant-loop-index l = l.memory ≡ map (from_le_bytes w32) (take l.index l.fitting) ++ drop l.index l.initial.memory
