-- What is told of a fault: its layer of origin, its number, and the word of the tape.
use Rattle.std.specs.Prelude.{ℕ, ◌+◌, ◌-◌, ◌^◌, min}
use Rattle.records.specs.Loading.{most_tape_words}
use Rattle.expression.specs.Faults.{cause_number}
use Rattle.watch.specs.Refusals.{refusal_number}
use Rattle.records.specs.declared.fault.TapeFault.{TapeFault}
use Rattle.records.specs.declared.fault.TapeFault.TheVariants.{Short, Stray, TooLong, Expression}
use Rattle.records.specs.declared.fault.RunFault.{RunFault}
use Rattle.records.specs.declared.fault.RunFault.TheVariants.{Tape, Watch}

-- 1 is an expression's fault, 2 the tape's, 3 the watch's.
abbrev pub layer_of_fault : RunFault → ℕ
layer_of_fault (Tape (Short w)) = 2
layer_of_fault (Tape (Stray w)) = 2
layer_of_fault (Tape TooLong) = 2
layer_of_fault (Tape (Expression f)) = 1
layer_of_fault (Watch x) = 3

-- The number by which a fault is told, first of the tape's.
abbrev pub tape_number : TapeFault → ℕ
tape_number (Short w) = 30
tape_number (Stray w) = 31
tape_number TooLong = 32
tape_number (Expression f) = cause_number f.cause

abbrev pub number_of_fault : RunFault → ℕ
number_of_fault (Tape f) = tape_number f
number_of_fault (Watch x) = refusal_number x

-- The largest number of 64 bits. A fault's place could in principle reach it; an expression's never passes 256.
abbrev pub largest : ℕ
largest = 2 ^ 64 - 1

-- The word at which a fault is, first of the tape's. The expression begins at word 2 of the tape. A tape that is too long is faulty where
-- it passes its limit.
abbrev pub tape_word : TapeFault → ℕ
tape_word (Short w) = w
tape_word (Stray w) = w
tape_word TooLong = most_tape_words
tape_word (Expression f) = min (f.place + 2) largest

abbrev pub word_of_fault : RunFault → ℕ
word_of_fault (Tape f) = tape_word f
word_of_fault (Watch x) = 0
