use Rattle.std.proofs.Common.{◌-◌, length}
use Rattle.expression.proofs.reader.Reader.+repeats.Given as goal

-- the words that are left
abbrev pub decreases-repeats : goal.decreases-repeats
decreases-repeats l = length l.self.now.words.now - l.self.now.place
