use Rattle.std.proofs.Common.{◌+◌, ◌-◌, ◌*◌, length}
use Rattle.expression.proofs.reader.Reader.+expression_group_piece_sequence.Given as goal

-- the words that are left, and then the level of the grammar
abbrev pub decreases-expression : goal.decreases-expression
decreases-expression l = 4 * (length l.self.now.words.now - l.self.now.place) + 3

abbrev pub decreases-sequence : goal.decreases-sequence
decreases-sequence l = 4 * (length l.self.now.words.now - l.self.now.place) + 2

abbrev pub decreases-piece : goal.decreases-piece
decreases-piece l = 4 * (length l.self.now.words.now - l.self.now.place) + 1

abbrev pub decreases-group : goal.decreases-group
decreases-group l = 4 * (length l.self.now.words.now - l.self.now.place)
