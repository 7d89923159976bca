use Rattle.std.proofs.Common.{◌≡◌, ◌∷◌, arith}
use Rattle.std.proofs.lemmas.Grind.{common_steps}
use Rattle.records.proofs.StartWords.{nothing, first_is_stray, second_is_missing, second_is_stray, expression_is_short, start_begins}
use Rattle.records.proofs.record.Tape.start.Goals as goal

pub returns-in_err-first : goal.returns-in_err-first
returns-in_err-first c = grind (arith, common_steps, nothing)

pub returns-then-kind-ne-START : goal.returns-then-kind-ne-START
returns-then-kind-ne-START c =
    let words : c.args.self.now.words.now ≡ c.in_ok-first.first.now ∷ c.in_ok-first.rest.now = grind (arith, common_steps) in
    first_is_stray _ _ _ words (grind (arith, common_steps))

pub returns-in_err-second : goal.returns-in_err-second
returns-in_err-second c = grind (arith, common_steps, second_is_missing)

pub returns-then-kind-ne-WINDOW : goal.returns-then-kind-ne-WINDOW
returns-then-kind-ne-WINDOW c =
    let words : c.args.self.now.words.now ≡ c.in_ok-first.first.now ∷ c.in_ok-second.second.now ∷ c.in_ok-second.rest.now = grind (arith, common_steps) in
    second_is_stray _ _ _ _ words (grind (arith, common_steps)) (grind (arith, common_steps))

pub returns-in_err-expression : goal.returns-in_err-expression
returns-in_err-expression c = grind (arith, common_steps, expression_is_short)

pub returns : goal.returns
returns c = grind (arith, common_steps, start_begins)
