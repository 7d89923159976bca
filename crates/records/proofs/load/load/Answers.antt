use Rattle.std.proofs.Common.{◌≡◌, ℕ, ◌+◌, ◌<◌, List, ◌++◌, length, get_or, set, take, drop, map, arith, append_assoc, length-take-le, w32}
use Rattle.std.proofs.lemmas.List.{map_more, set_at, drop_more, take_all, length-map, length-take}
use Rattle.std.specs.Int.{from_le_bytes}
use Rattle.records.specs.Loading.{words_of}
use Rattle.records.proofs.Words.{words_of_fours, fitting_words}
use Rattle.records.proofs.load.load.Goals as goal

-- One more element over the front.
over_more : {X : Type 0} (f : X → ℕ) (xs : List X) (d : X) (old now : List ℕ) (i x : ℕ) → i < length xs → i < length old → x ≡ f (get_or xs i d) → now ≡ map f (take i xs) ++ drop i old → set now i x ≡ map f (take (i + 1) xs) ++ drop (i + 1) old
over_more f xs d old now i x more room is before = grind (arith, map_more f xs i d, set_at, drop_more old i 0, append_assoc, length-map, length-take-le)

pub loop-index-preserved : goal.loop-index-preserved
loop-index-preserved c = over_more _ _ _ _ _ _ _ c.loop-index-test.true (grind (arith, length-take)) c.from_le_bytes.ensures c.loop-index.invariant

pub returns : goal.returns
returns c =
    let whole = c.as_chunks.result.0.now in
    let made : map (from_le_bytes w32) whole ≡ words_of c.args.bytes.now = grind (arith, words_of_fours) in
    (omega arith, omega arith, fitting_words (from_le_bytes w32) whole _ _ _ made (grind (arith, take_all)))
