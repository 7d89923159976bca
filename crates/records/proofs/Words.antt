-- The words of a tape's bytes, from its fours, and the memory that they are put into.
use Rattle.std.proofs.Common.{◌≡◌, ℕ, suc, ◌/◌, List, [], ◌∷◌, ◌++◌, length, map, take, drop, min, refl, ap, sym, ◌∙◌, arith, w32}
use Rattle.std.proofs.lemmas.List.{take-map, take_min, length-map, length-take}
use Rattle.std.specs.Int.{from_le_bytes}
use Rattle.std.specs.Simd.{first_chunks}
use Rattle.paths.specs.Words.{PutsInFront}
use Rattle.records.specs.Loading.{words_of, word_of_bytes}

pub words_of_fours : (bytes : List ℕ) → map (from_le_bytes w32) (first_chunks 4 (length bytes / 4) bytes) ≡ words_of bytes
words_of_fours [] = refl
words_of_fours (a ∷ []) = refl
words_of_fours (a ∷ b ∷ []) = refl
words_of_fours (a ∷ b ∷ c ∷ []) = refl
words_of_fours (a ∷ b ∷ c ∷ d ∷ bytes) = rw more (λ i. word i ∷ words_of_fours bytes i)
  where
    more : length (a ∷ b ∷ c ∷ d ∷ bytes) / 4 ≡ suc (length bytes / 4)
    more = omega arith

    word : from_le_bytes w32 (a ∷ b ∷ c ∷ d ∷ []) ≡ word_of_bytes a b c d
    word = omega arith

-- As many words as there is room for.
pub fitting_words : {X : Type 0} (f : X → ℕ) (whole : List X) (words memory memory' : List ℕ) → map f whole ≡ words →
    memory' ≡ map f (take (min (length memory) (length whole)) whole) ++ drop (length (take (min (length memory) (length whole)) whole)) memory →
    PutsInFront (take (length memory) words) memory memory'
fitting_words f whole words memory memory' made after =
    let room = length memory in
    let fitting = take (min room (length whole)) whole in
    let same : map f fitting ≡ take room words = ap (map f) (take_min room whole) ∙ sym (take-map f room whole) ∙ ap (take room) made in
    let count : length fitting ≡ length (take room words) = sym (length-map fitting f) ∙ ap length same in
    record {
      room = simp length-take (omega arith);
      changed = after ∙ λ i. same i ++ drop (count i) memory;
    }
