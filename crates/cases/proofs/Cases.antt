-- The worked cases.
use Rattle.std.proofs.Common.{◌≡◌, ℕ, ◌≤◌, min, List, [], ◌∷◌, refl, arith}
use Rattle.std.specs.Prelude.{IsSome, IsTrue, ◌≢◌}
use Rattle.std.proofs.lemmas.Bool.Decides.{nat_tests}
use Rattle.query.specs.Meaning.{Meaning}
use Rattle.expression.specs.Cases.{letter_word}
use Rattle.expression.specs.Grammar.{HasTree, Denotes, last_sequence, piece_next, last_piece}
use Rattle.expression.specs.Language.{letter, then}
use Rattle.expression.proofs.Unique.{one_tree}
use Rattle.expression.proofs.Worked.{worked, one_letter, word_one, word_two}
use Rattle.paths.specs.Links.{Links, Triple}
use Rattle.paths.specs.Paths.{word, path_time, time_of}
use Rattle.paths.specs.Arrivals.{Arrives}
use Rattle.paths.specs.Pairs.{PairTime}
use Rattle.paths.proofs.Chains.{first_link}
use Rattle.cases.specs.Cases.{QueryOf, link, WorkedCases}

-- The expression 1 2 denotes just the word (1 2).
tree_two : HasTree (letter_word 1 ∷ letter_word 2 ∷ []) (then (letter 1) (letter 2))
tree_two = last_sequence (piece_next (one_letter 1 _ word_one) (last_piece (one_letter 2 _ word_two)))

only_word : (w : List ℕ) → Denotes (letter_word 1 ∷ letter_word 2 ∷ []) w → w ≡ 1 ∷ 2 ∷ []
only_word w d =
    let (u, v, e, one, two) = rw (one_tree _ d.0 (then (letter 1) (letter 2)) d.1 tree_two) at d.2 in
    cc

the_word : Denotes (letter_word 1 ∷ letter_word 2 ∷ []) (1 ∷ 2 ∷ [])
the_word = (then (letter 1) (letter 2), tree_two, (1 ∷ [], 2 ∷ [], refl, refl, refl))

-- A path of this word begins with a link of label 1.
module _ (m : Meaning) (is : QueryOf (letter_word 1 ∷ letter_word 2 ∷ []) m) where
  first_one : (G : Links) (a b s : ℕ) (ts : List Triple) → IsTrue (m.accepting s) → Arrives G m a b s ts → (t : Triple) × (t.label ≡ 1) × IsSome (G t) × (path_time G ts ≤ time_of G t)
  first_one G a b s ts accepts arrives =
      let (t, us, begins, there, least) = first_link G a b ts arrives.path in
      let spelt = only_word _ ((is (word ts)).0 (s, arrives.leads, accepts)) in
      (t, grind arith, there, least)

  -- Two links laid end to end give a pair, whose time is at most what every link of label 1 has.
  pair : (G : Links) (a b c g : ℕ) → a ≢ c → IsSome (G (link a b 1)) → IsSome (G (link b c 2)) → min (time_of G (link a b 1)) (time_of G (link b c 2)) ≡ g → ((t : Triple) → t.label ≡ 1 → time_of G t ≤ g) → PairTime G m a c g
  pair G a b c g listed first second time bound =
      let (state, leads, accepts) = (is (1 ∷ 2 ∷ [])).1 the_word in
      record {
        listed = listed;
        state = state;
        accepts = accepts;
        path = link a b 1 ∷ link b c 2 ∷ [];
        arrives = record { path = record { some = omega arith; laid = (refl, first, (refl, second, refl)) }; leads = leads };
        time = time;
        most = λ s accepts ts arrives.
            let (t, one, there, least) = first_one G a c s ts accepts arrives in
            omega (arith, bound t one);
      }

pub worked_cases : WorkedCases
worked_cases = record {
  expressions = worked;
  kept = refl;
  gone = refl;
  kept_after = λ m. (λ memory. refl, refl);
  gone_after = λ m. (λ memory. refl, refl);
  two-links = λ m is. pair m is _ 0 1 2 5 (λ e. omega arith) refl refl refl (λ t one. grind (arith, nat_tests));
  four-links = λ m is. pair m is _ 0 3 2 6 (λ e. omega arith) refl refl refl (λ t one. grind (arith, nat_tests));
  maintained = λ m is a b stands.
      let (t, one, there, least) = first_one m is _ a b stands.state _ stands.accepts stands.reached.1 in
      grind (arith, nat_tests);
  itself = λ m is stands. stands.listed refl;
}
