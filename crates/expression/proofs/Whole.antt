-- An expression read whole: its fault, and the labels of its states.
use Rattle.std.proofs.Common.{Bor, Bool, IsTrue, ◌↔◌, ◌≡◌, ℕ, ◌<◌, ◌≤◌, true, ◌&&◌, ◌||◌, eqb, ◌⊎◌, List, [], ◌∷◌, length, Some, None, refl, ap, ◌∙◌, ⊎_elim, append-nil, add-one, arith, length-drop, get_or}
use Rattle.std.proofs.lemmas.Grind.{common_steps}
use Rattle.std.proofs.lemmas.List.{drop_all}
use Rattle.query.specs.Words.{Accepts}
use Rattle.expression.specs.declared.fault.Cause.{Cause}
use Rattle.expression.specs.declared.fault.Cause.TheVariants.{WordCount, NoPiece, TooManyLetters, TooDeep}
use Rattle.expression.specs.declared.fault.Fault.{Fault}
use Rattle.expression.specs.declared.machine.Machine.{Machine}
use Rattle.expression.specs.declared.part.Part.{Part}
use Rattle.expression.specs.declared.reader.Reader.{Reader}
use Rattle.expression.specs.Grammar.{Expression, HasTree, Denotes}
use Rattle.expression.proofs.Machines.{names, not_from}
use Rattle.expression.specs.Built.{Finished}
use Rattle.expression.specs.Rows.{labels_in}
use Rattle.expression.specs.Machines.{Empty, machine_meaning, linked, label_of, letters_in}
use Rattle.expression.specs.Readers.{left, ahead, Exact, ReadPart, Stops, after_expression}
use Rattle.expression.specs.Fragments.{Fragment}
use Rattle.expression.specs.Language.{Tree, Language}
use Rattle.expression.specs.Positions.{comes_after}
use Rattle.expression.specs.Reading.{WellFormed, Fills, Why, Limited, Refused}
use Rattle.expression.specs.Scan.{verdict, start, letters_of}
use Rattle.expression.proofs.Accepting.{accepts_says, accepts_takes}
use Rattle.expression.proofs.Positions.{after_range}
use Rattle.expression.proofs.Refusals.{is_limit, no_tree, too_many, too_deep, not_count}
use Rattle.expression.proofs.Trees.{some_word, no_words}
use Rattle.expression.proofs.Unique.{one_tree}

-- A reader at the beginning of the words.
abbrev pub at_start : Bor (List ℕ) → Machine → Reader
at_start words m = record { words = words; place = 0; depth = 0; machine = m }

module _ {words : Bor (List ℕ)} {m : Machine} {r' : Reader} {p : Part} (empty : Empty m) (read : ReadPart Expression (at_start words m) r' p) where
  no_letters : letters_in m ≡ 0
  no_letters = omega (arith, empty.size)

  from_start : verdict 0 start words.now ≡ ahead (at_start words m) true
  from_start = grind (arith, no_letters)

  -- What is left after an expression begins with a close, and nothing is open.
  pub trailing : (f : Fault) → Stops after_expression (left r') → r'.place < length words.now → f.cause ≡ NoPiece → f.place ≡ r'.place → verdict 0 start words.now ≡ Some f
  trailing f stops more cause place = grind (arith, from_start, read.advanced.faults, length-drop r'.place r'.words.now, ap length read.advanced.words, read.depth)

  module _ (done : length words.now ≤ r'.place) where
    nothing_left : left r' ≡ []
    nothing_left = drop_all r'.place r'.words.now (omega (arith, ap length read.advanced.words))

    pub no_fault : verdict 0 start words.now ≡ None
    no_fault = grind (arith, from_start, nothing_left, read.depth)

    -- The labels of the states are those of the letters, after the start's place.
    named : labels_in r'.machine.positions.items ≡ 0 ∷ letters_of words.now
    named = grind (arith, append-nil, nothing_left, alone_at (labels_in m.positions.items) (names m ∙ empty.size), empty.labels 0)
      where
        alone_at : (xs : List ℕ) → length xs ≡ 1 → xs ≡ get_or xs 0 0 ∷ []
        alone_at xs e = grind (arith, common_steps)

    -- The words have the tree that was read, and no other.
    whole_tree : HasTree words.now read.tree
    whole_tree = rw (← nothing_left) read.derived

    whole_fragment : Fragment (linked r'.machine) (label_of r'.machine) 0 (letters_in r'.machine) p (Language read.tree)
    whole_fragment = rw no_letters at read.fragment

    whole_exact : Exact r'.machine 0 p read.tree
    whole_exact = rw no_letters at read.exact

    only_tree : (t : Tree) → HasTree words.now t → t ≡ read.tree
    only_tree t has = one_tree words.now t read.tree has whole_tree

    pub well_formed : WellFormed words.now
    well_formed = record {
      tree = (read.tree, whole_tree, only_tree);
      some = let word = some_word read.tree in (word.0, (read.tree, whole_tree, word.1));
    }

    pub fills : {made : Machine} → Finished r'.machine made p → Fills words.now made
    fills {made} finished = record {
      accepts = λ w. (
        λ a. (read.tree, whole_tree, accepts_says whole_fragment finished w a),
        λ d. accepts_takes whole_fragment finished w (rw (only_tree d.0 d.1) at d.2),
      );
      starts = λ t has p. rw (only_tree t has) (finished.start p ∙ whole_exact.first p);
      follows = λ t has s p some. rw (only_tree t has) (finished.follow s p some ∙ moves s p some);
      ends = λ t has s. rw (only_tree t has) (finished.ends s ∙ (λ i. whole_exact.last s i || (whole_exact.nullable i && eqb s 0)));
      size = omega (arith, finished.letters, long, made.start);
      labels = λ t h. grind (arith, finished.labels, long, named, add-one t);
    }
      where
        -- No move leads from a state that is not there.
        moves : (s p : ℕ) → 1 ≤ s → linked r'.machine s p ≡ comes_after read.tree 0 s p
        moves s p some = grind (arith, whole_exact.after s p, whole_exact.count, after_range read.tree 0 s p, not_from r'.machine s p)

        long : letters_in r'.machine ≡ length (letters_of words.now)
        long = omega (arith, ap length named, names r'.machine)

-- So a query's answer on the machine is one on what the words denote.
pub answered : {ws w : List ℕ} {m : Machine} {b : Bool} → Fills ws m → (IsTrue b ↔ Accepts (machine_meaning m) w) → IsTrue b ↔ Denotes ws w
answered {w = w} filled answer = (λ e. (filled.accepts w).0 (answer.0 e), λ d. answer.1 ((filled.accepts w).1 d))

-- Every cause but a limit's says that there is no tree.
why : (c : Cause) (ws : List ℕ) (f : Fault) → f.cause ≡ c → (c ≡ WordCount → ⊥) → verdict 0 start ws ≡ Some f → Why c ws
why WordCount ws f e other is = absurd (other refl)
why TooManyLetters ws f e other is = omega (arith, too_many 0 start ws f is e)
why TooDeep ws f e other is = too_deep 0 start ws f is e
why _ ws f e other is = no_tree ws f (ap is_limit e) is

-- So an expression within the limits is not refused.
never : (c : Cause) (ws : List ℕ) → Why c ws → (t : Tree) → HasTree ws t → Limited ws → ⊥
never WordCount ws w t has limited = ⊎_elim (λ e. no_words ws e t has) (λ h. omega (arith, limited.words)) w
never TooManyLetters ws w t has limited = omega (arith, limited.letters)
never TooDeep ws w t has limited = w limited.shallow
never _ ws w t has limited = w t has

pub refused : (ws : List ℕ) (f : Fault) → 0 < length ws → length ws ≤ 256 → verdict 0 start ws ≡ Some f → Refused ws f
refused ws f some few is =
    let reason = why f.cause ws f refl (not_count 0 start ws f is) is in
    record { fault = grind arith; why = reason; never = never f.cause ws reason }

pub refused_count : (ws : List ℕ) → (length ws ≡ 0) ⊎ (256 < length ws) → Refused ws (record { cause = WordCount; place = 0 })
refused_count ws h = record { fault = grind arith; why = h; never = never WordCount ws h }
