-- What each reader has read: how the parts of an expression come together, in the grammar and in the machine.
use Rattle.std.proofs.Common.{◌≡◌, ℕ, ◌+◌, ◌-◌, ◌<◌, ◌≤◌, Bool, true, false, eqb, List, ◌∷◌, get_or, Some, Ok, Err, Option, Result, sym, refl, ap, ◌∙◌, subst, arith, ◌++◌, length, []}
use Rattle.std.proofs.lemmas.List.{get_or_append_left, get_or_push, length-append}
use Rattle.std.proofs.lemmas.Bool.Decides.{nat_tests}
use Rattle.masks.specs.Members.{member, with_member}
use Rattle.masks.proofs.Laws.{member_none}
use Rattle.expression.specs.declared.fault.Fault.{Fault}
use Rattle.expression.specs.declared.machine.Machine.{Machine}
use Rattle.expression.specs.declared.part.Part.{Part}
use Rattle.expression.specs.declared.reader.Reader.{Reader}
use Rattle.expression.specs.declared.symbol.Symbol.{Symbol}
use Rattle.expression.specs.declared.symbol.Symbol.TheVariants.{Letter, Open, Close, Bar, Star, Plus, Maybe}
use Rattle.expression.specs.Fragments.{Fragment}
use Rattle.expression.specs.Grammar.{Expression, Sequence, Piece, Atom, Repeats, bar_next, piece_next, piece, letter_atom, group_atom, done, star_next, plus_next, maybe_next}
use Rattle.expression.specs.Language.{Tree, Language, letter, either, then, star, plus, maybe}
use Rattle.expression.proofs.Machines.{names, not_from, push_zero}
use Rattle.expression.specs.Rows.{labels_in, rows_in}
use Rattle.expression.specs.Built.{Joins}
use Rattle.expression.specs.Machines.{linked, label_of, letters_in}
use Rattle.expression.specs.Parts.{Within, Either, Then, optional}
use Rattle.expression.specs.Readers.{Advanced, Kept, Spells, Exact, ReadPart, RepeatedPart, Read, Repeated, Peeked, begins_piece, after_piece}
use Rattle.expression.specs.Symbols.{symbol_of}
use Rattle.expression.proofs.Fragments.{fragment_kept, fragment_letter, fragment_either, fragment_then, fragment_plus, fragment_star, fragment_maybe}
use Rattle.expression.proofs.Positions.{exact_either, exact_then}
use Rattle.expression.proofs.Progress.{advanced_letter}

-- The reader after one word, as deep as before, and with another machine.
abbrev pub stepped : Reader → Reader
stepped r = record { words = r.words; place = r.place + 1; depth = r.depth; machine = r.machine }

abbrev pub opened : Reader → Reader
opened r = record { words = r.words; place = r.place + 1; depth = r.depth + 1; machine = r.machine }

abbrev pub closed : Reader → Reader
closed r = record { words = r.words; place = r.place + 1; depth = r.depth - 1; machine = r.machine }

abbrev pub relinked : Reader → Machine → Reader
relinked r m = record { words = r.words; place = r.place; depth = r.depth; machine = m }

kept_on : {k k' : ℕ} {m m' m'' : Machine} → k ≤ k' → Kept k m m' → Kept k' m' m'' → Kept k m m''
kept_on le p q = grind arith

-- New moves from letters after k leave what is up to k as it is.
kept_link : {k : ℕ} {m m' : Machine} {from to : ℕ} → Joins m m' from to → ((s : ℕ) → member from s ≡ true → k < s) → Kept k m m'
kept_link links after = grind arith

-- A part that was read stays a fragment while later letters are read.
spells_kept : {m m' : Machine} {lo : ℕ} {p : Part} {P : List ℕ → Type 0} → Kept (letters_in m) m m' → Fragment (linked m) (label_of m) lo (letters_in m) p P → Fragment (linked m') (label_of m') lo (letters_in m) p P
spells_kept kept f = fragment_kept (grind arith) f

-- New moves change neither the letters nor their labels.
relabel : (m m' : Machine) {G : ℕ → ℕ → Bool} {lo : ℕ} {p : Part} {P : List ℕ → Type 0} → letters_in m' ≡ letters_in m → labels_in m'.positions.items ≡ labels_in m.positions.items → Fragment G (label_of m) lo (letters_in m) p P → Fragment G (label_of m') lo (letters_in m') p P
relabel m m' {G} {lo} {p} {P} letters labels f = subst (λ n. Fragment G (label_of m') lo n p P) (sym letters) (fragment_kept (grind arith) f)

-- A letter.
pub read_letter : (r : Reader) (m : Machine) (l own k : ℕ) → Peeked r (Ok (Some (Letter l))) → letters_in r.machine < 31 → k ≡ letters_in r.machine + 1 → labels_in m.positions.items ≡ labels_in r.machine.positions.items ++ l ∷ [] → rows_in m.positions.items ≡ rows_in r.machine.positions.items ++ 0 ∷ [] → ((j : ℕ) → member own j ≡ with_member 0 k j) → ReadPart Atom r (record { words = r.words; place = r.place + 1; depth = r.depth; machine = m }) (record { nullable = false; first = own; last = own })
read_letter r m l own k peek room next labels rows is = record {
  advanced = advanced_letter r _ l k peek room next refl refl refl letters labels;
  depth = refl;
  further = omega arith;
  kept = record {
    moves = λ s t h. ap (λ xs. member (get_or xs s 0) t) rows ∙ ap (λ (x : ℕ). member x t) (push_zero (rows_in r.machine.positions.items) s);
    labels = λ t h. ap (λ xs. get_or xs t 0) labels ∙ get_or_append_left (labels_in r.machine.positions.items) (l ∷ []) 0 t (omega (arith, names r.machine, r.machine.start));
  };
  tree = letter l;
  derived = rw peek.1 (letter_atom peek.2);
  fragment =
      fragment_letter (letters ∙ next) refl own_is own_is
      (ap (λ xs. get_or xs (letters_in m) 0) labels ∙ get_or_push (labels_in r.machine.positions.items) l 0 (letters_in m) (omega (arith, names r.machine, r.machine.start, letters))) still;
  exact = grind (arith, own_is, still, letters);
}
  where
    letters : letters_in m ≡ k
    letters = omega (arith, ap length labels, names m, names r.machine, length-append (labels_in r.machine.positions.items) (l ∷ []), r.machine.start)

    own_is : (x : ℕ) → member own x ≡ eqb x (letters_in m)
    own_is x = grind (arith, nat_tests, is x, member_none x, letters)

    still : (t : ℕ) → linked m (letters_in m) t ≡ false
    still t =
        ap (λ xs. member (get_or xs (letters_in m) 0) t) rows ∙ ap (λ (x : ℕ). member x t) (push_zero (rows_in r.machine.positions.items) (letters_in m))
        ∙ not_from r.machine (letters_in m) t (omega (arith, r.machine.start, letters))

-- A group.
pub read_group : (r r1 : Reader) (p : Part) → Peeked r (Ok (Some Open)) → r.depth < 16 → ReadPart Expression (opened r) r1 p → Peeked r1 (Ok (Some Close)) → ReadPart Atom r (closed r1) p
read_group r r1 p open_word room inner close_word = record {
  advanced = grind (arith, nat_tests);
  depth = omega (arith, inner.depth);
  further = omega (arith, inner.further);
  kept = inner.kept;
  tree = inner.tree;
  derived = rw open_word.1 (group_atom open_word.2 (rw close_word.1 at inner.derived) close_word.2);
  fragment = inner.fragment;
  exact = inner.exact;
}

-- A letter or a group, with its repeats.
pub read_piece : {r r1 : Reader} {p : Part} (r2 : Reader) (res : Result Part Fault) → ReadPart Atom r r1 p → Repeated p r1 r2 res → Read Piece r r2 res
read_piece r2 (Err f) atom rest = atom.advanced.faults ∙ rest
read_piece {r = r} r2 (Ok q) atom rest =
    let repeated = rest.tree atom.tree in
    record {
      advanced = grind arith;
      depth = rest.depth ∙ atom.depth;
      further = omega (arith, atom.further, rest.advanced.place);
      kept = kept_on (omega arith) atom.kept (rest.kept (letters_in r.machine) atom.fragment.own);
      tree = repeated.tree;
      derived = piece atom.derived repeated.derived;
      fragment = repeated.fragment (letters_in r.machine) atom.fragment;
      exact = repeated.exact (letters_in r.machine) atom.exact;
    }

-- What is of one level is of the next.
pub read_as : {L M : List ℕ → List ℕ → Tree → Type 0} {r r' : Reader} {p : Part} → ((ws rest : List ℕ) (t : Tree) → L ws rest t → M ws rest t) → ReadPart L r r' p → ReadPart M r r' p
read_as up read = record {
  advanced = read.advanced;
  depth = read.depth;
  further = read.further;
  kept = read.kept;
  tree = read.tree;
  derived = up _ _ _ read.derived;
  fragment = read.fragment;
  exact = read.exact;
}

-- A piece and then a sequence.
pub read_sequence : {r r1 r2 : Reader} {m : Machine} {p q x : Part} → ReadPart Piece r r1 p → (next : Option Symbol) → Peeked r1 (Ok next) → begins_piece next ≡ true → ReadPart Sequence r1 r2 q → Joins r2.machine m p.last q.first → Then p q x → ReadPart Sequence r (relinked r2 m) x
read_sequence {r2 = r2} {m} {x = x} front next peek begins back links joined = record {
  advanced = grind arith;
  depth = back.depth ∙ front.depth;
  further = omega (arith, front.further, back.further);
  kept = grind (arith, kept_on front.advanced.letters front.kept back.kept, kept_link links (λ s e. (front.fragment.own.last s e).0));
  tree = then front.tree back.tree;
  derived = piece_next front.derived back.derived;
  fragment =
      relabel r2.machine m links.letters links.labels
      (fragment_then front.advanced.letters back.advanced.letters (spells_kept back.kept front.fragment) back.fragment (record { moves = links.follow }) joined);
  exact = exact_then _ _ _ _ _ _ _ front.exact back.exact back.kept.moves m x links.letters links.follow joined;
}

-- A sequence, a bar and an expression.
pub read_expression : {r r1 r2 : Reader} {p q x : Part} → ReadPart Sequence r r1 p → Peeked r1 (Ok (Some Bar)) → ReadPart Expression (stepped r1) r2 q → Either p q x → ReadPart Expression r r2 x
read_expression {x = x} left_part bar_word right_part joined = record {
  advanced = grind arith;
  depth = right_part.depth ∙ left_part.depth;
  further = omega (arith, left_part.further, right_part.further);
  kept = kept_on left_part.advanced.letters left_part.kept right_part.kept;
  tree = either left_part.tree right_part.tree;
  derived = bar_next (rw bar_word.1 at left_part.derived) bar_word.2 right_part.derived;
  fragment = fragment_either left_part.advanced.letters right_part.advanced.letters (spells_kept right_part.kept left_part.fragment) right_part.fragment joined;
  exact = exact_either _ _ _ _ _ _ _ left_part.exact right_part.exact right_part.kept.moves x joined;
}

-- No repeat more.
pub repeated_none : (r : Reader) (p : Part) → RepeatedPart p r r p
repeated_none r p = record {
  advanced = grind arith;
  depth = refl;
  kept = λ lo w. grind arith;
  tree = λ s. record { tree = s; derived = done; fragment = λ lo f. f; exact = λ lo x. x };
}

-- What one repeat does to a part: in the machine m it is p', of tree T s where it was of tree s.
pub record Repeat (r : Reader) (m : Machine) (y : Symbol) (T : Tree → Tree) (p p' : Part) : Type 0 where
  pub next : Peeked r (Ok (Some y))
  pub again : after_piece y ≡ false
  pub letters : letters_in m ≡ letters_in r.machine
  pub labels : (labels_in m.positions.items) ≡ (labels_in r.machine.positions.items)
  pub kept : (lo : ℕ) → Within lo (letters_in r.machine) p → Kept lo r.machine m × Within lo (letters_in r.machine) p'
  pub fragment : (s : Tree) (lo : ℕ) → Spells r.machine lo p s → Fragment (linked m) (label_of r.machine) lo (letters_in r.machine) p' (Language (T s))
  pub exact : (s : Tree) (lo : ℕ) → Exact r.machine lo p s → Exact m lo p' (T s)
  pub derive : {w : ℕ} {ws rest : List ℕ} {s t : Tree} → symbol_of w ≡ Some y → Repeats ws rest (T s) t → Repeats (w ∷ ws) rest s t

repeated_start : {r : Reader} {m : Machine} {y : Symbol} {T : Tree → Tree} {p p' : Part} → Repeat r m y T p p' → Advanced false r false (stepped (relinked r m))
repeated_start one = grind arith

-- One repeat, and then others.
pub repeated_next : {r : Reader} {m : Machine} {y : Symbol} {T : Tree → Tree} {p p' : Part} (r2 : Reader) (res : Result Part Fault) → Repeat r m y T p p' → Repeated p' (stepped (relinked r m)) r2 res → Repeated p r r2 res
repeated_next r2 (Err f) one rest = (repeated_start one).faults ∙ rest
repeated_next {r = r} {m} {T = T} r2 (Ok q) one rest = record {
  advanced = grind (arith, repeated_start one);
  depth = rest.depth;
  kept = λ lo w. kept_on (omega arith) (one.kept lo w).0 (rest.kept lo (rw one.letters (one.kept lo w).1));
  tree = λ s.
      let g = rest.tree (T s) in
      record {
        tree = g.tree;
        derived = rw one.next.1 (one.derive one.next.2 g.derived);
        fragment = λ lo f. g.fragment lo (relabel r.machine m one.letters one.labels (one.fragment s lo f));
        exact = λ lo x. g.exact lo (one.exact s lo x);
      };
}

-- A star and a plus lead from the last letters to the first; a maybe leads nowhere.
pub repeat_star : (r : Reader) {m : Machine} (p : Part) → Peeked r (Ok (Some Star)) → Joins r.machine m p.last p.first → Repeat r m Star star p (optional p)
repeat_star r p next links = record {
  next = next;
  again = refl;
  letters = links.letters;
  labels = links.labels;
  kept = λ lo w. grind (arith, kept_link);
  fragment = λ s lo f. fragment_star f (record { moves = links.follow });
  exact = λ s lo x. grind arith;
  derive = star_next;
}

pub repeat_plus : (r : Reader) {m : Machine} (p : Part) → Peeked r (Ok (Some Plus)) → Joins r.machine m p.last p.first → Repeat r m Plus plus p p
repeat_plus r p next links = record {
  next = next;
  again = refl;
  letters = links.letters;
  labels = links.labels;
  kept = λ lo w. grind (arith, kept_link);
  fragment = λ s lo f. fragment_plus f (record { moves = links.follow });
  exact = λ s lo x. grind arith;
  derive = plus_next;
}

pub repeat_maybe : (r : Reader) (p : Part) → Peeked r (Ok (Some Maybe)) → Repeat r r.machine Maybe maybe p (optional p)
repeat_maybe r p next = record {
  next = next;
  again = refl;
  letters = refl;
  labels = refl;
  kept = λ lo w. grind arith;
  fragment = λ s lo f. fragment_maybe f;
  exact = λ s lo x. grind arith;
  derive = maybe_next;
}
