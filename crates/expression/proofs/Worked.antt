-- The worked cases of what expressions denote.
use Rattle.std.proofs.Common.{◌≡◌, ℕ, List, [], ◌∷◌, Some, refl, inl, inr, arith}
use Rattle.expression.specs.declared.symbol.Symbol.TheVariants.{Letter}
use Rattle.expression.specs.Cases.{ExpressionCases, letter_word, open_word, close_word, bar_word, star_word, plus_word}
use Rattle.expression.specs.Grammar.{Piece, last_sequence, bar_next, last_piece, piece_next, piece, letter_atom, group_atom, done, star_next, plus_next, HasTree, Denotes}
use Rattle.expression.specs.Language.{Tree, Language, Many, none, more, letter, either, then, star, plus}
use Rattle.expression.specs.Symbols.{symbol_of}
use Rattle.expression.proofs.Unique.{one_tree}

-- A letter alone, with nothing after it.
pub one_letter : (l : ℕ) (ws : List ℕ) → symbol_of (letter_word l) ≡ Some (Letter l) → Piece (letter_word l ∷ ws) ws (letter l)
one_letter l ws e = piece (letter_atom e) done

pub word_one : symbol_of (letter_word 1) ≡ Some (Letter 1)
unfolding symbol_of
word_one = refl

pub word_two : symbol_of (letter_word 2) ≡ Some (Letter 2)
unfolding symbol_of
word_two = refl

-- The trees of the cases' expressions.
tree_one : HasTree (letter_word 1 ∷ []) (letter 1)
unfolding symbol_of
tree_one = last_sequence (last_piece (one_letter 1 [] refl))

tree_star : HasTree (letter_word 1 ∷ star_word ∷ []) (star (letter 1))
unfolding symbol_of
tree_star = last_sequence (last_piece (piece (letter_atom refl) (star_next refl done)))

tree_plus : HasTree (letter_word 1 ∷ letter_word 2 ∷ plus_word ∷ []) (then (letter 1) (plus (letter 2)))
unfolding symbol_of
tree_plus = last_sequence (piece_next (one_letter 1 _ refl) (last_piece (piece (letter_atom refl) (plus_next refl done))))

tree_group : HasTree (open_word ∷ letter_word 1 ∷ letter_word 2 ∷ close_word ∷ plus_word ∷ []) (plus (then (letter 1) (letter 2)))
unfolding symbol_of
tree_group =
    last_sequence (last_piece (piece (group_atom refl (last_sequence (piece_next (one_letter 1 _ refl) (last_piece (one_letter 2 _ refl)))) refl) (plus_next refl done)))

tree_bar : HasTree (letter_word 1 ∷ bar_word ∷ letter_word 2 ∷ letter_word 3 ∷ []) (either (letter 1) (then (letter 2) (letter 3)))
unfolding symbol_of
tree_bar = bar_next (last_piece (one_letter 1 _ refl)) refl (last_sequence (piece_next (one_letter 2 _ refl) (last_piece (one_letter 3 _ refl))))

-- Words with this tree denote no word that its language lacks.
lacks : (ws : List ℕ) (t : Tree) (w : List ℕ) → HasTree ws t → (Language t w → ⊥) → Denotes ws w → ⊥
lacks ws t w has no_word d = no_word (rw (one_tree ws d.0 t d.1 has) at d.2)

-- Any number of 2s has no 1.
no_one : (u v : List ℕ) → Many (Language (letter 2)) u → u ≡ 1 ∷ v → ⊥
no_one u v none e = cc
no_one u v (more a b p m) e = grind arith

not_both : Language (then (letter 1) (plus (letter 2))) (1 ∷ 2 ∷ 1 ∷ 2 ∷ []) → ⊥
not_both (u, v, e, one, (a, b, f, two, m)) = no_one b (2 ∷ []) m (grind arith)

not_parted : Language (either (letter 1) (then (letter 2) (letter 3))) (1 ∷ 3 ∷ []) → ⊥
not_parted (inl e) = cc
not_parted (inr (u, v, e, two, three)) = grind arith

pub worked : ExpressionCases
worked = record {
  letter_itself = (letter 1, tree_one, refl);
  letter_not_empty = lacks _ (letter 1) [] tree_one (λ e. cc);
  star_empty = (star (letter 1), tree_star, none);
  plus_last = (then (letter 1) (plus (letter 2)), tree_plus, (1 ∷ [], 2 ∷ 2 ∷ [], refl, refl, (2 ∷ [], 2 ∷ [], refl, refl, more (2 ∷ []) [] refl none)));
  plus_not_both = lacks _ (then (letter 1) (plus (letter 2))) (1 ∷ 2 ∷ 1 ∷ 2 ∷ []) tree_plus not_both;
  group_plus = (
    plus (then (letter 1) (letter 2)),
    tree_group,
    (1 ∷ 2 ∷ [], 1 ∷ 2 ∷ [], refl, (1 ∷ [], 2 ∷ [], refl, refl, refl), more (1 ∷ 2 ∷ []) [] (1 ∷ [], 2 ∷ [], refl, refl, refl) none),
  );
  bar_parts = lacks _ (either (letter 1) (then (letter 2) (letter 3))) (1 ∷ 3 ∷ []) tree_bar not_parted;
}
