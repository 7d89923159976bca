-- The tree of an expression, and the language of a tree: the words of labels that it stands for.
use Rattle.std.specs.Prelude.{◌≡◌, ℕ, ◌⊎◌, List, [], ◌∷◌, ◌++◌}

pub data Tree : Type 0 where
  letter : (label : ℕ) → Tree
  either : Tree → Tree → Tree
  then : Tree → Tree → Tree
  star : Tree → Tree
  plus : Tree → Tree
  maybe : Tree → Tree

-- A word of one language and then a word of another.
abbrev pub Joined : (List ℕ → Type 0) → (List ℕ → Type 0) → List ℕ → Type 0
Joined P Q w = (u : List ℕ) × (v : List ℕ) × (w ≡ u ++ v) × P u × Q v

-- Any number of words of a language, one after the other.
pub data Many (P : List ℕ → Type 0) : List ℕ → Type 0 where
  none : Many P []
  more : (u v : List ℕ) → P u → Many P v → Many P (u ++ v)

-- A letter is the word of its label; a star is any number of words of its part, a plus one or more, a maybe none or one.
abbrev pub Language : Tree → List ℕ → Type 0
Language (letter l) w = w ≡ l ∷ []
Language (either s t) w = Language s w ⊎ Language t w
Language (then s t) w = Joined (Language s) (Language t) w
Language (star t) w = Many (Language t) w
Language (plus t) w = Joined (Language t) (Many (Language t)) w
Language (maybe t) w = (w ≡ []) ⊎ Language t w
