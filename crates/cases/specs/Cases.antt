-- Worked cases of the definitions, those of expressions among them.
use Rattle.std.specs.Prelude.{ℕ, if◌then◌else◌, ◌↔◌, List, [], ◌∷◌, Some, None, Option, IsTrue, IsFalse, ◌==◌, ◌≡◌}
use Rattle.query.specs.Meaning.{Meaning}
use Rattle.query.specs.Words.{Accepts}
use Rattle.expression.specs.Cases.{ExpressionCases, letter_word}
use Rattle.expression.specs.Grammar.{Denotes}
use Rattle.paths.specs.Links.{Links, Triple, same, Windows, is_kept}
use Rattle.paths.specs.Pairs.{Stands, PairTime}
use Rattle.paths.specs.Plain.{Held, Plain, idle, opened, with_report, advancing, Memory, refusal, after, counting}

-- A query of an expression: it accepts just the words that the expression denotes.
abbrev pub QueryOf : List ℕ → Meaning → Type 0
QueryOf ws m = (w : List ℕ) → Accepts m w ↔ Denotes ws w

abbrev pub link : ℕ → ℕ → ℕ → Triple
link a b l = record { from = a; to = b; label = l }

-- The links that a plain watch keeps, with their times. Idle, none.
abbrev pub links_held : Plain → Links
links_held idle t = None
links_held (opened h) t = h.links t

-- No links, and one more link besides others.
abbrev pub no_links : Links
no_links t = None

abbrev pub besides : Links → Triple → ℕ → Links
besides G t time u = if same u t then Some time else G u

-- The window of every link is 10.
abbrev pub ten : Windows
ten = 10

-- A watch of four points with this window at clock 8.
abbrev pub watch_of : Meaning → Links → (ℕ → ℕ) → Held
watch_of m G passes = record { n = 4; windows = ten; tag = 0; query = m; clock = 8; links = G; passes = passes }

-- 0 to 1 with label 1 and time 5.
abbrev pub one_link : Links
one_link = besides no_links (link 0 1 1) 5

-- And 1 to 2 with label 2 and time 8.
abbrev pub two_links : Links
two_links = besides one_link (link 1 2 2) 8

-- And 0 to 3 with label 1 and time 6, and 3 to 2 with label 2 and time 7.
abbrev pub four_links : Links
four_links = besides (besides two_links (link 0 3 1) 6) (link 3 2 2) 7

-- No pass is out, or one for point 1.
abbrev pub no_passes : ℕ → ℕ
no_passes p = 0

abbrev pub pass_at_one : ℕ → ℕ
pass_at_one p = if p == 1 then 1 else 0

-- What the plain watch of one link keeps of that link after an advance with enough report memory, which is accepted.
abbrev pub KeepsAfter : Meaning → (clock : ℕ) → Option ℕ → Type 0
KeepsAfter m clock kept =
    let s = opened (watch_of m one_link no_passes) in
    let call = with_report 16 (advancing clock) in
    ((memory : Memory) → refusal memory s call ≡ None) × (links_held (after s call) (link 0 1 1) ≡ kept)

pub record WorkedCases : Type 0 where
  pub expressions : ExpressionCases
  -- A link of time 5 under window 10 is kept at clock 14, and not at 15; and so the plain watch keeps it.
  pub kept : IsTrue (is_kept ten (link 0 1 1) 14 5)
  pub gone : IsFalse (is_kept ten (link 0 1 1) 15 5)
  pub kept_after : (m : Meaning) → KeepsAfter m 14 (Some 5)
  pub gone_after : (m : Meaning) → KeepsAfter m 15 None
  -- For the query 1 2: the first two links give the pair 0, 2 time 5; with the other two besides it is 6; the first two with point 1 in
  -- maintenance give no pair.
  pub two-links : (m : Meaning) → QueryOf (letter_word 1 ∷ letter_word 2 ∷ []) m → PairTime (counting (watch_of m two_links no_passes)) m 0 2 5
  pub four-links : (m : Meaning) → QueryOf (letter_word 1 ∷ letter_word 2 ∷ []) m → PairTime (counting (watch_of m four_links no_passes)) m 0 2 6
  pub maintained : (m : Meaning) → QueryOf (letter_word 1 ∷ letter_word 2 ∷ []) m → (a b : ℕ) → ¬ Stands (counting (watch_of m two_links pass_at_one)) m a b
  -- A link from 0 to 0 and the query 1: the pair 0, 0 does not stand.
  pub itself : (m : Meaning) → QueryOf (letter_word 1 ∷ []) m → ¬ Stands (counting (watch_of m (besides no_links (link 0 0 1) 5) no_passes)) m 0 0
