-- The two calls that ask and change nothing: whether a pair stands, and the links of its shown path.
use Rattle.std.specs.Prelude.{◌≡◌, ℕ, ◌*◌, ◌||◌, ◌↔◌, List, [], ◌∷◌, length, map, Some, None, Option, nat_le, nat_lt}
use Rattle.query.specs.Meaning.{Lawful}
use Rattle.paths.specs.Links.{Triple}
use Rattle.paths.specs.Words.{add_word, PutsInFront}
use Rattle.paths.specs.Pairs.{PairTime}
use Rattle.paths.specs.Tables.{Table, Right, PairShown, Below}
use Rattle.paths.specs.Numbers.{idle_number, point_number, path_memory_number, standing_number}
use Rattle.paths.specs.Plain.{Held, Plain, idle, opened, counting, Standing, RefusalCase, refuse, first_refusal}

-- What they answer: a refusal's number; pair, that the pair stands, with its time, or that it does not; path, how many links it wrote.
pub data Reply : Type 0 where
  refused : (number : ℕ) → Reply
  stands : (time : ℕ) → Reply
  stands_not : Reply
  wrote : (links : ℕ) → Reply

-- A point is n or above.
abbrev pub bad_pair : Held → (a b : ℕ) → List RefusalCase → List RefusalCase
bad_pair h a b rest = refuse (nat_le h.n a || nat_le h.n b) point_number ∷ rest

-- The number of pair's first refusal that holds, or none.
abbrev pub pair_refusal : Plain → (a b : ℕ) → Option ℕ
pair_refusal idle a b = Some idle_number
pair_refusal (opened h) a b = first_refusal (bad_pair h a b [])

-- That of path, with path memory of this length (room), which is too short with fewer than n × size words. Whether the pair stands is asked
-- after these.
abbrev pub path_refusal : Plain → (a b : ℕ) → (room : ℕ) → Option ℕ
path_refusal idle a b room = Some idle_number
path_refusal (opened h) a b room = first_refusal (bad_pair h a b (refuse (nat_lt room (h.n * h.query.size)) path_memory_number ∷ []))

-- Pair answers the number of a refusal; or else that the pair stands, with its time by the links that count, or that it does not stand.
abbrev pub PairOutcome : Option ℕ → Plain → (a b : ℕ) → Reply → Type 0
PairOutcome (Some k) s a b reply = reply ≡ refused k
PairOutcome None (opened h) a b (stands time) = PairTime (counting h) h.query a b time
PairOutcome None s a b stands_not = ¬ Standing s a b
PairOutcome refusal s a b reply = ⊥

-- What pair answers of two points, a and then b.
abbrev pub PairAnswers : Plain → (a b : ℕ) → Reply → Type 0
PairAnswers s a b reply = PairOutcome (pair_refusal s a b) s a b reply

-- From the path memory before to that after: the links of the pair's shown path, by a right table of its start, stand at the front as add words,
-- from the start on; there are count of them, and the rest of the memory is as it was.
pub record WritesPath (h : Held) (T : Table) (a b count : ℕ) (memory memory' : List ℕ) : Type 0 where
  pub right : Right (counting h) h.query a T
  pub links : List Triple
  pub shown : PairShown (counting h) h.query a T b links
  pub many : length links ≡ count
  pub words : PutsInFront (map add_word links) memory memory'

-- Path answers the number of a refusal, the last of which is that the pair does not stand, and leaves its memory as it was; or else it writes
-- the shown path and answers how many links that has.
abbrev pub PathOutcome : Option ℕ → Plain → Table → (a b : ℕ) → Reply → (memory memory' : List ℕ) → Type 0
PathOutcome (Some k) s T a b reply memory memory' = (reply ≡ refused k) × (memory' ≡ memory)
PathOutcome None s T a b (refused k) memory memory' = (k ≡ standing_number) × (¬ Standing s a b) × (memory' ≡ memory)
PathOutcome None (opened h) T a b (wrote count) memory memory' = WritesPath h T a b count memory memory'
PathOutcome refusal s T a b reply memory memory' = ⊥

-- What path answers of two points, by the table of the first, and what it leaves in its memory.
abbrev pub PathAnswers : Plain → Table → (a b : ℕ) → Reply → (memory memory' : List ℕ) → Type 0
PathAnswers s T a b reply memory memory' = PathOutcome (path_refusal s a b (length memory)) s T a b reply memory memory'

-- Pair has one answer at most; and it has one where there is a right table of its start.
abbrev pub PairAskedLaw : Type 0
PairAskedLaw =
    ((s : Plain) (a b : ℕ) (r r' : Reply) → PairAnswers s a b r → PairAnswers s a b r' → r ≡ r')
    × ((h : Held) (T : Table) (a b : ℕ) → Lawful h.query → Right (counting h) h.query a T → (r : Reply) × PairAnswers (opened h) a b r)

-- Path has one answer and one memory after by a table at most, and by any table the same refusal. It is refused by its last number exactly
-- where no other refusal holds and the pair does not stand. And by a right table it has an answer: path memory of n × size words is never
-- too short.
abbrev pub PathAskedLaw : Type 0
PathAskedLaw =
    ((s : Plain) (T : Table) (a b : ℕ) (r r' : Reply) (memory x x' : List ℕ) → PathAnswers s T a b r memory x → PathAnswers s T a b r' memory x' → (r ≡ r') × (x ≡ x'))
    × ((s : Plain) (T T' : Table) (a b k : ℕ) (r : Reply) (memory x x' : List ℕ) → PathAnswers s T a b (refused k) memory x → PathAnswers s T' a b r memory x' → r ≡ refused k)
    × ((s : Plain) (T : Table) (a b : ℕ) (r : Reply) (memory x : List ℕ) → PathAnswers s T a b r memory x → (r ≡ refused standing_number) ↔ ((path_refusal s a b (length memory) ≡ None) × (¬ Standing s a b)))
    × ((h : Held) (T : Table) (a b : ℕ) (memory : List ℕ) → Lawful h.query → Below h.n (counting h) → Right (counting h) h.query a T → (r : Reply) × (x : List ℕ) × PathAnswers (opened h) T a b r memory x)
