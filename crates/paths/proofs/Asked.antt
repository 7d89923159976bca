-- What pair and path answer is settled, and by a right table there is an answer.
use Rattle.std.proofs.Common.{◌≡◌, ℕ, ◌*◌, ◌<◌, ◌≤◌, List, ◌++◌, length, map, refl, inl, inr, ⊎_elim, arith}
use Rattle.std.specs.Prelude.{◌⊎◌, Some, None, Option, IsTrue, ◌↔◌, if◌then◌else◌, drop}
use Rattle.std.proofs.lemmas.List.{length-map}
use Rattle.std.proofs.lemmas.Bool.{cases_eq, cases_lt}
use Rattle.std.proofs.lemmas.Bool.Decides.{nat_tests}
use Rattle.query.specs.Meaning.{Meaning, Lawful}
use Rattle.paths.specs.Links.{Links, Triple}
use Rattle.paths.specs.Words.{add_word}
use Rattle.paths.specs.Paths.{path_time}
use Rattle.paths.specs.Pairs.{Listed, Stands, PairTime}
use Rattle.paths.specs.Tables.{Table, Right, PairShown, Below}
use Rattle.paths.specs.Plain.{Held, Plain, idle, opened, counting, Standing}
use Rattle.paths.specs.Asked.{Reply, refused, stands, stands_not, wrote, pair_refusal, path_refusal, PairOutcome, PathOutcome, PairAskedLaw, PathAskedLaw}
use Rattle.paths.proofs.Tables.{greatest, pair_shown, short, shown_same}

-- A pair has one time.
pair_time_same : (G : Links) (m : Meaning) (a b g k : ℕ) → PairTime G m a b g → PairTime G m a b k → g ≡ k
pair_time_same G m a b g k time other = omega (arith, time.time, other.time, time.most other.state other.accepts other.path other.arrives, other.most time.state time.accepts time.path time.arrives)

-- A pair with a time stands.
time_stands : (G : Links) (m : Meaning) (a b g : ℕ) → PairTime G m a b g → Stands G m a b
time_stands G m a b g time = record { listed = time.listed; state = time.state; accepts = time.accepts; reached = (time.path, time.arrives) }

same_pair : (refusal : Option ℕ) (s : Plain) (a b : ℕ) (r r' : Reply) → PairOutcome refusal s a b r → PairOutcome refusal s a b r' → r ≡ r'
same_pair (Some k) s a b r r' answers answers' = grind arith
same_pair None idle a b r r' answers answers' = grind arith
same_pair None (opened h) a b (stands g) (stands k) answers answers' = grind (arith, pair_time_same (counting h) h.query a b g k answers answers')
same_pair None (opened h) a b (stands g) stands_not answers answers' = absurd (answers' (time_stands _ _ a b g answers))
same_pair None (opened h) a b stands_not (stands g) answers answers' = absurd (answers (time_stands _ _ a b g answers'))
same_pair None (opened h) a b stands_not stands_not answers answers' = refl
same_pair None (opened h) a b r r' answers answers' = grind arith

-- A pair has one shown path by a table.
pair_shown_same : (G : Links) (m : Meaning) (a : ℕ) (T : Table) (b : ℕ) (ts us : List Triple) → PairShown G m a T b ts → PairShown G m a T b us → ts ≡ us
pair_shown_same G m a T b ts us shown other =
    let time = pair_time_same G m a b _ _ shown.time other.time in
    let state : shown.state ≡ other.state = omega (arith, shown.lowest other.state other.accepts (rw time other.arrival), other.lowest shown.state shown.accepts (rw (← time) shown.arrival)) in
    shown_same shown.shown other.shown refl state

same_path : (refusal : Option ℕ) (s : Plain) (T : Table) (a b : ℕ) (r r' : Reply) (memory x x' : List ℕ) → PathOutcome refusal s T a b r memory x → PathOutcome refusal s T a b r' memory x' → (r ≡ r') × (x ≡ x')
same_path (Some k) s T a b r r' memory x x' answers answers' = grind arith
same_path None idle T a b r r' memory x x' answers answers' = grind arith
same_path None (opened h) T a b (refused k) (refused l) memory x x' answers answers' = grind arith
same_path None (opened h) T a b (refused k) (wrote c) memory x x' answers answers' = absurd (answers.1 (time_stands _ _ a b _ answers'.shown.time))
same_path None (opened h) T a b (wrote c) (refused k) memory x x' answers answers' = absurd (answers'.1 (time_stands _ _ a b _ answers.shown.time))
same_path None (opened h) T a b (wrote c) (wrote d) memory x x' answers answers' = grind (arith, pair_shown_same (counting h) h.query a T b answers.links answers'.links answers.shown answers'.shown)
same_path None (opened h) T a b r r' memory x x' answers answers' = grind arith

-- A refusal asks nothing of the table.
same_refusal : (refusal : Option ℕ) (s : Plain) (T T' : Table) (a b k : ℕ) (r : Reply) (memory x x' : List ℕ) → PathOutcome refusal s T a b (refused k) memory x → PathOutcome refusal s T' a b r memory x' → r ≡ refused k
same_refusal (Some l) s T T' a b k r memory x x' answers answers' = grind arith
same_refusal None idle T T' a b k r memory x x' answers answers' = grind arith
same_refusal None (opened h) T T' a b k (refused l) memory x x' answers answers' = grind arith
same_refusal None (opened h) T T' a b k (wrote c) memory x x' answers answers' = absurd (answers.1 (time_stands _ _ a b _ answers'.shown.time))
same_refusal None (opened h) T T' a b k r memory x x' answers answers' = grind arith

-- No refusal that is asked before whether the pair stands has the number 18.
not_18 : (s : Plain) (a b room : ℕ) → ¬ (path_refusal s a b room ≡ Some 18)
not_18 idle a b room same = grind arith
not_18 (opened h) a b room same = grind arith

by_18 : (refusal : Option ℕ) (s : Plain) (T : Table) (a b : ℕ) (r : Reply) (memory x : List ℕ) → (¬ (refusal ≡ Some 18)) → PathOutcome refusal s T a b r memory x → (r ≡ refused 18) ↔ ((refusal ≡ None) × (¬ Standing s a b))
by_18 (Some k) s T a b r memory x other answers = grind arith
by_18 None s T a b (refused k) memory x other answers = grind arith
by_18 None (opened h) T a b (wrote c) memory x other answers = (λ same. grind arith, λ apart. absurd (apart.1 (time_stands _ _ a b _ answers.shown.time)))
by_18 None s T a b r memory x other answers = grind arith

found_stands : (h : Held) (T : Table) (a b state : ℕ) → Right (counting h) h.query a T → Listed a b → IsTrue (h.query.accepting state) → 0 < T.rank b state → Stands (counting h) h.query a b
found_stands h T a b state right listed accepts some =
    let time = right.reached b state some in
    record { listed = listed; state = state; accepts = accepts; reached = (time.path, time.arrives) }

-- By a right table it is found whether a pair stands.
stands_or_not : (h : Held) (T : Table) (a b : ℕ) → Lawful h.query → Right (counting h) h.query a T → Stands (counting h) h.query a b ⊎ (¬ Stands (counting h) h.query a b)
stands_or_not h T a b law right =
    let m = h.query in
    let (state, most, lowest) = greatest (λ s. if m.accepting s then T.rank b s else 0) m.size in
    let key = if m.accepting state then T.rank b state else 0 in
    ⊎_elim
    (λ some.
    let best : IsTrue (m.accepting state) × (0 < T.rank b state) = grind arith in
    ⊎_elim (λ same. inr (λ stands. stands.listed same)) (λ other. inl (found_stands h T a b state right other best.0 best.1)) (cases_eq a b))
    (λ none. inr (λ stands. grind (arith, most stands.state, law.ends stands.state stands.accepts, right.only b stands.state stands.reached)))
    (cases_lt 0 key)

some_pair : (refusal : Option ℕ) (h : Held) (T : Table) (a b : ℕ) → Lawful h.query → Right (counting h) h.query a T → (r : Reply) × PairOutcome refusal (opened h) a b r
some_pair (Some k) h T a b law right = (refused k, refl)
some_pair None h T a b law right =
    ⊎_elim
    (λ there. let (ts, shown) = pair_shown (counting h) h.query a T law right b there in (stands (path_time (counting h) ts), shown.time))
    (λ apart. (stands_not, apart))
    (stands_or_not h T a b law right)

some_path : (refusal : Option ℕ) (h : Held) (T : Table) (a b : ℕ) (memory : List ℕ) → (refusal ≡ None → h.n * h.query.size ≤ length memory) → Lawful h.query → Below h.n (counting h) → Right (counting h) h.query a T → (r : Reply) × (x : List ℕ) × PathOutcome refusal (opened h) T a b r memory x
some_path (Some k) h T a b memory room law below right = (refused k, memory, (refl, refl))
some_path None h T a b memory room law below right =
    ⊎_elim
    (λ there.
    let (ts, shown) = pair_shown (counting h) h.query a T law right b there in
    let words = map add_word ts in
    let few = short (counting h) h.query a h.n T law below b shown.state ts shown.shown in
    (wrote (length ts), words ++ drop (length words) memory, record { right = right; links = ts; shown = shown; many = refl; words = record { room = omega (arith, length-map ts add_word, room refl, few); changed = refl } }))
    (λ apart. (refused 18, memory, (refl, apart, refl)))
    (stands_or_not h T a b law right)

-- Where path is not refused at first its memory has room for every shown path.
has_room : (h : Held) (a b room : ℕ) → path_refusal (opened h) a b room ≡ None → h.n * h.query.size ≤ room
has_room h a b room none = grind (arith, nat_tests)

pub pair_asked_law : PairAskedLaw
pair_asked_law = (
  λ s a b r r' answers answers'. same_pair (pair_refusal s a b) s a b r r' answers answers',
  λ h T a b law right. some_pair (pair_refusal (opened h) a b) h T a b law right,
)

pub path_asked_law : PathAskedLaw
path_asked_law = (
  λ s T a b r r' memory x x' answers answers'. same_path (path_refusal s a b (length memory)) s T a b r r' memory x x' answers answers',
  λ s T T' a b k r memory x x' answers answers'. same_refusal (path_refusal s a b (length memory)) s T T' a b k r memory x x' answers answers',
  λ s T a b r memory x answers. by_18 (path_refusal s a b (length memory)) s T a b r memory x (not_18 s a b (length memory)) answers,
  λ h T a b memory law below right. some_path (path_refusal (opened h) a b (length memory)) h T a b memory (has_room h a b (length memory)) law below right,
)
