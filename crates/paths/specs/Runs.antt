-- Reports, and rows of calls on the plain watch.
use Rattle.std.specs.Prelude.{◌≡◌, ℕ, ◌+◌, ◌*◌, ◌<◌, Bool, true, false, if◌then◌else◌, not, ◌&&◌, ◌⊎◌, List, [], ◌∷◌, length, map, count_by, sum_by, All, Some, None, Option, ◌==◌, ⊤}
use Rattle.query.specs.Meaning.{Lawful}
use Rattle.paths.specs.Links.{ends_at}
use Rattle.paths.specs.Pairs.{PairTime}
use Rattle.paths.specs.Plain.{Held, Plain, idle, opened, Standing, Call, opening, with_report, advancing, entering, Memory, refusal, after, counting}

-- One word of a report: a pair that stands now and did not, announced; or one that stood and does not, withdrawn.
pub record Change : Type 0 where
  pub announced : Bool
  pub first : ℕ
  pub second : ℕ

-- An announcement is 0xD0000000 and a withdrawal 0xE0000000, with the first point in bits 8 to 15 and the second in bits 0 to 7.
abbrev pub word_of_change : Change → ℕ
word_of_change c = (if c.announced then 0xD0000000 else 0xE0000000) + 256 * c.first + c.second

-- Whether a change is of the kind asked for.
abbrev pub same_kind : Bool → Bool → Bool
same_kind true k = k
same_kind false k = not k

-- How often a report announces a pair, or withdraws it.
abbrev pub times : Bool → ℕ → ℕ → List Change → ℕ
times kind a b cs = count_by (λ c. same_kind kind c.announced && c.first == a && c.second == b) cs

-- The pair a, b comes before the pair c, d: by the first point and then by the second.
abbrev pub ComesBefore : (a b c d : ℕ) → Type 0
ComesBefore a b c d = (a < c) ⊎ ((a ≡ c) × (b < d))

-- The changes' pairs ascend, so that no pair comes twice.
abbrev pub Ascends : List Change → Type 0
Ascends [] = ⊤
Ascends (c ∷ []) = ⊤
Ascends (c ∷ d ∷ cs) = ComesBefore c.first c.second d.first d.second × Ascends (d ∷ cs)

-- The report of an accepted call has one word for each pair whose standing changed, and no other, in order.
pub record Reports (s s' : Plain) (cs : List Change) : Type 0 where
  pub announces : (a b : ℕ) → (¬ Standing s a b) → Standing s' a b → times true a b cs ≡ 1
  pub announced : (a b : ℕ) → 0 < times true a b cs → (¬ Standing s a b) × Standing s' a b
  pub withdraws : (a b : ℕ) → Standing s a b → (¬ Standing s' a b) → times false a b cs ≡ 1
  pub withdrawn : (a b : ℕ) → 0 < times false a b cs → Standing s a b × (¬ Standing s' a b)
  pub ascends : Ascends cs

-- What a call answers: a refusal's number; an opening nothing; an entering its pass, by tag and point, and the count of its report; any other
-- request the count of its report.
pub data Answer : Type 0 where
  refused : (number : ℕ) → Answer
  done : Answer
  count : ℕ → Answer
  pass : (tag point : ℕ) → ℕ → Answer

abbrev pub answer_of : Plain → Call → List Change → Answer
answer_of s (opening n windows tag query) cs = done
answer_of (opened h) (with_report room (entering p)) cs = pass h.tag p (length cs)
answer_of s call cs = count (length cs)

-- An opening has no report.
abbrev pub ReportOf : Plain → Call → List Change → Type 0
ReportOf s (opening n windows tag query) cs = cs ≡ []
ReportOf s call cs = Reports s (after s call) cs

-- A refused call answers its number, changes nothing and has no report. Any other is accepted.
abbrev pub Outcome : Option ℕ → Plain → Call → Answer → List Change → Plain → Type 0
Outcome (Some k) s call answer report s' = (answer ≡ refused k) × (report ≡ []) × (s' ≡ s)
Outcome None s call answer report s' = (answer ≡ answer_of s call report) × ReportOf s call report × (s' ≡ after s call)

abbrev pub Takes : Memory → Plain → Call → Answer → List Change → Plain → Type 0
Takes memory s call answer report s' = Outcome (refusal memory s call) s call answer report s'

-- A call with its answer and its report.
pub record Event : Type 0 where
  pub call : Call
  pub answer : Answer
  pub report : List Change

-- An opening brings a lawful query, as every query is.
abbrev pub BringsLawful : Call → Type 0
BringsLawful (opening n windows tag query) = Lawful query
BringsLawful call = ⊤

-- A row of such calls leads from one state of the plain watch to another; the newest event comes first.
pub data Row (memory : Memory) (s : Plain) : List Event → Plain → Type 0 where
  begin : Row memory s [] s
  then : (es : List Event) (s' s'' : Plain) (e : Event) → Row memory s es s' → BringsLawful e.call → Takes memory s' e.call e.answer e.report s'' → Row memory s (e ∷ es) s''

-- The calls settle all: two rows with the same calls from the same state have the same answers, the same reports and the same end.
abbrev pub DeterminedLaw : Type 0
DeterminedLaw =
    (memory : Memory) (s : Plain) (es ds : List Event) (s' s'' : Plain) → Row memory s es s' → Row memory s ds s'' →
    map (λ e. e.call) es ≡ map (λ e. e.call) ds → (es ≡ ds) × (s' ≡ s'')

-- How often a row announces a pair, or withdraws it.
abbrev pub times_in : Bool → ℕ → ℕ → List Event → ℕ
times_in kind a b es = sum_by (λ e. times kind a b e.report) es

-- Over any row of calls from the idle watch, a pair's announcements less its withdrawals come to one if it stands and to nought if not.
abbrev pub BalanceLaw : Type 0
BalanceLaw =
    (memory : Memory) (es : List Event) (s : Plain) → Row memory idle es s → (a b : ℕ) →
    (Standing s a b → times_in true a b es ≡ times_in false a b es + 1) × ((¬ Standing s a b) → times_in true a b es ≡ times_in false a b es)

-- The answer is a refusal's number.
abbrev pub IsRefused : Answer → Type 0
IsRefused answer = (k : ℕ) × (answer ≡ refused k)

-- A quiet call changes no link and no point but by the clock: it is an advance.
abbrev pub IsQuiet : Call → Type 0
IsQuiet (with_report room (advancing clock)) = ⊤
IsQuiet call = ⊥

-- Every call of the row is refused or quiet.
abbrev pub LeavesAlone : List Event → Type 0
LeavesAlone es = All (λ e. IsRefused e.answer ⊎ IsQuiet e.call) es

-- Where no add, drop, enter or leave is accepted from some call on, a pair that then has time g stands from then on at every clock short of
-- the clock at which this time, as a rank, ends, and at none from there on.
abbrev pub LeftAloneLaw : Type 0
LeftAloneLaw =
    (memory : Memory) (before : List Event) (h : Held) → Row memory idle before (opened h) →
    (a b g : ℕ) → PairTime (counting h) h.query a b g →
    (later : List Event) (s : Plain) → Row memory (opened h) later s → LeavesAlone later →
    (k : Held) × (s ≡ opened k) × (k.clock < ends_at h.windows g → Standing s a b) × (Standing s a b → k.clock < ends_at h.windows g)
