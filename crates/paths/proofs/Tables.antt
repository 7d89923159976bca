-- A table that is supported and closed is right, and what follows where last steps are kept.
use Rattle.std.proofs.Common.{◌≡◌, ℕ, zero, suc, ◌+◌, ◌*◌, ◌<◌, ◌≤◌, min, eqb, List, [], ◌∷◌, ◌++◌, length, Some, refl, ⊎_elim, arith}
use Rattle.std.specs.Prelude.{if◌then◌else◌, IsSome, IsTrue, All, false}
use Rattle.std.specs.List.{IsDistinct}
use Rattle.std.proofs.lemmas.List.Elements.{All-nil, All-cons, recursion_from_All}
use Rattle.std.proofs.lemmas.List.{length_push, map_push}
use Rattle.std.proofs.lemmas.Map.Made.{is_member-Decides}
use Rattle.std.proofs.lemmas.Map.Steps.{length-le_from_distinct_below}
use Rattle.std.proofs.lemmas.Nat.{mul-add-lt, same_from_place}
use Rattle.std.proofs.lemmas.Bool.{cases_lt}
use Rattle.std.proofs.lemmas.Bool.Decides.{Decides-eqb, nat_tests}
use Rattle.query.specs.Meaning.{Meaning, Lawful}
use Rattle.query.specs.Words.{Leads}
use Rattle.query.proofs.Runs.{leads_push}
use Rattle.paths.specs.Links.{Links, Triple}
use Rattle.paths.specs.Paths.{Chain, word, path_time}
use Rattle.paths.specs.Arrivals.{Arrives, ArrivalTime, Step, LastStep}
use Rattle.paths.specs.Pairs.{Listed, Stands}
use Rattle.paths.specs.Tables.{Table, Shown, first, next, Supported, Closed, Right, PairShown, Below, TableLaw, TimeRises, StepsLaw}
use Rattle.paths.proofs.Chains.{chain_push, path_time-push}

module _ {G : Links} {m : Meaning} {a : ℕ} {T : Table} where
  -- No path has more than a closed table says.
  climb : Closed G m a T → (ts : List Triple) (p q b s : ℕ) → Chain G p ts b → Leads m q (word ts) s → min (T.rank p q) (path_time G ts + 1) ≤ T.rank b s
  climb closed [] p q b s chain leads = grind arith
  climb closed (t ∷ []) p q b s chain leads = grind (arith, closed.later)
  climb closed (t ∷ u ∷ ts) p q b s chain (r, move, leads) = grind (arith, closed.later t q r, climb closed (u ∷ ts) t.to r b s chain.2 leads)

  path_below : Closed G m a T → (b s : ℕ) (ts : List Triple) → Arrives G m a b s ts → path_time G ts + 1 ≤ T.rank b s
  path_below closed b s [] arrives = absurd (let some = arrives.path.some in omega arith)
  path_below closed b s (t ∷ []) arrives = grind (arith, closed.start t s)
  path_below closed b s (t ∷ u ∷ ts) arrives =
      let (q, move, leads) = arrives.leads in
      grind (arith, closed.start t q, climb closed (u ∷ ts) t.to q b s arrives.path.laid.2 leads)

  -- A shown path is a path, and none of its links has less than the arrival's rank.
  shown_arrives : {b s : ℕ} {ts : List Triple} → Shown G m a T b s ts → Arrives G m a b s ts × (T.rank b s ≤ path_time G ts + 1)
  shown_arrives (first b s t last into from move) = grind arith
  shown_arrives (next b s t c q ts last into from move more shown) =
      grind (arith, shown_arrives shown, length_push, chain_push, map_push (λ (t : Triple). t.label) ts t, leads_push m (word ts) t.label 0 q s, path_time-push)

  shown_time : Closed G m a T → (b s : ℕ) (ts : List Triple) → Shown G m a T b s ts → Arrives G m a b s ts × (path_time G ts + 1 ≡ T.rank b s)
  shown_time closed b s ts shown = grind (arith, shown_arrives shown, path_below closed b s ts)

  -- The last step of a shown path is one of its arrival.
  shown_last : {b s : ℕ} {ts : List Triple} → Shown G m a T b s ts → (step : Step) × (T.last b s ≡ Some step) × LastStep G m a b s step
  shown_last (first b s t last into from move) = grind arith
  shown_last (next b s t c q ts last into from move more shown) = grind (arith, shown_arrives shown)

  pub right : Supported G m a T → Closed G m a T → Right G m a T
  right supported closed = record {
    reached = λ b s some.
        let (path, shown) = supported.shown b s some in
        let (arrives, time) = shown_time closed b s path shown in
        record { path = path; arrives = arrives; time = omega arith; most = λ ts arrives. omega (arith, path_below closed b s ts arrives) };
    only = λ b s (ts, arrives). omega (arith, path_below closed b s ts arrives);
    lasts = λ b s some. shown_last (supported.shown b s some).1;
    lost = supported.lost;
    shown = supported.shown;
    shows = shown_time closed;
  }

  -- An arrival has one shown path.
  pub shown_same : {b s c q : ℕ} {ts us : List Triple} → Shown G m a T b s ts → Shown G m a T c q us → b ≡ c → s ≡ q → ts ≡ us
  shown_same (first b s t last into from move) (first c q u last' into' from' move') point state = grind arith
  shown_same (first b s t last into from move) (next c q u d r us last' into' from' move' more' shown') point state = grind arith
  shown_same (next b s t d r ts last into from move more shown) (first c q u last' into' from' move') point state = grind arith
  shown_same (next b s t d r ts last into from move more shown) (next c q u d' r' us last' into' from' move' more' shown') point state =
      grind (arith, shown_same shown shown' (grind arith) (grind arith))

module _ (G : Links) (m : Meaning) (a n : ℕ) (T : Table) (law : Lawful m) (below : Below n G) where
  -- A shown path leads to a point below n in a state of the query.
  within : {b s : ℕ} {ts : List Triple} → Shown G m a T b s ts → (b < n) × (s < m.size)
  within (first b s t last into from move) = grind (arith, below, law.steps)
  within (next b s t c q ts last into from move more shown) = grind (arith, below, law.steps)

  same_number : {b s c q : ℕ} {ts us : List Triple} → Shown G m a T b s ts → Shown G m a T c q us → b * m.size + s ≡ c * m.size + q → ts ≡ us
  same_number {b} {s} {c} {q} shown shown' same =
      let (point, state) = same_from_place b s c q m.size (within shown).1 (within shown').1 same in
      shown_same shown shown' point state

  -- The number of an arrival with a shown path of at most k links.
  abbrev Visit : ℕ → ℕ → Type 0
  Visit k code = (b : ℕ) × (s : ℕ) × (ts : List Triple) × Shown G m a T b s ts × (code ≡ b * m.size + s) × (length ts ≤ k)

  -- A shown path comes to different arrivals.
  visits : {b s : ℕ} {ts : List Triple} → Shown G m a T b s ts → (codes : List ℕ) × (length codes ≡ length ts) × All (Visit (length ts)) codes × IsDistinct eqb codes
  unfolding IsDistinct
  visits (first b s t last into from move) = (
    (b * m.size + s) ∷ [],
    refl,
    All-cons (Visit 1) _ [] (b, s, _, first b s t last into from move, refl, omega arith) (All-nil (Visit 1)),
    (tt, tt),
  )
  visits (next b s t c q ts last into from move more shown) =
      let here = next b s t c q ts last into from move more shown in
      let (codes, long, each, distinct) = visits shown in
      let longer = length_push ts t in (
        (b * m.size + s) ∷ codes,
        omega arith,
        All-cons (Visit (length (ts ++ t ∷ []))) _ codes (b, s, _, here, refl, omega arith) (λ k d inside. let (c, q, us, shown, is, short) = each k d inside in (c, q, us, shown, is, omega arith)),
        (
          recursion_from_All (λ code. eqb (b * m.size + s) code ≡ false) codes
              (λ k d inside.
              let (c, q, us, shown, is, short) = each k d inside in
              grind (arith, nat_tests, same_number here shown)),
          distinct,
        ),
      )

  -- Of these there are at most n × size.
  pub short : (b s : ℕ) (ts : List Triple) → Shown G m a T b s ts → length ts ≤ n * m.size
  short b s ts shown =
      let (codes, long, each, distinct) = visits shown in
      let few = length-le_from_distinct_below codes (n * m.size) distinct
      (λ code member.
      let (k, inside, at) = (is_member-Decides Decides-eqb codes code).0 member in
      let (c, q, us, shown, is, _) = each k code inside in
      grind (arith, mul-add-lt c m.size q n, within shown)) in
      omega arith

-- The first of the greatest.
pub greatest : (key : ℕ → ℕ) (n : ℕ) → (best : ℕ) × ((k : ℕ) → k ≤ n → key k ≤ key best) × ((k : ℕ) → k < best → key k < key best)
greatest key zero = (0, λ k within. grind arith, λ k within. omega arith)
greatest key (suc n) =
    let (best, most, lowest) = greatest key n in
    ⊎_elim (λ less. (suc n, λ k within. grind (arith, most k), λ k within. grind (arith, most k))) (λ more. (best, λ k within. grind (arith, most k), lowest)) (cases_lt (key best) (key (suc n)))

-- An arrival has one time.
time_same : (G : Links) (m : Meaning) (a b s g k : ℕ) → ArrivalTime G m a b s g → ArrivalTime G m a b s k → g ≡ k
time_same G m a b s g k time other = omega (arith, time.time, other.time, time.most other.path other.arrives, other.most time.path time.arrives)

-- The shown path of the lowest accepting state of the greatest rank is that of its pair.
best_shown : (G : Links) (m : Meaning) (a : ℕ) (T : Table) → Right G m a T → (b : ℕ) → Listed a b → (state : ℕ) → IsTrue (m.accepting state) → ((s : ℕ) → IsTrue (m.accepting s) → T.rank b s ≤ T.rank b state) → ((s : ℕ) → IsTrue (m.accepting s) → T.rank b s ≡ T.rank b state → state ≤ s) → (ts : List Triple) → Shown G m a T b state ts → PairShown G m a T b ts
best_shown G m a T right b listed state accepts best lowest ts shown =
    let (arrives, time) = right.shows b state ts shown in
    let most : (s : ℕ) → IsTrue (m.accepting s) → (us : List Triple) → Arrives G m a b s us → path_time G us ≤ path_time G ts =
    λ s accepts us arrives. omega (arith, best s accepts, right.only b s (us, arrives), (right.reached b s (right.only b s (us, arrives))).most us arrives) in
    record {
      path = record { path = arrives.path; accepted = (state, arrives.leads, accepts) };
      time = record { listed = listed; state = state; accepts = accepts; path = ts; arrives = arrives; time = refl; most = most };
      state = state;
      accepts = accepts;
      arrival = record { path = ts; arrives = arrives; time = refl; most = most state accepts };
      lowest = λ s accepts other.
          let reached = right.only b s (other.path, other.arrives) in
          let same = time_same G m a b s _ _ other (right.reached b s reached) in
          lowest s accepts (omega arith);
      shown = shown;
    }

-- A pair that stands has such a state.
pub pair_shown : (G : Links) (m : Meaning) (a : ℕ) (T : Table) → Lawful m → Right G m a T → (b : ℕ) → Stands G m a b → (ts : List Triple) × PairShown G m a T b ts
pair_shown G m a T law right b stands =
    let (state, most, lowest) = greatest (λ s. if m.accepting s then T.rank b s else 0) m.size in
    let within : (s : ℕ) → IsTrue (m.accepting s) → s ≤ m.size = λ s accepts. omega (arith, (law.ends s accepts).0) in
    let reached = right.only b stands.state stands.reached in
    let best : IsTrue (m.accepting state) × (0 < T.rank b state) = grind (arith, most stands.state, within stands.state) in
    let (ts, shown) = right.shown b state best.1 in
    (ts, best_shown G m a T right b stands.listed state best.0 (λ s accepts. grind (arith, most s, within s)) (λ s accepts same. grind (arith, most s, within s, lowest s)) ts shown)

pub table_law : TableLaw
table_law G m a n T law below supported closed =
    let is = right supported closed in
    (is, short G m a n T law below, pair_shown G m a T law is)

-- A path over some of the links, each with its time as it was, is a path over all of them with the same time.
module _ {G G' : Links} (only : (t : Triple) → IsSome (G' t) → G' t ≡ G t) where
  was_laid : (ts : List Triple) (a b : ℕ) → Chain G' a ts b → Chain G a ts b × (path_time G' ts ≡ path_time G ts)
  was_laid [] a b chain = grind arith
  was_laid (t ∷ []) a b chain = grind (arith, only t)
  was_laid (t ∷ u ∷ ts) a b chain = grind (arith, only t, was_laid (u ∷ ts) t.to b)

  -- So no arrival's time rises.
  no_rise : (m : Meaning) (a : ℕ) (T : Table) → Right G m a T → (b s : ℕ) → ¬ TimeRises G G' m a b s
  no_rise m a T right b s (g, time, above) =
      let (laid, same) = was_laid time.path a b time.arrives.path.laid in
      let arrives : Arrives G m a b s time.path = record { path = record { some = time.arrives.path.some; laid = laid }; leads = time.arrives.leads } in
      let before = right.reached b s (right.only b s (time.path, arrives)) in
      omega (arith, above _ before, time.time, before.most time.path arrives)

pub steps_law : StepsLaw
steps_law m a G G' T T' = (
  λ b s changes. absurd (changes refl),
  λ keeps still b s changes. ⊎_elim (λ rises. rises) (λ breaks. grind arith) (keeps b s changes),
  λ right keeps only b s changes. ⊎_elim (λ rises. absurd (no_rise only m a T right b s rises)) (λ breaks. breaks) (keeps b s changes),
)
