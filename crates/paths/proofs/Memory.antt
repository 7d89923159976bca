-- What slices of link records and of arrival records mean.
use Rattle.std.proofs.Common.{◌≡◌, ℕ, zero, suc, ◌+◌, ◌*◌, ◌<◌, ◌≤◌, List, [], ◌∷◌, length, get_or, set, Some, None, refl, sym, ap, ◌∙◌, ◌⊎◌, inl, inr, ⊎_elim, arith}
use Rattle.std.specs.Prelude.{find, option_map, Option, IfSome, All, AllPairs, Contains, ◌≢◌, true, false}
use Rattle.std.proofs.lemmas.List.{get_or-set_same, get_or-set_other}
use Rattle.std.proofs.lemmas.List.Elements.{All-nil, All-cons, All-tail}
use Rattle.std.proofs.lemmas.Nat.{mul-add-lt, same_from_place}
use Rattle.std.proofs.lemmas.Bool.Decides.{nat_tests}
use Rattle.std.proofs.lemmas.Bool.{cases_eq, cases_Bool}
use Rattle.query.specs.Meaning.{most_states}
use Rattle.paths.specs.Links.{Triple, same}
use Rattle.paths.specs.Memory.{LinkRecord, in_use, LinkMemoryLaw, ArrivalRecord, not_reached, place_of, HasPlace, arrival_at, last_of, start_mark, StepRecordLaw, PlaceLaw, NoPlaceLaw, ArrivalWriteLaw}

-- Whether two triples are the same.
same_tells : (t u : Triple) → ((same t u ≡ true) × (t ≡ u)) ⊎ ((same t u ≡ false) × (t ≢ u))
same_tells t u = ⊎_elim (λ yes. inl (yes, grind (arith, nat_tests))) (λ no. inr (no, λ is. grind (arith, nat_tests))) (cases_Bool (same t u))

-- The time of the first record that has the triple.
abbrev first_time : Triple → List LinkRecord → Option ℕ
first_time t xs = option_map (λ (r : LinkRecord). r.time) (find (λ (r : LinkRecord). same t r.link) xs)

abbrev record_of : Triple → ℕ → LinkRecord
record_of t time = record { link = t; time = time }

there_from_some : (t : Triple) (time : ℕ) (xs : List LinkRecord) → first_time t xs ≡ Some time → Contains xs (record_of t time)
there_from_some t time [] is = absurd (grind arith)
there_from_some t time (x ∷ xs) is =
    ⊎_elim (λ yes. (0, omega arith, grind arith)) (λ no. let (k, inside, at) = there_from_some t time xs (grind arith) in (suc k, omega arith, at)) (same_tells t x.link)

some_from_there : (t : Triple) (time : ℕ) (xs : List LinkRecord) → AllPairs (λ r q. r.link ≢ q.link) xs → (k : ℕ) → k < length xs → get_or xs k (record_of t time) ≡ record_of t time → first_time t xs ≡ Some time
some_from_there t time [] once k inside at = absurd (omega arith)
some_from_there t time (x ∷ xs) once zero inside at = grind (arith, same_tells t x.link)
some_from_there t time (x ∷ xs) once (suc k) inside at =
    let rest = some_from_there t time xs (λ i j d less within. once (suc i) (suc j) d (omega arith) (omega arith)) k (omega arith) at in
    grind (arith, same_tells t x.link, once 0 (suc k) (record_of t time))

none_from_missing : (t : Triple) (xs : List LinkRecord) → All (λ r. r.link ≢ t) xs → first_time t xs ≡ None
none_from_missing t [] missing = refl
none_from_missing t (x ∷ xs) missing =
    let rest = none_from_missing t xs (All-tail (λ (r : LinkRecord). r.link ≢ t) x xs missing) in
    grind (arith, same_tells t x.link, missing 0 x)

missing_from_none : (t : Triple) (xs : List LinkRecord) → first_time t xs ≡ None → All (λ r. r.link ≢ t) xs
missing_from_none t [] none = All-nil (λ (r : LinkRecord). r.link ≢ t)
missing_from_none t (x ∷ xs) none =
    All-cons (λ (r : LinkRecord). r.link ≢ t) x xs (grind (arith, same_tells t x.link)) (missing_from_none t xs (grind (arith, same_tells t x.link)))

pub link_memory_law : LinkMemoryLaw
link_memory_law records count law t = (
  λ time. (there_from_some t time (in_use records count), λ (k, inside, at). some_from_there t time (in_use records count) law.once k inside at),
  (missing_from_none t (in_use records count), none_from_missing t (in_use records count)),
)

step_record : (rank b : ℕ) (t : Triple) (before : Option ℕ) → 0 < rank → t.to ≡ b → IfSome before (λ q. q < most_states) → (r : ArrivalRecord) × (r.rank ≡ rank) × (last_of b r ≡ Some (record { link = t; before = before }))
step_record rank b t None some ends state = (record { rank = rank; from = t.from; label = t.label; before = start_mark }, refl, grind (arith, nat_tests))
step_record rank b t (Some q) some ends state = (record { rank = rank; from = t.from; label = t.label; before = q }, refl, grind (arith, nat_tests))

pub step_record_law : StepRecordLaw
step_record_law rank b step some ends state = step_record rank b step.link step.before some ends state

pub place_law : PlaceLaw
place_law n size a b s has = (
  grind (arith, mul-add-lt a n b n, mul-add-lt (a * n + b) size s (n * n)),
  λ c d q other is.
      let (row, state) = same_from_place (a * n + b) s (c * n + d) q size has.state other.state is in
      let (start, end) = same_from_place a b c d n has.end other.end row in
      (start, end, state),
)

no_record : (records : List ArrivalRecord) (n size a b s : ℕ) → (a < n → b < n → s < size → ⊥) → arrival_at records n size a b s ≡ not_reached
no_record records n size a b s none = grind (arith, nat_tests)

module _ (records : List ArrivalRecord) (n size a b s : ℕ) (r : ArrivalRecord) (long : n * n * size ≤ length records) (has : HasPlace n size a b s) (written : List ArrivalRecord) (is : written ≡ set records (place_of n size a b s) r) where
  write_here : arrival_at written n size a b s ≡ r
  write_here = rw is (grind (arith, nat_tests, get_or-set_same records (place_of n size a b s) r not_reached (omega (arith, (place_law n size a b s has).0))))

  -- An arrival at another place has another record, and one at the same place has none.
  write_else : (c d q : ℕ) → ¬ ((c ≡ a) × (d ≡ b) × (q ≡ s)) → arrival_at written n size c d q ≡ arrival_at records n size c d q
  write_else c d q other =
      ⊎_elim
      (λ same.
      let none : c < n → d < n → q < size → ⊥ = λ start end state. other ((place_law n size c d q (record { start = start; end = end; state = state })).1 a b s has same) in
      no_record written n size c d q none ∙ sym (no_record records n size c d q none))
      (λ apart.
      let still = get_or-set_other records (place_of n size a b s) (place_of n size c d q) r not_reached apart in
      rw is (grind (arith, nat_tests, still)))
      (cases_eq (place_of n size c d q) (place_of n size a b s))

pub no_place_law : NoPlaceLaw
no_place_law records n size a b s = (
  λ none. ap (λ (r : ArrivalRecord). r.rank) (no_record records n size a b s (λ start end state. none (record { start = start; end = end; state = state }))),
  λ zero. grind (arith, nat_tests),
)

pub arrival_write_law : ArrivalWriteLaw
arrival_write_law records n size a b s r long has written is =
    let here = write_here records n size a b s r long has written is in
    let else = write_else records n size a b s r long has written is in (
      ap (λ (x : ArrivalRecord). x.rank) here,
      ap (λ (x : ArrivalRecord). last_of b x) here,
      else,
      λ c other i. record { rank = λ d q. (else c d q (λ same. other same.0) i).rank; last = λ d q. last_of d (else c d q (λ same. other same.0) i) },
    )
