-- A row's calls settle its answers, its reports and its end.
use Rattle.std.proofs.Common.{◌≡◌, ℕ, ◌+◌, ◌<◌, Bool, true, false, List, [], ◌∷◌, map, refl, arith}
use Rattle.std.specs.Prelude.{◌⊎◌, ◌==◌, ◌&&◌, if◌then◌else◌}
use Rattle.std.proofs.lemmas.List.Sums.{sum_by-cons}
use Rattle.std.proofs.lemmas.Bool.Decides.{nat_tests}
use Rattle.paths.specs.Plain.{Plain, Memory, after}
use Rattle.paths.specs.Runs.{Change, same_kind, times, ComesBefore, Ascends, Reports, Takes, Event, Row, begin, then, DeterminedLaw}

-- Whether a change is the one asked for.
abbrev matches : Bool → ℕ → ℕ → Change → Bool
matches kind a b c = same_kind kind c.announced && c.first == a && c.second == b

times_cons : (kind : Bool) (a b : ℕ) (c : Change) (cs : List Change) → times kind a b (c ∷ cs) ≡ (if matches kind a b c then 1 else 0) + times kind a b cs
times_cons kind a b c cs = sum_by-cons (λ (x : Change). if matches kind a b x then 1 else 0) c cs

-- A change is in the list that begins with it.
at_front : (c : Change) (cs : List Change) → 0 < times c.announced c.first c.second (c ∷ cs)
at_front c cs = grind (arith, nat_tests, times_cons c.announced c.first c.second c cs)

-- What is in a list is at its front or behind.
in_list : (kind : Bool) (a b : ℕ) (c : Change) (cs : List Change) → 0 < times kind a b (c ∷ cs) → ((c.announced ≡ kind) × (c.first ≡ a) × (c.second ≡ b)) ⊎ (0 < times kind a b cs)
in_list kind a b c cs some = grind (arith, nat_tests, times_cons kind a b c cs)

-- What is behind comes later.
comes_later : (kind : Bool) (a b : ℕ) (c : Change) (cs : List Change) → Ascends (c ∷ cs) → 0 < times kind a b cs → ComesBefore c.first c.second a b
comes_later kind a b c [] ascends some = absurd (omega (arith, some))
comes_later kind a b c (d ∷ cs) ascends some = grind (arith, in_list kind a b d cs some, comes_later kind a b d cs ascends.1)

-- Two ascending lists with the same changes are one.
abbrev SameTimes : List Change → List Change → Type 0
SameTimes cs ds = (kind : Bool) (a b : ℕ) → times kind a b cs ≡ times kind a b ds

same_front : (c d : Change) (cs ds : List Change) → Ascends (c ∷ cs) → Ascends (d ∷ ds) → SameTimes (c ∷ cs) (d ∷ ds) → c ≡ d
same_front c d cs ds ascends ascends' same =
    grind (
      arith,
      at_front c cs,
      at_front d ds,
      same c.announced c.first c.second,
      same d.announced d.first d.second,
      in_list c.announced c.first c.second d ds,
      in_list d.announced d.first d.second c cs,
      comes_later c.announced c.first c.second d ds ascends',
      comes_later d.announced d.first d.second c cs ascends,
    )

ascends_rest : (c : Change) (cs : List Change) → Ascends (c ∷ cs) → Ascends cs
ascends_rest c [] ascends = tt
ascends_rest c (d ∷ cs) ascends = ascends.1

same_rest : (c d : Change) (cs ds : List Change) → c ≡ d → SameTimes (c ∷ cs) (d ∷ ds) → SameTimes cs ds
same_rest c d cs ds front same kind a b = grind (arith, same kind a b, times_cons kind a b c cs, times_cons kind a b d ds)

same_list : (cs ds : List Change) → Ascends cs → Ascends ds → SameTimes cs ds → cs ≡ ds
same_list [] [] ascends ascends' same = refl
same_list [] (d ∷ ds) ascends ascends' same = absurd (omega (arith, at_front d ds, same d.announced d.first d.second))
same_list (c ∷ cs) [] ascends ascends' same = absurd (omega (arith, at_front c cs, same c.announced c.first c.second))
same_list (c ∷ cs) (d ∷ ds) ascends ascends' same =
    let front = same_front c d cs ds ascends ascends' same in
    let rest = same_list cs ds (ascends_rest c cs ascends) (ascends_rest d ds ascends') (same_rest c d cs ds front same) in
    grind arith

-- So what stood and stands settles a report.
same_times : (s s' : Plain) (cs ds : List Change) → Reports s s' cs → Reports s s' ds → SameTimes cs ds
same_times s s' cs ds told told' true a b = grind (arith, told.announces a b, told.announced a b, told'.announces a b, told'.announced a b)
same_times s s' cs ds told told' false a b = grind (arith, told.withdraws a b, told.withdrawn a b, told'.withdraws a b, told'.withdrawn a b)

same_report : (s s' : Plain) (cs ds : List Change) → Reports s s' cs → Reports s s' ds → cs ≡ ds
same_report s s' cs ds told told' = same_list cs ds told.ascends told'.ascends (same_times s s' cs ds told told')

same_outcome : (memory : Memory) (s : Plain) (e d : Event) (s' s'' : Plain) → Takes memory s e.call e.answer e.report s' → Takes memory s d.call d.answer d.report s'' → e.call ≡ d.call → (e ≡ d) × (s' ≡ s'')
same_outcome memory s e d s' s'' takes takes' same = grind (arith, same_report s (after s e.call) e.report d.report)

same_row : {memory : Memory} {s : Plain} {es ds : List Event} {s' s'' : Plain} → Row memory s es s' → Row memory s ds s'' → map (λ (e : Event). e.call) es ≡ map (λ (e : Event). e.call) ds → (es ≡ ds) × (s' ≡ s'')
same_row begin begin same = (refl, refl)
same_row begin ((then) es s' s'' e row lawful takes) same = grind arith
same_row ((then) es s' s'' e row lawful takes) begin same = grind arith
same_row ((then) es s' s'' e row lawful takes) ((then) ds t' t'' d row' lawful' takes') same =
    let (events, ends) = same_row row row' (grind arith) in
    let (event, end) = same_outcome _ s' e d s'' t'' takes (rw ends takes') (grind arith) in
    (grind arith, end)

pub determined_law : DeterminedLaw
determined_law memory s es ds s' s'' row row' same = same_row row row' same
