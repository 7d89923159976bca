-- A pair left alone: only the clock moves, and links leave in their time.
use Rattle.std.proofs.Common.{◌≡◌, ℕ, suc, ◌<◌, ◌≤◌, List, [], ◌∷◌, length, Option, refl, arith}
use Rattle.std.specs.Prelude.{IsSome, IsFalse, None, Some, ⊤, ◌↔◌, ◌⊎◌}
use Rattle.std.proofs.lemmas.Bool.Decides.{nat_tests}
use Rattle.paths.specs.Links.{Triple, Windows, has_bad_window, leaves, rank_of, ends_at}
use Rattle.paths.specs.Paths.{Chain, path_time, time_of}
use Rattle.paths.specs.Arrivals.{Arrives}
use Rattle.paths.specs.Pairs.{Stands, PairTime}
use Rattle.paths.specs.Plain.{Held, Plain, idle, opened, Standing, Call, opening, with_report, adding, dropping, advancing, Memory, refusal, after, unless_past, counting}
use Rattle.paths.specs.Runs.{Event, Row, begin, then, IsRefused, IsQuiet, LeavesAlone, Takes, LeftAloneLaw}

-- A link leaves at the clock at which its rank ends.
leaves_at_end : (windows : Windows) (t : Triple) (time : ℕ) → leaves windows t time ≡ ends_at windows (rank_of windows t time)
leaves_at_end windows t time = refl

-- A link that is past its time stays so.
past_twice : (windows : Windows) (t : Triple) (early late : ℕ) (link : Option ℕ) → early ≤ late → unless_past windows t late (unless_past windows t early link) ≡ unless_past windows t late link
past_twice windows t early late link order = grind (arith, nat_tests)

-- A link that has just come is within its time.
just_added : (windows : Windows) (t : Triple) (clock : ℕ) → IsFalse (has_bad_window windows) → unless_past windows t clock (Some clock) ≡ Some clock
just_added windows t clock good = grind (arith, nat_tests)

-- The windows are good, and every kept link is within its time.
abbrev pub Fresh : Plain → Type 0
Fresh idle = ⊤
Fresh (opened h) = IsFalse (has_bad_window h.windows) × ((t : Triple) → h.links t ≡ unless_past h.windows t h.clock (h.links t))

-- Every call leaves it so.
fresh_after : (memory : Memory) (s : Plain) (call : Call) → refusal memory s call ≡ None → Fresh s → Fresh (after s call)
fresh_after memory idle (opening n windows tag query) accepted fresh = grind (arith, nat_tests)
fresh_after memory (opened h) (with_report room (adding t)) accepted (good, within) = (good, λ u. grind (arith, within u, just_added h.windows u))
fresh_after memory (opened h) (with_report room (dropping t)) accepted (good, within) = (good, λ u. grind (arith, within u))
fresh_after memory (opened h) (with_report room (advancing clock)) accepted (good, within) = (good, λ u. grind (arith, nat_tests, within u, past_twice))
fresh_after memory s call accepted fresh = grind (arith, nat_tests)

fresh_call : (memory : Memory) (s : Plain) (e : Event) (s' : Plain) → Takes memory s e.call e.answer e.report s' → Fresh s → Fresh s'
fresh_call memory s e s' takes fresh = grind (arith, fresh_after memory s e.call)

pub fresh_row : (memory : Memory) {es : List Event} {s : Plain} → Row memory idle es s → Fresh s
fresh_row memory begin = tt
fresh_row memory (then es s s' e row lawful takes) = fresh_call memory s e s' takes (fresh_row memory row)

-- The watch k is the watch h with only its clock moved on, and the links gone that are past their time.
record Aged (h k : Held) : Type 0 where
  windows : k.windows ≡ h.windows
  query : k.query ≡ h.query
  passes : k.passes ≡ h.passes
  links : (t : Triple) → k.links t ≡ unless_past h.windows t k.clock (h.links t)

abbrev AgedPlain : Held → Plain → Type 0
AgedPlain h idle = ⊥
AgedPlain h (opened k) = Aged h k

-- A refused or quiet call leaves it so.
aged_call : (memory : Memory) (h : Held) (s : Plain) (e : Event) (s' : Plain) → Takes memory s e.call e.answer e.report s' → IsRefused e.answer ⊎ IsQuiet e.call → AgedPlain h s → AgedPlain h s'
aged_call memory h s e s' takes quiet aged = grind (arith, nat_tests, past_twice)

aged_row : (memory : Memory) (h : Held) → Fresh (opened h) → {es : List Event} {s : Plain} → Row memory (opened h) es s → LeavesAlone es → AgedPlain h s
aged_row memory h fresh begin alone = record { windows = refl; query = refl; passes = refl; links = fresh.1 }
aged_row memory h fresh (then es s s' e row lawful takes) alone =
    aged_call memory h s e s' takes (alone 0 e (omega arith)) (aged_row memory h fresh row (λ k d within. alone (suc k) d (omega arith)))

module _ (h k : Held) (aged : Aged h k) where
  -- The links that count later are those that counted before and have not left.
  still_counts : (t : Triple) → IsSome (counting k t) ↔ (IsSome (counting h t) × (k.clock < ends_at h.windows (time_of (counting h) t)))
  still_counts t = grind (arith, nat_tests, leaves_at_end, aged.links t, aged.windows, aged.passes)

  -- And they have the times that they had.
  still_timed : (t : Triple) → IsSome (counting k t) → time_of (counting k) t ≡ time_of (counting h) t
  still_timed t counts = grind (arith, nat_tests, aged.links t, aged.windows, aged.passes)

  -- So for a path, whose least time decides.
  still_laid : (ts : List Triple) (a b : ℕ) → 0 < length ts → Chain (counting k) a ts b ↔ (Chain (counting h) a ts b × (k.clock < ends_at h.windows (path_time (counting h) ts)))
  still_laid [] a b some = absurd (omega arith)
  still_laid (t ∷ []) a b some = grind (arith, still_counts t)
  still_laid (t ∷ u ∷ ts) a b some = grind (arith, still_counts t, still_laid (u ∷ ts) t.to b (omega arith))

  still_arrives : (a b s : ℕ) (ts : List Triple) → Arrives (counting k) k.query a b s ts ↔ (Arrives (counting h) h.query a b s ts × (k.clock < ends_at h.windows (path_time (counting h) ts)))
  still_arrives a b s ts = grind (arith, still_laid ts a b, aged.query)

  stands_until : (a b g : ℕ) → PairTime (counting h) h.query a b g → k.clock < ends_at h.windows g → Stands (counting k) k.query a b
  stands_until a b g pair early = record {
    listed = pair.listed;
    state = pair.state;
    accepts = rw aged.query pair.accepts;
    reached = (pair.path, (still_arrives a b pair.state pair.path).1 (pair.arrives, omega (arith, pair.time)));
  }

  falls_then : (a b g : ℕ) → PairTime (counting h) h.query a b g → Stands (counting k) k.query a b → k.clock < ends_at h.windows g
  falls_then a b g pair stands =
      let (ts, arrives) = stands.reached in
      let (before, early) = (still_arrives a b stands.state ts).0 arrives in
      omega (arith, pair.most stands.state (rw (← aged.query) stands.accepts) ts before)

pub left_alone_law : LeftAloneLaw
left_alone_law memory before h row a b g pair later s row' alone = go s (aged_row memory h (fresh_row memory row) row' alone)
  where
    go : (s : Plain) → AgedPlain h s → (k : Held) × (s ≡ opened k) × (k.clock < ends_at h.windows g → Standing s a b) × (Standing s a b → k.clock < ends_at h.windows g)
    go idle aged = absurd aged
    go (opened k) aged = (k, refl, stands_until h k aged a b g pair, falls_then h k aged a b g pair)
