-- Announcements less withdrawals, over any row of calls from the idle watch.
use Rattle.std.proofs.Common.{◌≡◌, ℕ, ◌+◌, Bool, true, false, List, [], ◌∷◌, None, refl, arith}
use Rattle.std.specs.Prelude.{◌↔◌}
use Rattle.std.proofs.lemmas.List.Sums.{sum_by-cons}
use Rattle.std.proofs.lemmas.Bool.Decides.{nat_tests}
use Rattle.query.specs.Meaning.{Meaning}
use Rattle.paths.specs.Links.{Triple, Windows}
use Rattle.paths.specs.Pairs.{Stands}
use Rattle.paths.specs.Plain.{Held, Plain, counting, idle, Standing, Call, opening, Memory, refusal, after}
use Rattle.paths.specs.Runs.{Change, times, Reports, ReportOf, Takes, Event, Row, begin, then, times_in, BalanceLaw}
use Rattle.paths.proofs.Chains.{first_link}

-- Where no pair's standing changed there is nothing to report.
reports_none : (s s' : Plain) → ((a b : ℕ) → Standing s a b ↔ Standing s' a b) → Reports s s' []
reports_none s s' same = grind arith

-- Where a watch keeps no link, nothing stands.
pub nothing_stands : (h : Held) → ((t : Triple) → h.links t ≡ None) → (a b : ℕ) → ¬ Stands (counting h) h.query a b
nothing_stands h none a b stands =
    let (t, ts, spelt, there, least) = first_link _ a b _ stands.reached.1.path in
    grind (arith, nat_tests, none t)

-- So it is for a watch just opened.
nothing_stands_yet : (n : ℕ) (windows : Windows) (tag : ℕ) (query : Meaning) (a b : ℕ) → ¬ Standing (after idle (opening n windows tag query)) a b
nothing_stands_yet n windows tag query a b stands =
    nothing_stands (record { n = n; windows = windows; tag = tag; query = query; clock = 0; links = λ t. None; passes = λ p. 0 }) (λ t. refl) a b stands

-- The empty report of an opening is right, and so is the report of every call.
reports_after : (memory : Memory) (s : Plain) (call : Call) (report : List Change) → refusal memory s call ≡ None → ReportOf s call report → Reports s (after s call) report
reports_after memory s call report accepted reports = grind (arith, reports_none, nothing_stands_yet)

reports_call : (memory : Memory) (s : Plain) (e : Event) (s' : Plain) → Takes memory s e.call e.answer e.report s' → Reports s s' e.report
reports_call memory s e s' takes = grind (arith, reports_none s s, reports_after memory s e.call e.report)

-- The balance of a pair after a row: each report keeps it.
abbrev Even : ℕ → ℕ → List Event → Plain → Type 0
Even a b es s = (Standing s a b → times_in true a b es ≡ times_in false a b es + 1) × (¬ Standing s a b → times_in true a b es ≡ times_in false a b es)

times_in-cons : (kind : Bool) (a b : ℕ) (e : Event) (es : List Event) → times_in kind a b (e ∷ es) ≡ times kind a b e.report + times_in kind a b es
times_in-cons kind a b e es = sum_by-cons (λ (x : Event). times kind a b x.report) e es

even_more : (a b : ℕ) (es : List Event) (s : Plain) (e : Event) (s' : Plain) → Even a b es s → Reports s s' e.report → Even a b (e ∷ es) s'
even_more a b es s e s' even told = grind (arith, told.announces a b, told.announced a b, told.withdraws a b, told.withdrawn a b, times_in-cons true a b e es, times_in-cons false a b e es)

even_row : (memory : Memory) (a b : ℕ) {es : List Event} {s : Plain} → Row memory idle es s → Even a b es s
even_row memory a b begin = (absurd, λ _. refl)
even_row memory a b (then es s s' e row lawful takes) = even_more a b es s e s' (even_row memory a b row) (reports_call memory s e s' takes)

pub balance_law : BalanceLaw
balance_law memory es s row a b = even_row memory a b row
