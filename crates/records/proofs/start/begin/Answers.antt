use Rattle.std.proofs.Common.{sym, ap, ◌∙◌}
use Rattle.paths.specs.Plain.{first_refusal, open_refusals}
use Rattle.records.specs.Starts.{arrivals}
use Rattle.records.proofs.start.begin.Goals as goal

pub returns : goal.returns
returns c =
    let o = c.in_ok-begun.begun.opening in
    let held = c.in_ok-begun.ensures in
    (held, ap (λ size. first_refusal (open_refusals arrivals o.n o.window size)) (sym held.fills.size) ∙ sym c.in_ok-check.ensures)
