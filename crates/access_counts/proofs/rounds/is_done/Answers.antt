use Rattle.std.proofs.Common.{◌∙◌, sym}
use Rattle.std.proofs.lemmas.Bool.{and_parts}
use Rattle.access_counts.proofs.Rounding.{nothing_left}
use Rattle.access_counts.proofs.rounds.is_done.Goals as goal

pub returns : goal.returns
returns c = λ e d chosen k rates.
    let one = and_parts c.is_nothing-values.result c.both-later.result (sym c.both.ensures ∙ e) in
    let two = and_parts c.is_nothing-places.result c.is_nothing-runs.result (sym c.both-later.ensures ∙ one.1) in
    nothing_left d chosen k rates c.args.ledger.now
    (rw c.deref.ensures.value at (c.is_nothing-values.ensures one.0)) (rw c.deref-2.ensures.value at (c.is_nothing-places.ensures two.0)) (rw c.deref-3.ensures.value at (c.is_nothing-runs.ensures two.1))
