use Rattle.std.proofs.Common.{arith}
use Rattle.access_counts.specs.declared.ledger.Ledger.{Ledger}
use Rattle.access_counts.proofs.Rounding.{round_unfolds}
use Rattle.access_counts.proofs.rounds.round.Goals as goal

pub returns : goal.returns
returns g c =
    let d = g.N.Names.tree c.args.names.now in
    let chosen = g.C.Choices.chosen c.args.choices.now in
    let start : Ledger = record { reads = c.args.ledger.reads; writes = c.args.ledger.writes; values = c.in_ok-values.values; places = c.in_ok-places.places; runs = c.in_ok-runs.runs } in
    round_unfolds d chosen c.args.ledger start c.note_all.new.ledger c.in_ok-read.read.items c.in_ok-assigned.assigned.items c.in_ok-run.run'.items c.note_all.ensures.room
    (rw c.deref.ensures.value at c.in_ok-read.ensures.same) (rw c.deref-2.ensures.value at c.in_ok-assigned.ensures.same) (rw c.deref-3.ensures.value at c.in_ok-run.ensures.same)
    (λ p. let a = c.in_ok-values.ensures.nothing p.value in let b = c.in_ok-places.ensures.nothing p.place in let e = c.in_ok-runs.ensures.nothing p.run in omega (arith, a, b, e))
    (λ p. rw c.deref-4.ensures.value at (rw c.deref-5.ensures.value at (rw c.deref-6.ensures.value at (c.note_all.ensures.more p))))
