use Rattle.std.proofs.Common.{◌<◌, ◌∙◌, ap, arith}
use Rattle.access_counts.specs.Ledgers.{capped}
use Rattle.access_counts.proofs.Rounding.{one_level, levels_done}
use Rattle.access_counts.proofs.rounds.unfold.Goals as goal

pub loop-level-preserved : goal.loop-level-preserved
loop-level-preserved g c =
    let d = g.N.Names.tree c.args.names.now in
    let chosen = g.C.Choices.chosen c.args.choices.now in
    record {
      room = c.in_ok-next.ensures.room;
      rest = λ rates. one_level d chosen c.args.levels c.loop-level._level c.args.start c.loop-level.ledger c.in_ok-next.next rates (omega arith) c.in_ok-next.ensures (c.loop-level.invariant.rest rates);
    }

pub returns-then-is_done-clause-same : goal.returns-then-is_done-clause-same
returns-then-is_done-clause-same g c = λ rates.
    let d = g.N.Names.tree c.args.names.now in
    let chosen = g.C.Choices.chosen c.args.choices.now in
    ap capped (c.is_done.ensures c.if-is_done.true d chosen _ rates) ∙ c.loop-level.invariant.rest rates

pub returns-clause-same : goal.returns-clause-same
returns-clause-same g c = λ rates.
    let d = g.N.Names.tree c.args.names.now in
    let chosen = g.C.Choices.chosen c.args.choices.now in
    levels_done d chosen c.args.levels c.loop-level._level c.args.start c.loop-level.ledger rates (omega arith) (c.loop-level.invariant.rest rates)
