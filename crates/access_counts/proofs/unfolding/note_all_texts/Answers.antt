use Rattle.std.proofs.Common.{◌<◌, length, arith}
use Rattle.access_counts.specs.Rounds.{texts_priced}
use Rattle.access_counts.proofs.Worth.{one_worth, all_worth}
use Rattle.access_counts.proofs.unfolding.note_all_texts.Goals as goal

pub loop-operation-preserved : goal.loop-operation-preserved
loop-operation-preserved g c =
    let d = g.N.Names.tree c.args.names.now in
    record {
      room = c.note_texts.ensures.room;
      rest = λ p. one_worth (texts_priced d p) c.args.times.now c.loop-operation.operation _ _ _ (omega arith) (c.note_texts.ensures.more p) (c.loop-operation.invariant.rest p);
    }

pub returns-clause-more : goal.returns-clause-more
returns-clause-more g c = λ p.
    let d = g.N.Names.tree c.args.names.now in
    record { same = all_worth (texts_priced d p) c.args.times.now c.loop-operation.operation _ _ (omega arith) (c.loop-operation.invariant.rest p) }
