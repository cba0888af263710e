use Rattle.std.proofs.Common.{◌<◌, length, arith}
use Rattle.access_counts.specs.Rounds.{priced}
use Rattle.access_counts.proofs.Rounding.{one_operation, all_operations}
use Rattle.access_counts.proofs.rounds.note_all.Goals as goal

pub loop-operation-preserved : goal.loop-operation-preserved
loop-operation-preserved g c =
    let d = g.N.Names.tree c.args.names.now in
    let i = c.loop-operation.operation in
    let first : i < length c.args.read.now = omega arith in
    let a = c.requires.read in
    let b = c.requires.assigned in
    let e = c.requires.run in
    record {
      room = c.note_run.ensures.room;
      rest = λ p. one_operation (λ b. (priced d p b).read) (λ b. (priced d p b).assigned) (λ b. (priced d p b).run) c.args.read.now c.args.assigned.now c.args.run.now i _ _ _ _ _
          first (omega (arith, first, a, b)) (omega (arith, first, a, e)) (c.note_read.ensures.more p) (c.note_assigned.ensures.more p) (c.note_run.ensures.more p) (c.loop-operation.invariant.rest p);
    }

pub returns-clause-more : goal.returns-clause-more
returns-clause-more g c = λ p.
    let d = g.N.Names.tree c.args.names.now in
    let i = c.loop-operation.operation in
    let a = c.requires.read in
    let b = c.requires.assigned in
    let e = c.requires.run in
    record {
      same = all_operations (λ b. (priced d p b).read) (λ b. (priced d p b).assigned) (λ b. (priced d p b).run) c.args.read.now c.args.assigned.now c.args.run.now i _ _
          (omega arith) (omega (arith, a, b)) (omega (arith, a, e)) (c.loop-operation.invariant.rest p);
    }
