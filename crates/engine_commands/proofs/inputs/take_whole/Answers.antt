use Rattle.std.proofs.Common.{◌+◌, ◌≤◌, length, take, refl, arith}
use Rattle.std.proofs.lemmas.List.{length-take}
use Rattle.engine_commands.proofs.WholeInputs.{taken_within, takes_more}
use Rattle.engine_commands.proofs.inputs.take_whole.Goals as goal

pub returns-in_err-extend_from_slice-clause-within : goal.returns-in_err-extend_from_slice-clause-within
returns-in_err-extend_from_slice-clause-within g c =
    let room : length c.loop-piece.bytes.items + length (take c.in_ok-count.count c.take.new.into) ≤ c.args.limit + 1
    = omega (arith, c.in_ok-count.ensures.bound.0, c.in_ok-count.ensures.bound.1, length-take c.min-room.result c.loop-piece.piece, c.loop-piece-test.true, c.loop-piece.bytes.ok.0) in
    taken_within (takes_more _ _ (take c.in_ok-count.count c.take.new.into) _ c.loop-piece.invariant c.in_ok-count.ensures.bytes.0 c.in_ok-count.ensures.cause.later room refl)
