use Rattle.std.proofs.Common.{arith, sym}
use Rattle.lisa_activation.proofs.Places.{none_placed, one_placed, all_placed}
use Rattle.lisa_activation.proofs.makes.place_all.Goals as goal

pub loop-number-init : goal.loop-number-init
loop-number-init c = none_placed c.args.placings.now c.args.columns.now c.requires.bare

pub loop-number-preserved : goal.loop-number-preserved
loop-number-preserved c =
    one_placed c.args.placings.now c.loop-number.columns c.place_at.new.columns c.loop-number.number c.level_of-level.result (sym c.level_of-level.ensures.is) c.place_at.ensures.own c.place_at.ensures.standing c.place_at.ensures.entered c.place_at.ensures.first c.loop-number.invariant

pub returns-clause-own : goal.returns-clause-own
returns-clause-own c = all_placed c.args.placings.now c.loop-number.columns c.loop-number.number (omega arith) c.loop-number.invariant
