use Rattle.std.proofs.Common.{arith}
use Rattle.activation_bits.specs.Members.{member}
use Rattle.occurrence_choices.specs.Standings.{chosen_in}
use Rattle.occurrence_choices.proofs.Bits.{one_told}
use Rattle.occurrence_choices.proofs.Chosen.{row_done}
use Rattle.occurrence_choices.proofs.making.fill_row.Goals as goal

pub each-preserved : goal.each-preserved
each-preserved c d are =
    one_told c.each.number (chosen_in d c.args.standings.now) (member c.each.row) (c.each.invariant d are) (member c.put.new.row) c.is_chosen-wanted.result (c.is_chosen-wanted.ensures d are) c.put.ensures

pub returns : goal.returns
returns c d form are has =
    row_done d c.args.forms.now form c.args.standings.now c.args.count c.each.number c.each.row are has (omega (arith, c.each-test.false, c.each.auto.number-end)) c.requires.count (c.each.invariant d are)
