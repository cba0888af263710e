use Rattle.std.proofs.Common.{◌≡◌, drop}
use Rattle.least_fixed_points.specs.Settles.{entry}
use Rattle.instruction_forms.specs.Picks.{pick, told}
use Rattle.instruction_forms.proofs.picking.pick_among.Given as goal

abbrev pub invariant-loop-operation : goal.invariant-loop-operation
invariant-loop-operation l = pick (told (entry l.counts)) (drop l.operation-index l.operations) l.number l.low ≡ pick (told (entry l.counts)) l.operations l.fn.number l.low
