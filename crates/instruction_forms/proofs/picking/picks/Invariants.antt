use Rattle.std.proofs.Common.{◌≡◌, ◌++◌, drop}
use Rattle.least_fixed_points.specs.Settles.{entry}
use Rattle.instruction_forms.specs.Picks.{child_picks, IsWalk}
use Rattle.instruction_forms.proofs.picking.picks.Given as goal

abbrev pub invariant-loop-place : goal.invariant-loop-place
invariant-loop-place g l =
    let known = entry l.sources.widths.now in
    let d = g.N.Names.tree l.sources.names.now in
    record {
      walk : IsWalk known d l.pick.operation l.pick.low (drop l.place l.items) l.walk;
      picks : l.picks.items ++ child_picks known d l.pick.operation l.pick.low (drop l.place l.items) l.walk.number ≡ child_picks known d l.pick.operation l.pick.low l.items l.pick.number;
    }
