use Rattle.std.proofs.Common.{◌≡◌, ◌++◌, drop}
use Rattle.stage_checks.specs.Graphs.{names_in}
use Rattle.lisa_forms.specs.Choosing.{child_names}
use Rattle.lisa_forms.proofs.ways.child_names.Given as goal

abbrev pub invariant-loop-item : goal.invariant-loop-item
invariant-loop-item l = names_in l.all.items ++ child_names (drop l.item-index l.items) ≡ child_names l.items
