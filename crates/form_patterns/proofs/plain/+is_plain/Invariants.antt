use Rattle.std.proofs.Common.{◌≡◌, drop}
use Rattle.lisa_tree.specs.Operations.{is_alias}
use Rattle.instruction_forms.specs.Trees.{are_plain}
use Rattle.form_patterns.proofs.Views.{trees}
use Rattle.form_patterns.proofs.plain.+is_plain.Given as goal

abbrev pub invariant-loop-child : goal.invariant-loop-child
invariant-loop-child g l =
    let aliases = is_alias (g.N.Names.tree l.names) in
    are_plain aliases (trees l.child-items) ≡ are_plain aliases (trees (drop l.child-index l.child-items))
