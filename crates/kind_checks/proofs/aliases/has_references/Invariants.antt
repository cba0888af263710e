use Rattle.std.proofs.Common.{◌≡◌, drop, map}
use Rattle.lisa_tree.specs.Descriptions.{declare_tree}
use Rattle.kind_checks.specs.WrongKinds.{has_references}
use Rattle.kind_checks.proofs.aliases.has_references.Given as goal

abbrev pub invariant-loop-declared : goal.invariant-loop-declared
invariant-loop-declared l = has_references (map declare_tree l.declarations) ≡ has_references (map declare_tree (drop l.declared-index l.declarations))
