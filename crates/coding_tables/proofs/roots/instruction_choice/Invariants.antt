use Rattle.std.proofs.Common.{◌≡◌, ◌-◌}
use Rattle.coding_tables.specs.Instructions.{root_from, choice_of_root, instruction_choice}
use Rattle.coding_tables.proofs.roots.instruction_choice.Given as goal

abbrev pub invariant-loop-operation : goal.invariant-loop-operation
invariant-loop-operation g l =
    choice_of_root (g.N.Names.tree l.names) (root_from (g.N.Names.tree l.names) l.operation (l.operation-end - l.operation)) ≡ instruction_choice (g.N.Names.tree l.names)
