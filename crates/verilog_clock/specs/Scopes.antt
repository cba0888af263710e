-- The module whose names a scope has.
use Rattle.verilog_text.specs.Trees.{ModuleTree, module_tree}
use Rattle.verilog_clock.specs.declared.scope.Scope.{Scope}

abbrev pub module_in : Scope → ModuleTree
module_in scope = module_tree scope.module.now
