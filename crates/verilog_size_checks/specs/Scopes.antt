-- The module whose names a scope has.
use Rattle.verilog_text.specs.Trees.{ModuleTree}
use Rattle.verilog_text.specs.Values.{Widths}
use Rattle.verilog_text.specs.Clocked.{widths_of}
use Rattle.verilog_places.specs.Trees.{placed_module, bare_module}
use Rattle.verilog_size_checks.specs.declared.scope.Scope.{Scope}

abbrev pub module_in : Scope → ModuleTree
module_in scope = bare_module (placed_module scope.tree.now)

-- how wide its names are
abbrev pub widths_in : Scope → Widths
widths_in scope = widths_of (module_in scope)
