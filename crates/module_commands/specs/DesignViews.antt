-- The design that the code's parts stand for.
use Rattle.verilog_text.specs.Trees.{module_tree}
use Rattle.module_commands.specs.declared.parts.Parts.{Parts}
use Rattle.module_commands.specs.Designs.{Design}

abbrev pub design_of : Parts → Design
design_of p = record { tree = module_tree p.clocked; memories = p.image }
