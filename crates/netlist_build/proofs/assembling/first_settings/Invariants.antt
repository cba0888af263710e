use Rattle.std.proofs.Common.{◌≡◌, ◌++◌, map, drop}
use Rattle.verilog_text.specs.Trees.{setting_tree}
use Rattle.netlist_wires.specs.Wiring.{first_settings}
use Rattle.netlist_build.proofs.assembling.first_settings.Given as goal

abbrev pub invariant-loop-place : goal.invariant-loop-place
invariant-loop-place l = map setting_tree l.settings.items ++ first_settings (drop l.place l.items) (drop l.place l.first) ≡ first_settings l.items l.first
