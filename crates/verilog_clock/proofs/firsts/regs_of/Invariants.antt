use Rattle.std.proofs.Common.{◌≡◌, ◌++◌, map, drop}
use Rattle.verilog_text.specs.Trees.{member_tree}
use Rattle.verilog_text.specs.Clocked.{regs}
use Rattle.verilog_clock.proofs.firsts.regs_of.Given as goal

abbrev pub invariant-each : goal.invariant-each
invariant-each l = l.items.items ++ regs (map (member_tree l.module.clock) (drop l.member-index l.module.members.items)) ≡ regs (map (member_tree l.module.clock) l.module.members.items)
