use Rattle.std.proofs.Common.{◌≡◌, ◌++◌, map, take}
use Rattle.lisa_object.specs.Objects.{object_line_tree}
use Rattle.placed_programs.specs.Entries.{fix_line}
use Rattle.lisa_assembler.specs.Fixes.{fix_tree}
use Rattle.lisa_assembler.proofs.coded.push_fixes.Given as goal

abbrev pub invariant-loop-fix : goal.invariant-loop-fix
invariant-loop-fix l = map object_line_tree l.lines.items ≡ map object_line_tree l.fn.lines.items ++ map fix_line (map fix_tree (take l.fix-index l.fixes))
