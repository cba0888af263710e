use Rattle.std.proofs.Common.{map, arith}
use Rattle.lisa_object.specs.Objects.{object_line_tree}
use Rattle.lisa_assembler.proofs.CodedCells.{fixes_on, fixes_whole}
use Rattle.lisa_assembler.proofs.coded.push_fixes.Goals as goal

pub loop-fix-preserved : goal.loop-fix-preserved
loop-fix-preserved c =
    fixes_on (map object_line_tree c.args.lines.now.items) (map object_line_tree c.loop-fix.lines.items) (map object_line_tree c.push_fix.new.lines.items)
    c.args.fixes.now c.loop-fix.fix-index c.fix-item.result (omega arith) c.fix-item.is c.loop-fix.invariant c.in_ok-push_fix.ensures

pub returns : goal.returns
returns c = fixes_whole (map object_line_tree c.args.lines.now.items) (map object_line_tree c.loop-fix.lines.items) c.args.fixes.now c.loop-fix.fix-index (omega arith) c.loop-fix.invariant
