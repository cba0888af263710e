use Rattle.std.proofs.Common.{ℕ, List, drop, map}
use Rattle.std.specs.Option.{option_copied, IfSome}
use Rattle.lisa_tree.specs.Descriptions.{description_tree}
use Rattle.asm_source.specs.Plain.{line_tree}
use Rattle.lisa_object.specs.Objects.{object_line_tree}
use Rattle.lisa_object.specs.Seen.{HoldsSorted}
use Rattle.lisa_assembler.specs.Places.{HasWords}
use Rattle.lisa_assembler.proofs.Assembled.{AreAssembled}
use Rattle.lisa_assembler.proofs.assembling.assemble.Given as goal

abbrev pub invariant-each : goal.invariant-each
invariant-each l = IfSome (option_copied l.here) HasWords
    × ((names : List (List ℕ)) × HoldsSorted l.seen names
    × AreAssembled (description_tree l.tools.machine.now) (map line_tree l.lines) (option_copied l.here) names (map object_line_tree l.own.items) (map line_tree (drop l.line-index l.lines)))
