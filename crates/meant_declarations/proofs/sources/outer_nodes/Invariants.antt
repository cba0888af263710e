use Rattle.std.proofs.Common.{take}
use Rattle.meant_declarations.specs.Sources.{AreOuter}
use Rattle.meant_declarations.proofs.sources.outer_nodes.Given as goal

abbrev pub invariant-loop-node : goal.invariant-loop-node
invariant-loop-node l = AreOuter l.row l.last (take l.node-index l.nodes) l.outer.items
