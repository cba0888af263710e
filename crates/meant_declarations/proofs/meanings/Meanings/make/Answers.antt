use Rattle.std.proofs.Common.{sym, subst}
use Rattle.graph_paths.specs.Paths.{AreNodes}
use Rattle.meant_declarations.proofs.Direct.{sources_are_nodes}
use Rattle.meant_declarations.proofs.meanings.Meanings.make.Goals as goal

pub reversed-requires : goal.reversed-requires
reversed-requires g c = subst AreNodes (sym c.deref.ensures.value) (sources_are_nodes (g.N.Names.tree c.args.names.now) c.in_ok-next.next.items c.in_ok-next.ensures)
