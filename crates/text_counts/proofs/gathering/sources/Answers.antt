use Rattle.std.proofs.Common.{◌∙◌, ap, sym, subst}
use Rattle.std.specs.List.{list_all}
use Rattle.text_counts.specs.Gathering.{AreSources, is_node_ready}
use Rattle.text_counts.proofs.Sources.{row_sources, sources_more, own_row}
use Rattle.text_counts.proofs.gathering.sources.Goals as goal

pub returns-then-are_ready : goal.returns-then-are_ready
returns-then-are_ready g c =
    let graph = c.args.graph.now in
    let d = g.N.Names.tree graph.names.now in
    let i = c.args.reference in
    let row = c.row-next.ensures ∙ own_row d graph.next.now c.requires.outline graph.base graph.first i in
    subst (AreSources d c.args.done.now i) (sym (c.in_ok-nodes.ensures.items ∙ row))
    (row_sources d graph.next.now c.requires.outline i c.args.done.now c.requires.reference (sym (ap (list_all (is_node_ready d c.args.done.now)) row) ∙ sym c.are_ready.ensures ∙ c.if-are_ready.true))

pub returns : goal.returns
returns g c =
    let d = g.N.Names.tree c.args.graph.now.names.now in
    sources_more d c.args.done.now c.args.reference c.in_ok-searched.searched.items c.in_ok-searched.ensures
