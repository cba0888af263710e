use Rattle.std.proofs.Common.{rules, Bool, ℕ, ◌||◌, List, length, ap, sym, subst, ◌∙◌}
use Rattle.std.specs.Global.{Vec}
use Rattle.lisa_tree.specs.Declarations.{entries}
use Rattle.description_graph.specs.Graph.{plain_edges, to_rows}
use Rattle.description_graph.proofs.Outlining.{is_outline}
use Rattle.description_graph.proofs.graph.outline.Goals as goal

pub returns : goal.returns
returns g c =
    let d = g.N.Names.tree c.args.names.now in
    let rows = c.in_ok-rows.rows.items in
    is_outline d rows c.in_ok-rows.ensures c.add_sources.new.next.items (search rules) (λ a b.
    c.in_ok-add_sources.ensures.added a b
    ∙ ap (λ (t : Bool). t || to_rows d c.deref.result.now (length (entries d)) a b) (c.in_ok-next.ensures.edges a b)
    ∙ ap (λ (r : List (Vec ℕ)). plain_edges d a b || to_rows d r (length (entries d)) a b) c.deref.ensures.value)
