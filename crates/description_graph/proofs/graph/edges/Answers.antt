use Rattle.std.proofs.Common.{rules, Bool, ℕ, ◌||◌, length, ap, ◌∙◌}
use Rattle.lisa_tree.specs.Declarations.{entries}
use Rattle.description_graph.specs.Graph.{to_meanings}
use Rattle.description_graph.proofs.Nodes.{is_graph}
use Rattle.description_graph.proofs.graph.edges.Goals as goal

pub returns : goal.returns
returns g c =
    let d = g.N.Names.tree c.args.names.now in
    is_graph d c.add_meanings.new.next.items (search rules) (λ a b. c.in_ok-add_meanings.ensures.added a b ∙ ap (λ (t : Bool). t || to_meanings d (length (entries d)) a b) (c.in_ok-next.ensures.edges a b))
