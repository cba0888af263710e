use Rattle.std.proofs.Common.{rules, ◌≡◌, ◌+◌, List, ℕ, Bool, false, length, ap, ◌∙◌}
use Rattle.std.specs.Global.{Vec}
use Rattle.lisa_tree.specs.Paths.{node_count}
use Rattle.graph_paths.specs.Paths.{targets, is_in}
use Rattle.description_graph.specs.Graph.{plain_edges}
use Rattle.description_graph.proofs.Nodes.{added_up, plain_nodes}
use Rattle.description_graph.proofs.graph.plain_edges.Goals as goal

pub returns-clause-edges : goal.returns-clause-edges
returns-clause-edges g c = λ a b.
    let start : is_in b (targets c.add_nodes-3.new.next.items a) ≡ false =
    c.in_ok-add_nodes-3.ensures.none a b ∙ c.in_ok-add_nodes-2.ensures.none a b ∙ c.in_ok-add_nodes.ensures.none a b ∙ ap (λ (rows : List (Vec ℕ)). is_in b (targets rows a)) c.new-next.ensures.items in
    added_up _ _ _ _ _ _ _ _ _ start (c.in_ok-add_choices.ensures.added a b) (c.in_ok-add_references.ensures.added a b) (c.in_ok-add_alternatives.ensures.added a b) (c.in_ok-add_chosen.ensures.added a b)

pub returns-clause-nodes : goal.returns-clause-nodes
returns-clause-nodes g c =
    let d = g.N.Names.tree c.args.names.now in
    let next = c.add_chosen.new.next.items in
    let count : length next ≡ node_count d = search rules in
    plain_nodes d next count (λ a b.
    let start : is_in b (targets c.add_nodes-3.new.next.items a) ≡ false =
    c.in_ok-add_nodes-3.ensures.none a b ∙ c.in_ok-add_nodes-2.ensures.none a b ∙ c.in_ok-add_nodes.ensures.none a b ∙ ap (λ (rows : List (Vec ℕ)). is_in b (targets rows a)) c.new-next.ensures.items in
    added_up _ _ _ _ _ _ _ _ _ start (c.in_ok-add_choices.ensures.added a b) (c.in_ok-add_references.ensures.added a b) (c.in_ok-add_alternatives.ensures.added a b) (c.in_ok-add_chosen.ensures.added a b))
