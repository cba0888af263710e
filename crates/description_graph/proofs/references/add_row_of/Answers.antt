use Rattle.std.proofs.Common.{Bool, List, ℕ, ◌||◌, ◌&&◌, ◌+◌, nat_eq, sym, ap, ◌∙◌, arith}
use Rattle.graph_paths.specs.Paths.{targets, is_in}
use Rattle.meant_declarations.proofs.Direct.{meant_below}
use Rattle.description_graph.specs.Graph.{first_entry, shifted}
use Rattle.description_graph.proofs.references.add_row_of.Goals as goal

pub add_shifted-requires-clause-numbers : goal.add_shifted-requires-clause-numbers
add_shifted-requires-clause-numbers g c = λ i e.
    let d = g.N.Names.tree c.args.names.now in
    let l = meant_below d c.args.entry i (c.requires.rows.direct c.args.entry i (sym (ap (is_in i) c.row_at-row.ensures) ∙ e)) in
    omega (arith, l, c.requires.room, c.requires.first)

pub returns-clause-added : goal.returns-clause-added
returns-clause-added g c = λ a b.
    let d = g.N.Names.tree c.args.names.now in
    c.in_ok-add_shifted.ensures.added a b
    ∙ ap (λ (t : Bool). is_in b (targets c.args.next.now.items a) || (nat_eq a (c.args.first + c.args.entry) && t))
    (ap (λ (f : ℕ). shifted f c.row_at-row.result.now b) c.requires.first ∙ ap (λ (row : List ℕ). shifted (first_entry d) row b) c.row_at-row.ensures)
