use Rattle.std.proofs.Common.{◌≡◌, ◌∙◌, ℕ, List, ap, sym, subst}
use Rattle.std.specs.Global.{Vec}
use Rattle.graph_paths.specs.Paths.{targets}
use Rattle.text_counts.specs.References.{AreMeanings}
use Rattle.text_counts.specs.Tables.{told_by}
use Rattle.access_counts.specs.Ledgers.{capped}
use Rattle.description_weight.proofs.Counting.{two}
use Rattle.description_weight.proofs.Parts.{nodes_told}
use Rattle.description_weight.proofs.weights.text_weight.Goals as goal

pub pairs-requires-clause-acyclic : goal.pairs-requires-clause-acyclic
pairs-requires-clause-acyclic g c = c.requires.acyclic

pub pairs-requires-clause-meanings : goal.pairs-requires-clause-meanings
pairs-requires-clause-meanings g c =
    let d = g.N.Names.tree c.args.names.now in
    subst (λ (m : List (Vec ℕ)). AreMeanings d (targets m)) (sym c.meanings.ensures) c.in_ok-counts.ensures.meanings

pub pairs-requires-clause-all : goal.pairs-requires-clause-all
pairs-requires-clause-all g c = c.requires.all

pub returns : goal.returns
returns g c =
    let d = g.N.Names.tree c.args.names.now in
    let nodes = nodes_told d c.requires.acyclic (told_by c.in_ok-counts.counts) c.in_ok-counts.ensures c.args.all.now c.requires.all in
    two _ _ _ _ _ (c.sum_of_nodes-nodes.ensures ∙ ap capped nodes) c.in_ok-accesses.ensures c.saturating_add.ensures
