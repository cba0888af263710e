use Rattle.graph_paths.specs.Paths.{targets}
use Rattle.text_counts.proofs.Along.{to_one, to_other}
use Rattle.text_counts.proofs.steps.counts.Goals as goal

pub returns : goal.returns
returns g c =
    let d = g.N.Names.tree c.args.names.now in
    let means = targets c.args.meanings.now in
    let alike = c.args.alike.now in
    let counting = g.C.Count.counting c.args.count.now in
    λ a n. (λ e. to_one d means alike counting c.requires.alike a n ((c.in_ok-table.ensures.exact a n).0 e), λ s. (c.in_ok-table.ensures.exact a n).1 (to_other d means alike counting c.requires.alike a n s))
