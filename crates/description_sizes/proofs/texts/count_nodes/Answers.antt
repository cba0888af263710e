use Rattle.std.proofs.Common.{◌∙◌}
use Rattle.text_counts.specs.Tables.{told_by}
use Rattle.description_sizes.proofs.Sums.{nodes_counted}
use Rattle.description_sizes.proofs.texts.count_nodes.Goals as goal

pub returns : goal.returns
returns g c =
    c.max.ensures
    ∙ nodes_counted (g.N.Names.tree c.args.names.now) c.requires.acyclic (told_by c.args.counts.now) c.requires.counts c.args.all.now c.sum_of_nodes.result c.in_ok-reset.reset
    c.requires.all c.sum_of_nodes.ensures c.in_ok-reset.ensures
