use Rattle.std.proofs.Common.{◌≡◌, ◌∙◌, ℕ, List, Option, Some, sym, ap}
use Rattle.std.specs.Prelude.{codes, unwrap_or}
use Rattle.lisa_tree.specs.Operations.{number_of}
use Rattle.text_counts.specs.Tables.{told_by}
use Rattle.description_sizes.proofs.Sums.{reset_counted}
use Rattle.description_sizes.proofs.texts.nodes_of_reset.Goals as goal

pub returns : goal.returns
returns g c =
    let d = g.N.Names.tree c.args.names.now in
    let is : number_of d (codes "reset") ≡ Some c.in-Some.operation = ap (λ (n : List ℕ). number_of d n) (sym c.in_ok-reset.ensures) ∙ sym c.number_of.ensures ∙ c.in-Some.is in
    c.unwrap_or.ensures
    ∙ ap (λ (x : Option ℕ). unwrap_or x 0) c.nodes.ensures
    ∙ reset_counted d c.requires.acyclic (told_by c.args.counts.now) c.requires.counts c.in-Some.operation is
