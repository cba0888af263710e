use Rattle.std.proofs.Common.{◌≡◌, ◌∙◌, ℕ, List, Option, Some, sym, ap}
use Rattle.std.specs.Prelude.{unwrap_or}
use Rattle.lisa_tree.specs.Operations.{number_of}
use Rattle.stage_checks.specs.Controls.{main_name}
use Rattle.stage_checks.proofs.Nodes.{number_within}
use Rattle.least_fixed_points.specs.Settles.{entry}
use Rattle.activation_trees.proofs.Ranked.{falling}
use Rattle.activation_trees.proofs.Tallies.{main_known}
use Rattle.activation_trees.proofs.counting.count.Goals as goal

pub returns : goal.returns
returns g c =
    let d = g.N.Names.tree c.args.names.now in
    let main = c.in-Some.main in
    let is : number_of d main_name ≡ Some main = sym c.in_ok-main.ensures ∙ c.in-Some.is in
    let known = main_known d c.args.only (falling d c.requires.acyclic) (entry c.in_ok-table.table.items) c.in_ok-table.ensures.exact main is (number_within d main_name main is) in
    c.unwrap_or.ensures ∙ ap (λ (x : Option ℕ). unwrap_or x 0) (c.known_operation.ensures ∙ ap (λ (l : List (Option ℕ)). entry l main) c.deref-4.ensures.value ∙ known)
