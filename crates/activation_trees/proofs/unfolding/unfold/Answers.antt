use Rattle.std.proofs.Common.{◌≡◌, ◌++◌, ◌∙◌, ℕ, List, length, map, ap, arith}
use Rattle.std.specs.Prelude.{reverse}
use Rattle.activation_trees.specs.declared.parts.Occurrence.{Occurrence}
use Rattle.activation_trees.specs.declared.parts.Start.{Start}
use Rattle.activation_trees.specs.Starting.{activated_by, activated}
use Rattle.activation_trees.specs.Unfolding.{child, children, IsUnfolding}
use Rattle.activation_trees.proofs.Levels.{next_unfolded}
use Rattle.activation_trees.proofs.Ranked.{falling}
use Rattle.activation_trees.proofs.unfolding.unfold.Goals as goal

pub returns-clause-left : goal.returns-clause-left
returns-clause-left g c =
    let d = g.N.Names.tree c.args.names.now in
    let found = c.args.found.now.items in
    let work = c.args.work.now.items in
    let above = c.args.above in
    let counted : c.len-number.result ≡ length found = (let n = c.len-number.ensures in let k = c.args.found.now.ok.0 in omega (arith, n, k)) in
    let is : reverse c.put_reversed.new.work.items ≡ children d (length found) above ++ reverse work =
    c.in_ok-put_reversed.ensures
    ∙ ap (λ (l : List Occurrence). l ++ reverse work) (
    c.in_ok-below.ensures
    ∙ ap (λ (s : List Start). map (child d c.len-number.result above) (activated_by d s)) (c.row-starts.ensures ∙ c.requires.rows above.operation)
    ∙ ap (λ (n : ℕ). map (child d n above) (activated d above.operation)) counted) in
    rw c.in_ok-push.ensures.items (next_unfolded d (falling d c.requires.acyclic) found work above c.put_reversed.new.work.items c.requires.left is)
