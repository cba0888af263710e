use Rattle.std.proofs.Common.{◌+◌, ◌∙◌, drop, ap, sym, arith}
use Rattle.instruction_forms.specs.Trees.{form_tree}
use Rattle.lisa_forms.proofs.form_patterns_proofs.Views.{trees}
use Rattle.access_counts.specs.Ledgers.{capped}
use Rattle.description_weight.specs.Weights.{tree_nodes, trees_nodes}
use Rattle.description_weight.proofs.Counting.{summed, told}
use Rattle.description_weight.proofs.Parts.{tree_begins, tree_step, tree_past}
use Rattle.description_weight.proofs.forms.+tree_nodes.Goals as goal

pub loop-child-init : goal.loop-child-init
loop-child-init t c = record {
  fits = omega arith;
  rest = tree_begins c.args.form.now c.deref-child-items.result.now c.deref-child-items.ensures.value;
}

pub loop-child-preserved : goal.loop-child-preserved
loop-child-preserved t c =
    let xs = c.deref-child-items.result.now in
    let i = c.loop-child.child-index in
    let e = c.saturating_add-nodes.ensures in
    record {
      fits = omega (arith, e);
      rest = summed c.loop-child.nodes c.saturating_add-nodes.result (tree_nodes (form_tree c.child-item.result)) c.tree_nodes.result (trees_nodes (trees (drop (i + 1) xs))) _ e c.tree_nodes.ensures
          (ap (λ n. capped (c.loop-child.nodes + n)) (sym (tree_step xs i c.child-item.result (omega arith) c.child-item.is)) ∙ c.loop-child.invariant.rest);
    }

pub returns : goal.returns
returns t c = told c.loop-child.nodes _ _ c.loop-child.invariant.fits (tree_past c.deref-child-items.result.now c.loop-child.child-index (omega arith)) c.loop-child.invariant.rest
