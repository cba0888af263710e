use Rattle.std.proofs.Common.{◌≡◌, ◌+◌, ◌∙◌, ℕ, drop, map, ap, refl, sym, arith}
use Rattle.instruction_forms.specs.Trees.{form_tree}
use Rattle.access_counts.specs.Ledgers.{capped}
use Rattle.description_weight.specs.Sums.{nodes_where}
use Rattle.description_weight.proofs.Counting.{summed, told}
use Rattle.description_weight.proofs.Parts.{next_form, past_forms}
use Rattle.description_weight.proofs.forms.nodes_where.Goals as goal

pub loop-number-preserved : goal.loop-number-preserved
loop-number-preserved c =
    let fs = c.args.forms.now in
    let ps = c.args.plain.now in
    let i = c.loop-number.number in
    let e = c.saturating_add-nodes.ensures in
    record {
      fits = omega (arith, e);
      rest = summed c.loop-number.nodes c.saturating_add-nodes.result _ c.plain_nodes.result (nodes_where (map form_tree (drop (i + 1) fs)) (drop (i + 1) ps)) _ e c.plain_nodes.ensures
          (ap (λ (n : ℕ). capped (c.loop-number.nodes + n)) (sym (next_form fs ps i c.index-forms-number.result _ (omega arith) c.requires c.index-forms-number.is)) ∙ c.loop-number.invariant.rest);
    }

pub returns : goal.returns
returns c = told c.loop-number.nodes _ _ c.loop-number.invariant.fits (past_forms c.args.forms.now c.args.plain.now c.loop-number.number (omega arith)) c.loop-number.invariant.rest
