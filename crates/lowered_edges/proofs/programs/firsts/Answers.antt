use Rattle.std.proofs.Common.{◌≡◌, ◌∙◌, ap, arith}
use Rattle.lisa_tree.specs.Descriptions.{DescriptionTree, description_tree}
use Rattle.machine_parts.specs.Parts.{first_values}
use Rattle.lowered_edges.proofs.Worded.{no_zeros, one_zero, all_zeros}
use Rattle.lowered_edges.proofs.programs.firsts.Goals as goal

pub each-init : goal.each-init
each-init c =
    let d = description_tree c.args.machine.now in
    let same = c.in_ok-tables.ensures ∙ ap description_tree c.description.ensures in
    no_zeros d c.args.count c.len-place.result c.in_ok-all.all.items (c.in_ok-all.ensures ∙ ap first_values same) (c.len-place.ensures ∙ c.in_ok-all.all.ok.0)

pub each-preserved : goal.each-preserved
each-preserved c = one_zero (description_tree c.args.machine.now) c.args.count c.each.place c.each.all.items c.push.new.self.items c.each.invariant c.each-test.true c.in_ok-push.ensures.items

pub returns : goal.returns
returns c = all_zeros (description_tree c.args.machine.now) c.args.count c.each.place c.each.all.items c.each.invariant (omega arith)
