use Rattle.std.proofs.Common.{◌≡◌, ◌<◌, ◌∙◌, ap, length, arith}
use Rattle.lisa_tree.specs.Descriptions.{DescriptionTree, description_tree}
use Rattle.machine_parts.specs.Parts.{registers_of}
use Rattle.description_tests.proofs.machines.first.Goals as goal

-- there is a first value for each register
pub first-requires-clause-register : goal.first-requires-clause-register
first-requires-clause-register c =
    let kept : DescriptionTree = description_tree c.in_ok-tables.tables.globals.description.now in
    let own : kept ≡ description_tree c.args.machine.now = c.in_ok-tables.ensures ∙ ap description_tree c.description.ensures in
    let counted : length c.in_ok-all.all.items ≡ length (registers_of (description_tree c.args.machine.now)) =
    ap length c.in_ok-all.ensures ∙ c.registers_have_first_values.ensures kept ∙ ap (λ (d : DescriptionTree). length (registers_of d)) own in
    let below : c.args.register < length c.in_ok-all.all.items = grind (arith, c.len.ensures, c.if-register-len.false) in
    omega (arith, counted, below)
