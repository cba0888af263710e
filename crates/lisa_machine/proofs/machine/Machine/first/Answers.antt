use Rattle.std.proofs.Common.{◌∙◌, ◌<◌, ap, sym, subst, length, arith}
use Rattle.lisa_tree.specs.declared.descriptions.Description.{Description}
use Rattle.lisa_tree.specs.Descriptions.{description_tree}
use Rattle.machine_parts.specs.Parts.{registers_of, first_values}
use Rattle.machine_parts.proofs.Lengths.{registers_counted}
use Rattle.lisa_machine.specs.Machines.{IsResetShort}
use Rattle.lisa_machine.proofs.Shown.{in_range, read_at}
use Rattle.lisa_machine.proofs.machine.Machine.first.Goals as goal

pub index-requires : goal.index-requires
index-requires c =
    let d = description_tree c.args.self.now in
    let short = subst (λ (e : Description). IsResetShort (description_tree e)) (sym c.self.view_is) c.requires.short in
    let is = c.self.invariant.1.of_registers short ∙ ap (λ (e : Description). first_values (description_tree e)) c.self.view_is in
    let below : c.args.register < length c.self.inside.parts.firsts.items = in_range c.self.inside.parts.firsts.items (first_values d) (registers_of d) c.args.register is (registers_counted d) c.requires.register in
    omega (arith, below, c.self.inside.parts.firsts.ok)

pub returns : goal.returns
returns c =
    let d = description_tree c.args.self.now in
    let short = subst (λ (e : Description). IsResetShort (description_tree e)) (sym c.self.view_is) c.requires.short in
    let is = c.self.invariant.1.of_registers short ∙ ap (λ (e : Description). first_values (description_tree e)) c.self.view_is in
    read_at c.self.inside.parts.firsts.items (first_values d) c.args.register c.index.result.now 0 is (in_range c.self.inside.parts.firsts.items (first_values d) (registers_of d) c.args.register is (registers_counted d) c.requires.register) c.index.ensures
