use Rattle.std.proofs.Common.{◌∙◌, arith}
use Rattle.lowered_layouts.specs.Code.{positions_tree}
use Rattle.lowered_layouts.proofs.Lasted.{all_lasting}
use Rattle.lowered_layouts.proofs.positions.Positions.lasting_widths.Goals as goal

pub returns : goal.returns
returns c =
    all_lasting (positions_tree c.args.self.now) c.args.self.now.width c.from-stages.result c.saturating_sub.result c.deref.result.now c.deref-2.result.now c.in_ok-widths.widths.items c.add_times.new.widths.items c.add_bits.new.widths.items c.add_times-2.new.widths.items
    (c.from-stages.ensures ∙ c.args.self.now.of_stages) (omega (arith, c.saturating_sub.ensures)) (c.deref.ensures.value ∙ c.in_ok-boundary.ensures) (c.deref-2.ensures.value ∙ c.in_ok-row.ensures)
    c.in_ok-widths.ensures c.in_ok-add_times.ensures c.in_ok-add_bits.ensures c.in_ok-add_times-2.ensures
