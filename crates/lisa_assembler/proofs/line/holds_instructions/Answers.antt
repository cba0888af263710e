use Rattle.std.proofs.Common.{ℕ, Option, Some, sym, subst}
use Rattle.lisa_tree.specs.Descriptions.{description_tree}
use Rattle.instruction_forms.specs.Widths.{HasWidth}
use Rattle.lisa_assembler.proofs.Widths.{width_iff}
use Rattle.lisa_assembler.proofs.line.holds_instructions.Goals as goal

pub returns : goal.returns
returns c =
    let d = description_tree c.args.tools.now.machine.now in
    let wide : HasWidth d c.width.result = subst (λ (w : Option ℕ). HasWidth d w) (sym c.width.ensures.is) c.requires.forms.has_width in
    let i = width_iff d c.width.result (Some c.args.memory.now.width) wide in
    (λ t. i.0 (c.is_wide.ensures.0 t), λ h. c.is_wide.ensures.1 (i.1 h))
