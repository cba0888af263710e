use Rattle.std.proofs.Common.{◌++◌, ◌∷◌, [], ◌∙◌, map, ap}
use Rattle.asm_source.specs.Plain.{PlainSum}
use Rattle.lisa_object.specs.declared.parts.FixKind.TheVariants as kinds
use Rattle.lisa_object.specs.declared.parts.ObjectLine.TheVariants as lines
use Rattle.lisa_object.specs.Objects.{object_line_tree, Cell, Fix}
use Rattle.lisa_assembler.proofs.Written.{pushed_two}
use Rattle.lisa_assembler.proofs.cells.push_sum.Goals as goal

pub returns : goal.returns
returns c =
    pushed_two c.args.lines.now.items c.push.new.self.items c.push-2.new.self.items (lines.Cell 0) (lines.Fix 0 c.args.width kinds.Whole c.in_ok-sum.sum) c.in_ok-push.ensures.items c.in_ok-push-2.ensures.items
    ∙ ap (λ (s : PlainSum). map object_line_tree c.args.lines.now.items ++ Cell 0 ∷ Fix 0 c.args.width kinds.Whole s ∷ []) c.in_ok-sum.ensures
