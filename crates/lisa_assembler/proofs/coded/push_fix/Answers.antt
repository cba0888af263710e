use Rattle.std.proofs.Common.{◌++◌, ◌∷◌, [], ◌∙◌, map, ap}
use Rattle.asm_source.specs.Plain.{PlainSum}
use Rattle.lisa_object.specs.declared.parts.ObjectLine.TheVariants as lines
use Rattle.lisa_object.specs.Objects.{object_line_tree, Fix}
use Rattle.lisa_assembler.proofs.Written.{pushed_one}
use Rattle.lisa_assembler.proofs.coded.push_fix.Goals as goal

pub returns : goal.returns
returns c =
    pushed_one c.args.lines.now.items c.push.new.self.items (lines.Fix c.args.fix.now.lsb c.args.fix.now.width c.args.fix.now.kind c.in_ok-sum.sum) c.in_ok-push.ensures.items
    ∙ ap (λ (s : PlainSum). map object_line_tree c.args.lines.now.items ++ Fix c.args.fix.now.lsb c.args.fix.now.width c.args.fix.now.kind s ∷ []) c.in_ok-sum.ensures
