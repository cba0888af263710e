use Rattle.std.proofs.Common.{Bool, true, List, map, ap, ◌∙◌}
use Rattle.std.specs.Prelude.{◌==◌}
use Rattle.std.specs.List.{slice_split}
use Rattle.std.specs.Option.{option_copied}
use Rattle.std.proofs.lemmas.Result.{err_from_is_err_and}
use Rattle.asm_source.specs.declared.parts.CellValue.{CellValue}
use Rattle.asm_source.specs.Plain.{value_tree}
use Rattle.asm_source.specs.Parts.{values_of}
use Rattle.text_lines.specs.Cuts.{parts_behind}
use Rattle.asm_source.specs.Gives.{values_with}
use Rattle.asm_source.proofs.Values.{begins, opened, closed, smaller, takes_on, stops_at, all_taken, one_spoiled}
use Rattle.asm_source.proofs.directives.cells.Goals as goal

pub each-init : goal.each-init
each-init c = ap (λ (l : List CellValue). values_with true (map value_tree l) (values_of (slice_split (λ b. b == 44) c.args.text.now))) c.new-all.ensures.items ∙ begins (values_of (slice_split (λ b. b == 44) c.args.text.now))

pub returns-in_err-good : goal.returns-in_err-good
returns-in_err-good c =
    let p = err_from_is_err_and c.from_residual.result c.from_residual.ensures.1 in
    let same = opened c.each.sound (map value_tree c.each.all.items) (option_copied c.each.left) c.in-Some.text.now c.cut.result.0.now (parts_behind 44 (option_copied c.cut.result.1)) _ (ap option_copied c.in-Some.is) c.cut.ensures.parts c.each.invariant in
    rw (p.1, p.2) (stops_at c.each.sound c.in_err-good.field-0.0 (map value_tree c.each.all.items) _ c.cut.result.0.now (parts_behind 44 (option_copied c.cut.result.1)) _ c.in_err-good.ensures same)

pub each-preserved : goal.each-preserved
each-preserved c =
    let same = opened c.each.sound (map value_tree c.each.all.items) (option_copied c.each.left) c.in-Some.text.now c.cut.result.0.now (parts_behind 44 (option_copied c.cut.result.1)) _ (ap option_copied c.in-Some.is) c.cut.ensures.parts c.each.invariant in
    ap (λ (b : Bool). values_with b (map value_tree c.push_cell.new.all.items) (values_of (parts_behind 44 (option_copied c.cut.result.1)))) c.both-sound.ensures
    ∙ takes_on c.each.sound c.in_ok-good.good (map value_tree c.each.all.items) (map value_tree c.push_cell.new.all.items) c.cut.result.0.now (parts_behind 44 (option_copied c.cut.result.1)) c.in_ok-good.ensures
    ∙ same

pub each-smaller : goal.each-smaller
each-smaller c = smaller c.cut.result.1 (option_copied c.each.left) c.in-Some.text.now (ap option_copied c.in-Some.is) c.cut.ensures.shorter

pub returns-then-sound : goal.returns-then-sound
returns-then-sound c = all_taken (map value_tree c.each.all.items) _ (closed c.each.sound _ (map value_tree c.each.all.items) (option_copied c.each.left) _ (ap option_copied c.in_default.is) c.if-sound.true c.each.invariant)

pub returns-else-sound : goal.returns-else-sound
returns-else-sound c = one_spoiled (map value_tree c.each.all.items) _ (closed c.each.sound _ (map value_tree c.each.all.items) (option_copied c.each.left) _ (ap option_copied c.in_default.is) c.if-sound.false c.each.invariant)
