use Rattle.std.proofs.Common.{◌<◌, ◌∙◌, List, length, map, ap, arith}
use Rattle.std.proofs.lemmas.List.{get_or_read}
use Rattle.lisa_tree.specs.Descriptions.{description_tree}
use Rattle.instruction_texts.specs.declared.operands.Operand.{Operand}
use Rattle.instruction_texts.specs.Lines.{given}
use Rattle.lisa_assembler.specs.Fixes.{fix_tree, bit_fixes}
use Rattle.lisa_assembler.specs.Objects.{known_value, falling}
use Rattle.lisa_assembler.proofs.CodedCells.{cell_is}
use Rattle.lisa_assembler.proofs.FieldsMade.{rows_counted, row_is}
use Rattle.lisa_assembler.proofs.coded.coded_cell.Goals as goal

pub index-fields-requires : goal.index-fields-requires
index-fields-requires c =
    omega (arith, rows_counted (description_tree c.args.tools.now.machine.now) c.args.tools.now.fields.items c.requires.tools.fields, c.requires.values.within, c.args.tools.now.fields.ok.0)

pub returns : goal.returns
returns c =
    let d = description_tree c.args.tools.now.machine.now in
    let k = c.args.matched.now.form in
    let rows = c.args.tools.now.fields.items in
    let inside : k < length rows = omega (arith, rows_counted d rows c.requires.tools.fields, c.requires.values.within) in
    let row = c.index-fields.result.now in
    cell_is d k c.deref-3.result.now (map given c.args.matched.now.operands.items) c.deref-2.result.now c.encode-bits.result (map fix_tree c.in_ok-fixes.fixes.items)
    (c.deref-3.ensures.value ∙ row_is d rows k row c.requires.tools.fields inside (get_or_read rows k row inside c.index-fields.ensures row))
    (c.deref-2.ensures.value ∙ c.in_ok-values.ensures ∙ ap (λ (os : List Operand). map known_value (map given os)) c.deref.ensures.value)
    c.requires.values (c.encode-bits.ensures.word d c.requires.tools.coding)
    (c.in_ok-fixes.ensures ∙ ap (λ (os : List Operand). falling (bit_fixes c.deref-3.result.now (map given os))) c.deref-4.ensures.value)
