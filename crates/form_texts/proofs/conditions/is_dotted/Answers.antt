use Rattle.std.proofs.Common.{refl, sym, ◌∙◌}
use Rattle.instruction_texts.specs.Symbols.{is_dotted}
use Rattle.text_tables.specs.Parts.{part_pieces, text_pieces}
use Rattle.form_texts.proofs.Stringed.{dotted_found, dotted_passed}
use Rattle.form_texts.proofs.conditions.is_dotted.Goals as goal

pub returns-in-Some : goal.returns-in-Some
returns-in-Some c =
    dotted_found c.args.table.now.shared.items c.args.parts.now c.loop-part.part-index c.part-item.result (part_pieces c.args.table.now.shared.items c.part-item.result) c.loop-part-test.true c.part-item.is refl c.in-Some.found
    (is_dotted (text_pieces c.args.table.now.shared.items c.args.parts.now)) (sym c.part_dotted.ensures ∙ c.in-Some.is) c.loop-part.invariant

pub loop-part-preserved : goal.loop-part-preserved
loop-part-preserved c =
    dotted_passed c.args.table.now.shared.items c.args.parts.now c.loop-part.part-index c.part-item.result (part_pieces c.args.table.now.shared.items c.part-item.result) c.loop-part-test.true c.part-item.is refl
    (is_dotted (text_pieces c.args.table.now.shared.items c.args.parts.now)) (sym c.part_dotted.ensures ∙ c.in_default.is) c.loop-part.invariant
