use Rattle.std.proofs.Common.{[]}
use Rattle.std.specs.List.{flat_map}
use Rattle.instruction_texts.specs.Symbols.{gather}
use Rattle.text_tables.specs.Parts.{text_pieces}
use Rattle.form_texts.specs.Strings.{symbols_of}
use Rattle.form_texts.proofs.Pieces.{parts_ended}
use Rattle.form_texts.proofs.gathering.parts.Goals as goal

pub returns : goal.returns
returns c =
    let t = c.args.table.now in
    let growing = c.loop-symbol.growing in
    parts_ended t.strings.items c.args.symbols.now c.loop-symbol.symbol-index (text_pieces t.shared.items growing.parts.items) growing.pieces.shapes.items c.end_run.new.pieces.shapes.items
    (text_pieces t.shared.items c.end_part.new.growing.parts.items) (gather [] (flat_map (symbols_of t.strings.items) c.args.symbols.now)) growing.pieces.run.items c.loop-symbol-test.false c.loop-symbol.invariant
    c.in_ok-end_run.ensures.shapes (c.in_ok-end_part.ensures.parts t.shared.items)
