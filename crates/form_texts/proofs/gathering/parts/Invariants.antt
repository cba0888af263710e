use Rattle.std.proofs.Common.{◌≡◌, ◌++◌, [], drop}
use Rattle.std.specs.List.{flat_map}
use Rattle.instruction_texts.specs.Symbols.{gather}
use Rattle.text_tables.specs.Parts.{text_pieces}
use Rattle.form_texts.specs.Strings.{symbols_of}
use Rattle.form_texts.proofs.gathering.parts.Given as goal

abbrev pub invariant-loop-symbol : goal.invariant-loop-symbol
invariant-loop-symbol l =
    let f = symbols_of l.table.strings.items in
    text_pieces l.table.shared.items l.growing.parts.items ++ (l.growing.pieces.shapes.items ++ gather l.growing.pieces.run.items (flat_map f (drop l.symbol-index l.symbols))) ≡ gather [] (flat_map f l.symbols)
