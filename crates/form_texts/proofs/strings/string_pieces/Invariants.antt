use Rattle.std.proofs.Common.{◌≡◌, ◌++◌, ℕ, List, [], map, drop}
use Rattle.instruction_texts.specs.Symbols.{Sym, text_sym, gather}
use Rattle.form_texts.proofs.strings.string_pieces.Given as goal

abbrev pub invariant-loop-byte : goal.invariant-loop-byte
invariant-loop-byte l = (rest : List (Sym ℕ)) → l.pieces.shapes.items ++ gather l.pieces.run.items (map text_sym (drop l.byte-index l.text) ++ rest) ≡ gather [] (map text_sym l.text ++ rest)
