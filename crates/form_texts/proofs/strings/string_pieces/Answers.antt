use Rattle.std.proofs.Common.{◌++◌, ℕ, List, [], map, get_or, refl}
use Rattle.instruction_texts.specs.Symbols.{Sym, text_sym, gather}
use Rattle.form_texts.proofs.Stringed.{byte_grown}
use Rattle.form_texts.proofs.strings.string_pieces.Goals as goal

pub loop-byte-preserved : goal.loop-byte-preserved
loop-byte-preserved c =
    let text = c.args.text.now in
    let i = c.loop-byte.byte-index in
    byte_grown text i (get_or text i 0) 0 c.text_symbol.result c.loop-byte.pieces.shapes.items c.add_symbol.new.pieces.shapes.items c.loop-byte.pieces.run.items c.add_symbol.new.pieces.run.items
    (λ (rest : List (Sym ℕ)). gather [] (map text_sym text ++ rest)) c.loop-byte-test.true refl c.text_symbol.ensures c.in_ok-add_symbol.ensures.run c.in_ok-add_symbol.ensures.shapes c.loop-byte.invariant
