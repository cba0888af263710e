use Rattle.std.proofs.Common.{◌≡◌, ◌++◌, ℕ, List, map, drop}
use Rattle.instruction_texts.specs.Symbols.{Sym, text_sym}
use Rattle.form_texts.specs.Segments.{written_in}
use Rattle.form_texts.specs.declared.strings.Strings.{Strings}
use Rattle.form_texts.proofs.segments.add_bytes.Given as goal

abbrev pub invariant-loop-byte : goal.invariant-loop-byte
invariant-loop-byte l = (all : List Strings) (fields : List (ℕ × ℕ)) (parts : List (List (Sym ℕ)))
    → written_in all l.segments.items fields parts ++ map text_sym (drop l.byte-index l.text) ≡ written_in all l.fn.segments.items fields parts ++ map text_sym l.text
