-- An Intel HEX file without data, for any array.
use Rattle.std.proofs.Common.{◌≡◌, ◌∙◌, ◌≤◌, ◌+◌, ℕ, List, [], ◌++◌, map, Some, Ok, Result, refl, sym, ap, arith}
use Rattle.std.specs.Str.Lines.{lines}
use Rattle.std.proofs.lemmas.List.{append-nil}
use Rattle.lisa_engine.specs.declared.parts.ArrayItem.{ArrayItem}
use Rattle.hex_files.specs.declared.faults.HexFault.{HexFault}
use Rattle.hex_files.specs.Before.{unless}
use Rattle.hex_files.specs.Maps.{laid}
use Rattle.hex_files.specs.HexText.{byte_count, record_line, data_lines, hex_text}
use Rattle.hex_files.specs.HexReading.{◌>>=◌, size_of, hex_writes, little, first_wide, hex_of}
use Rattle.hex_files.specs.HexMachine.{Step, and_more, writes_from}
use Rattle.hex_files.specs.HexGives.{values_in}
use Rattle.hex_files.proofs.MapLaws.{values_laid}
use Rattle.hex_files.proofs.PieceLaws.{pieces_none}
use Rattle.hex_files.proofs.LineSteps.{on_record, good_record}
use Rattle.hex_files.proofs.HexRules.{lines_agree}
use Rattle.hex_files.proofs.CellPieces.{hex_read}
use Rattle.hex_files.proofs.RecordTexts.{nil, IsWhole, told, record_text, not_empty, first_cut, record_read}
use Rattle.memory_commands.specs.Exports.{empty_memory}

text_is : (array : ArrayItem) → hex_text (empty_memory array) ≡ record_line 0 1 []
unfolding data_lines
text_is array = ap (λ ps. data_lines 0 0 ps ++ record_line 0 1 []) (pieces_none 16 (omega arith))

end_whole : IsWhole 0 1 []
end_whole = record { short = omega arith; few = omega arith; known = omega arith; bytes = nil; sized = refl }

none_written : (array : ArrayItem) → hex_writes array (record_line 0 1 []) ≡ Ok []
unfolding writes_from
none_written array =
    sym (lines_agree (size_of array) (lines (record_line 0 1 [])))
    ∙ ap (λ t. writes_from (size_of array) 1 (Some 0) (lines t)) (sym (append-nil (record_line 0 1 [])))
    ∙ ap (writes_from (size_of array) 1 (Some 0)) (first_cut 0 1 [] end_whole [])
    ∙ ap (λ (r : Result Step HexFault). r >>= λ x. and_more x.0 (writes_from (size_of array) (1 + 1) x.1 (lines [])))
    (on_record (size_of array) 1 (Some 0) (record_text 0 1 []) (not_empty 0 1 []) (told 0 1 []) (record_read 0 1 [] end_whole 1) ∙ good_record (size_of array) 1 0 (told 0 1 []) refl)

pub hex_none : (array : ArrayItem) → 1 ≤ array.width → hex_of array (hex_text (empty_memory array)) ≡ Ok (empty_memory array)
unfolding laid first_wide
hex_none array some =
    ap (hex_of array) (text_is array)
    ∙ hex_read array (record_line 0 1 []) [] []
    (ap values_in (none_written array) ∙ ap (λ (t : List ℕ). Ok t) (values_laid []))
    (ap (λ ps. unless (first_wide array.width 0 (map little ps)) (map little ps)) (pieces_none (byte_count array.width) (omega (arith, some))))
