-- A file for `$readmemh` without words, for any array.
use Rattle.std.proofs.Common.{◌≡◌, ◌∙◌, ℕ, List, [], Ok, ap}
use Rattle.lisa_engine.specs.declared.parts.ArrayItem.{ArrayItem}
use Rattle.hex_files.specs.Arrays.{with_cells}
use Rattle.hex_files.specs.Maps.{laid}
use Rattle.hex_files.specs.MemhText.{memh_text}
use Rattle.hex_files.specs.MemhReading.{writes_in, filled, memh_of}
use Rattle.hex_files.proofs.MapLaws.{values_laid}
use Rattle.hex_files.proofs.WordLoops.{no_words}
use Rattle.memory_commands.specs.Exports.{empty_memory}

pub memh_none : (array : ArrayItem) → memh_of array (memh_text (empty_memory array)) ≡ Ok (empty_memory array)
unfolding laid
memh_none array =
    ap (λ words. filled array (writes_in array words)) (no_words 0)
    ∙ ap (λ (cells : List ℕ). Ok (with_cells array cells)) (values_laid [])
