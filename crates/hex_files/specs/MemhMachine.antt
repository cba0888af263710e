-- Words of a `$readmemh` file one behind the other, as a reader goes through them with the next cell's index.
use Rattle.std.specs.Prelude.{ℕ, ◌+◌, List, [], ◌∷◌, Option, Some, None, Result, Ok, Err}
use Rattle.lisa_engine.specs.declared.parts.ArrayItem.{ArrayItem}
use Rattle.hex_files.specs.declared.faults.MemhFault.{MemhFault}
use Rattle.hex_files.specs.declared.faults.MemhFault.TheVariants.{BadWord}
use Rattle.hex_files.specs.declared.memh_words.MemhWord.{MemhWord}
use Rattle.hex_files.specs.declared.memh_words.MemhWord.TheVariants.{Index, Value}
use Rattle.hex_files.specs.Maps.{Write}
use Rattle.hex_files.specs.MemhReading.{Placed, word_of, cell_fault}

abbrev pub and_more : Write → Result (List Write) MemhFault → Result (List Write) MemhFault
and_more w (Err fault) = Err fault
and_more w (Ok ws) = Ok (w ∷ ws)

abbrev pub if_sound : Option MemhFault → Result (List Write) MemhFault → Result (List Write) MemhFault
if_sound None rest = rest
if_sound (Some fault) rest = Err fault

abbrev pub meant : ArrayItem → (ℕ → Result (List Write) MemhFault) → ℕ → ℕ → Option MemhWord → Result (List Write) MemhFault
meant array rest at index None = Err (BadWord at)
meant array rest at index (Some (Index n)) = rest n
meant array rest at index (Some (Value n)) = if_sound (cell_fault array index n) (and_more (index, n) (rest (index + 1)))

-- the cells that the words give, where the next one has this index, or the fault of the first word that has one
unfoldable pub writes_from : ArrayItem → ℕ → List Placed → Result (List Write) MemhFault
writes_from array index [] = Ok []
writes_from array index (word ∷ words) = meant array (λ next. writes_from array next words) word.0 index (word_of word.1)
