-- The lines of the debugger, and what they ask for.
use Rattle.std.specs.Prelude.{ℕ, ◌+◌, ◌≤◌, ◌<◌, ◌==◌, ◌&&◌, List, [], ◌∷◌, length, codes, position, slice_index_or, nat_le, nat_lt, Bool, if◌then◌else◌, Option, Some, None, Result, Ok, Err}
use Rattle.std.specs.List.{slice_split, list_any}
use Rattle.std.specs.Str.{bytes_eq}
use Rattle.std.specs.Str.Lines.{strip_carriage_return}
use Rattle.lisa_engine.specs.Schedules.{number_of, is_named}
use Rattle.lisa_engine.specs.declared.parts.Item.{Item}
use Rattle.lisa_engine.specs.declared.parts.ArrayItem.{ArrayItem}
use Rattle.lisa_debug.specs.declared.command.Command.{Command}
use Rattle.lisa_debug.specs.declared.command.Command.TheVariants.{Step, Until, Show, ShowItem, ShowCell, Where, ListItems, Back, Quit}
use Rattle.lisa_debug.specs.declared.command.Refusal.{Refusal}
use Rattle.lisa_debug.specs.declared.command.Refusal.TheVariants.{BadCommand, UnknownName, EdgeLimit, NoEarlierEdge}

-- the place of the item of this name
abbrev pub item_place : List Item → List ℕ → Option ℕ
item_place items name = position (is_named name) items

abbrev pub has_cell : List ℕ → ℕ → ArrayItem → Bool
has_cell name index array = bytes_eq array.name name && nat_lt index array.depth

-- the place of the array of this name, where it has a cell of this index
abbrev pub cell_place : List ArrayItem → List ℕ → ℕ → Option ℕ
cell_place arrays name index = position (has_cell name index) arrays

-- a session makes at most 10,000 edges in a row
abbrev pub step_of : ℕ → Option ℕ → Result Command Refusal
step_of edge None = Err BadCommand
step_of edge (Some count) = if nat_le (edge + count) 10000 then Ok (Step count) else Err EdgeLimit

abbrev pub until_of : ℕ → Option ℕ → Option ℕ → Option ℕ → Result Command Refusal
until_of edge None count item = Err BadCommand
until_of edge (Some value) None item = Err BadCommand
until_of edge (Some value) (Some count) None = Err UnknownName
until_of edge (Some value) (Some count) (Some item) = if nat_le (edge + count) 10000 then Ok (Until item value count) else Err EdgeLimit

abbrev pub back_of : ℕ → Option ℕ → Result Command Refusal
back_of edge None = Err BadCommand
back_of edge (Some count) = if nat_le count edge then Ok (Back count) else Err NoEarlierEdge

abbrev pub item_of : Option ℕ → Result Command Refusal
item_of None = Err UnknownName
item_of (Some item) = Ok (ShowItem item)

abbrev pub cell_at : ℕ → Option ℕ → Result Command Refusal
cell_at index None = Err UnknownName
cell_at index (Some array) = Ok (ShowCell array index)

abbrev pub cell_of : List ArrayItem → List ℕ → Option ℕ → Result Command Refusal
cell_of arrays name None = Err BadCommand
cell_of arrays name (Some index) = cell_at index (cell_place arrays name index)

abbrev pub verb_alone : List ℕ → Result Command Refusal
verb_alone verb =
    if bytes_eq verb (codes "show") then Ok Show
    else if bytes_eq verb (codes "where") then Ok Where
    else if bytes_eq verb (codes "list") then Ok ListItems
    else if bytes_eq verb (codes "quit") then Ok Quit
    else Err BadCommand

abbrev pub verb_with : List Item → ℕ → List ℕ → List ℕ → Result Command Refusal
verb_with items edge verb word =
    if bytes_eq verb (codes "step") then step_of edge (number_of word)
    else if bytes_eq verb (codes "back") then back_of edge (number_of word)
    else if bytes_eq verb (codes "show") then item_of (item_place items word)
    else Err BadCommand

abbrev pub verb_cell : List ArrayItem → List ℕ → List ℕ → List ℕ → Result Command Refusal
verb_cell arrays verb name index = if bytes_eq verb (codes "cell") then cell_of arrays name (number_of index) else Err BadCommand

abbrev pub verb_until : List Item → ℕ → List ℕ → List ℕ → List ℕ → List ℕ → Result Command Refusal
verb_until items edge verb name value count =
    if bytes_eq verb (codes "until") then until_of edge (number_of value) (number_of count) (item_place items name) else Err BadCommand

-- what the words ask for after so many edges: the refusal is the first that applies
abbrev pub command_of_words : List Item → List ArrayItem → ℕ → List (List ℕ) → Result Command Refusal
command_of_words items arrays edge (verb ∷ []) = verb_alone verb
command_of_words items arrays edge (verb ∷ word ∷ []) = verb_with items edge verb word
command_of_words items arrays edge (verb ∷ name ∷ index ∷ []) = verb_cell arrays verb name index
command_of_words items arrays edge (verb ∷ name ∷ value ∷ count ∷ []) = verb_until items edge verb name value count
command_of_words items arrays edge other = Err BadCommand

abbrev pub is_empty_word : List ℕ → Bool
is_empty_word word = length word == 0

-- a text is at most 256 bytes, words of one or more with single blanks between
abbrev pub command_of_text : List Item → List ArrayItem → ℕ → List ℕ → Result Command Refusal
command_of_text items arrays edge text =
    let words = slice_split (λ c. c == 32) text in
    if nat_lt 256 (length text) then Err BadCommand
    else if list_any is_empty_word words then Err BadCommand
    else command_of_words items arrays edge words

-- a carriage return at the line's end is dropped
abbrev pub command_of : List Item → List ArrayItem → ℕ → List ℕ → Result Command Refusal
command_of items arrays edge line = command_of_text items arrays edge (strip_carriage_return line)

-- what is to be shown is there
abbrev pub IsShown : List Item → List ArrayItem → Command → Type 0
IsShown items arrays (Until item value count) = item < length items
IsShown items arrays (ShowItem item) = item < length items
IsShown items arrays (ShowCell array index) = (array < length arrays) × ((a : ArrayItem) → index < (slice_index_or arrays array a).depth)
IsShown items arrays other = Unit {0}

-- the edges are within the limit
abbrev pub IsWithin : ℕ → Command → Type 0
IsWithin edge (Step count) = edge + count ≤ 10000
IsWithin edge (Until item value count) = edge + count ≤ 10000
IsWithin edge (Back count) = count ≤ edge
IsWithin edge other = Unit {0}
