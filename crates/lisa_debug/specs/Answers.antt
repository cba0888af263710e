-- What a session answers to a line.
use Rattle.std.specs.Prelude.{ℕ, ◌+◌, ◌-◌, ◌==◌, List, [], ◌++◌, map, codes, decimal, slice_index, slice_index_or, Bool, true, false, if◌then◌else◌, Result, Ok, Err}
use Rattle.std.proofs.Common.{zero, suc}
use Rattle.std.specs.List.{flat_map}
use Rattle.lisa_engine.specs.State.{cells_of}
use Rattle.lisa_engine.specs.Text.{newline, value_text, edge_line, cell_text, state_text}
use Rattle.lisa_engine.specs.declared.parts.Item.{Item}
use Rattle.lisa_engine.specs.declared.parts.ArrayItem.{ArrayItem}
use Rattle.lisa_engine.specs.Machines.{Course, state_at}
use Rattle.lisa_debug.specs.Commands.{command_of}
use Rattle.lisa_debug.specs.declared.command.Command.{Command}
use Rattle.lisa_debug.specs.declared.command.Command.TheVariants.{Step, Until, Show, ShowItem, ShowCell, Where, ListItems, Back, Quit}
use Rattle.lisa_debug.specs.declared.command.Refusal.{Refusal}
use Rattle.lisa_debug.specs.declared.command.Refusal.TheVariants.{BadCommand, UnknownName, EdgeLimit, NoEarlierEdge}
use Rattle.lisa_debug.specs.declared.command.Go.{Go}
use Rattle.lisa_debug.specs.declared.command.Go.TheVariants.{On, Quit as Ended}

-- the text, the number of edges after which the session then stands, and whether it goes on
pub record Answer : Type 0 where
  pub text : List ℕ
  pub position : ℕ
  pub go : Go

-- the number of edges from `edge` on, at most `count` more, after which the test first holds, or all of them
abbrev pub edges_until : (ℕ → Bool) → ℕ → ℕ → ℕ
edges_until holds edge zero = edge
edges_until holds edge (suc count) = if holds edge then edge else edges_until holds (suc edge) count

-- the item has the value after so many edges
abbrev pub is_met : Course → ℕ → ℕ → ℕ → Bool
is_met course item value edge = slice_index (state_at course edge).items item == value

-- the number of edges after the command
abbrev pub moved : Course → ℕ → Command → ℕ
moved course edge (Step count) = edge + count
moved course edge (Until item value count) = edges_until (is_met course item value) edge count
moved course edge (Back count) = edge - count
moved course edge other = edge

abbrev pub met_text : Bool → List ℕ
met_text true = codes " met" ++ newline
met_text false = codes " not met" ++ newline

abbrev pub met_line : ℕ → Bool → List ℕ
met_line edge met = codes "edge " ++ (decimal edge ++ met_text met)

abbrev pub item_name : List Item → ℕ → List ℕ
item_name items place = slice_index_or (map (λ item. item.name) items) place []

abbrev pub array_name : List ArrayItem → ℕ → List ℕ
array_name arrays place = slice_index_or (map (λ array. array.name) arrays) place []

-- a name, a blank and the width
abbrev pub list_line : Item → List ℕ
list_line item = item.name ++ (codes " " ++ (decimal item.width ++ newline))

-- what is told of the command, after the edges that it asked for
abbrev pub told : Course → ℕ → Command → List ℕ
told course edge (Step count) = edge_line edge
told course edge (Until item value count) = met_line edge (is_met course item value edge)
told course edge Show = state_text course.machine.items course.machine.arrays edge (state_at course edge)
told course edge (ShowItem item) = item_name course.machine.items item ++ value_text (slice_index (state_at course edge).items item)
told course edge (ShowCell array index) = cell_text (array_name course.machine.arrays array) index (slice_index (cells_of (state_at course edge) array) index)
told course edge Where = edge_line edge
told course edge ListItems = flat_map list_line course.machine.items
told course edge (Back count) = edge_line edge
told course edge Quit = []

abbrev pub goes : Command → Go
goes Quit = Ended
goes other = On

abbrev pub refusal_text : Refusal → List ℕ
refusal_text BadCommand = codes "refused 1 BadCommand" ++ newline
refusal_text UnknownName = codes "refused 2 UnknownName" ++ newline
refusal_text EdgeLimit = codes "refused 3 EdgeLimit" ++ newline
refusal_text NoEarlierEdge = codes "refused 4 NoEarlierEdge" ++ newline

-- a refused line leaves the session as it was
abbrev pub answer_of : Course → ℕ → Result Command Refusal → Answer
answer_of course edge (Err refusal) = record { text = refusal_text refusal; position = edge; go = On }
answer_of course edge (Ok command) =
    let after = moved course edge command in
    record { text = told course after command; position = after; go = goes command }

-- the answer to a line, after so many edges
abbrev pub answer : Course → ℕ → List ℕ → Answer
answer course edge line = answer_of course edge (command_of course.machine.items course.machine.arrays edge line)
