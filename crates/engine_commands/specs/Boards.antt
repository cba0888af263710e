-- The board of a command, which is read before its task is done, and what its console prints.
use Rattle.std.specs.Prelude.{ℕ, ◌≡◌, List, [], length, nat_lt, if◌then◌else◌, Ok, Err}
use Rattle.lisa_board.specs.Boards.{Devices}
use Rattle.lisa_board.specs.BoardLines.{board_of}
use Rattle.lisa_board.specs.Runs.{output}
use Rattle.lisa_board.specs.declared.fault.BoardFault.{BoardFault}
use Rattle.lisa_engine.specs.Machines.{Machine}
use Rattle.lisa_engine.specs.declared.parts.Item.{Item}
use Rattle.lisa_outcomes.specs.declared.status.Refusal.{Refusal}
use Rattle.lisa_outcomes.specs.declared.status.Refusal.TheVariants as refusals
use Rattle.lisa_outcomes.specs.declared.status.InputFault.TheVariants as input_faults
use Rattle.lisa_outcomes.specs.Outcomes.{Outcome, Finished, Refusing}

-- the devices that bytes write for these items and pins
abbrev pub IsBoard : (items pins : List Item) → List ℕ → Devices → Type 0
IsBoard items pins bytes board = board_of items pins bytes ≡ Ok board

abbrev pub IsNoBoard : (items pins : List Item) → List ℕ → Refusal → Type 0
IsNoBoard items pins bytes refusal = (fault : BoardFault) × (board_of items pins bytes ≡ Err fault) × (refusal ≡ refusals.Board fault)

-- the most bytes of the input of a board
abbrev pub board_input_limit : ℕ
board_input_limit = 1048576

-- what its console prints in so many edges of a machine, with the whole input; an input that is too long is refused
abbrev pub board_outcome : Machine → Devices → (edges : ℕ) → (input : List ℕ) → Outcome
board_outcome m board edges input =
    if nat_lt board_input_limit (length input) then Refusing (refusals.Input input_faults.TooLong) []
    else Finished (output m board input edges)
