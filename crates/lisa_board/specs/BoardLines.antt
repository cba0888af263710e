-- The texts of boards.
use Rattle.std.specs.Prelude.{ℕ, ◌+◌, ◌≡◌, ◌⊎◌, ◌==◌, ◌||◌, List, [], ◌∷◌, ◌++◌, length, map, position, codes, nat_lt, nat_le, Bool, if◌then◌else◌, Option, Some, None, is_some, Result, Ok, Err}
use Rattle.std.specs.List.{slice_split, list_any}
use Rattle.std.specs.Str.{bytes_eq}
use Rattle.std.specs.Str.Lines.{strip_carriage_return}
use Rattle.lisa_engine.specs.Schedules.{is_named, width_at}
use Rattle.lisa_engine.specs.declared.parts.Item.{Item}
use Rattle.lisa_board.specs.declared.parts.Console.{Console}
use Rattle.lisa_board.specs.declared.device.Device.{Device}
use Rattle.lisa_board.specs.declared.device.Device.TheVariants as devices
use Rattle.lisa_board.specs.declared.fault.BoardFault.{BoardFault}
use Rattle.lisa_board.specs.declared.fault.BoardFault.TheVariants.{BadLine, UnknownItem, UnknownPin, PinTaken, PinWidth, TooMany, NoMemory}
use Rattle.lisa_board.specs.Boards.{Devices, driven_pins}

-- the place of the item or pin of this name
abbrev pub place_of : List Item → List ℕ → Option ℕ
place_of parts name = position (is_named name) parts

-- what follows from a place; where there is none, the fault
abbrev pub found : {T : Type 0} → Option ℕ → BoardFault → (ℕ → Result T BoardFault) → Result T BoardFault
found None fault next = Err fault
found (Some place) fault next = next place

-- what follows from what was read; else its fault
abbrev pub followed_by : {S T : Type 0} → (S → Result T BoardFault) → Result S BoardFault → Result T BoardFault
followed_by next (Err fault) = Err fault
followed_by next (Ok x) = next x

-- an earlier place drives the pin
abbrev pub is_driven : Devices → ℕ → Bool
is_driven board pin = list_any (λ other. other == pin) (driven_pins board)

-- the timer that a line gives by the names of its item and of its pin
abbrev pub timer_of : List Item → List Item → ℕ → Devices → (load pin : List ℕ) → Result Device BoardFault
timer_of items pins line board load pin =
    found (place_of items load) (UnknownItem line load) (λ item.
    found (place_of pins pin) (UnknownPin line pin) (λ place.
    if is_driven board place then Err (PinTaken line pin)
    else if nat_le 8 (length board.timers) then Err (TooMany line (codes "timer") 8)
    else Ok (devices.Timer (record { load = item; pin = place }))))

-- the items and pins that a line names for a console
abbrev pub named_console : List Item → List Item → ℕ → (shown strobe byte valid taken : List ℕ) → Result Console BoardFault
named_console items pins line shown strobe byte valid taken =
    found (place_of items shown) (UnknownItem line shown) (λ shown_item.
    found (place_of items strobe) (UnknownItem line strobe) (λ strobe_item.
    found (place_of items taken) (UnknownItem line taken) (λ taken_item.
    found (place_of pins byte) (UnknownPin line byte) (λ byte_pin.
    found (place_of pins valid) (UnknownPin line valid) (λ valid_pin.
    Ok (record { shown = shown_item; strobe = strobe_item; byte = byte_pin; valid = valid_pin; taken = taken_item }))))))

-- the console on the board, where its pins are free, the first is wide enough and no other console is there
abbrev pub placed_console : List Item → ℕ → Devices → (byte valid : List ℕ) → Console → Result Device BoardFault
placed_console pins line board byte valid console =
    if is_driven board console.byte then Err (PinTaken line byte)
    else if is_driven board console.valid || console.valid == console.byte then Err (PinTaken line valid)
    else if nat_lt (width_at pins console.byte) 8 then Err (PinWidth line byte (width_at pins console.byte))
    else if is_some board.console then Err (TooMany line (codes "console") 1)
    else Ok (devices.Console console)

abbrev pub console_of : List Item → List Item → ℕ → Devices → (shown strobe byte valid taken : List ℕ) → Result Device BoardFault
console_of items pins line board shown strobe byte valid taken =
    followed_by (placed_console pins line board byte valid) (named_console items pins line shown strobe byte valid taken)

-- the device that the words of a line give; the fault of the least number counts, and the first name in the line
abbrev pub device_of_words : List Item → List Item → ℕ → Devices → List (List ℕ) → Result Device BoardFault
device_of_words items pins line board (device ∷ load ∷ pin ∷ []) =
    if bytes_eq device (codes "timer") then timer_of items pins line board load pin else Err (BadLine line)
device_of_words items pins line board (device ∷ shown ∷ strobe ∷ byte ∷ valid ∷ taken ∷ []) =
    if bytes_eq device (codes "console") then console_of items pins line board shown strobe byte valid taken else Err (BadLine line)
device_of_words items pins line board other = Err (BadLine line)

abbrev pub is_empty_word : List ℕ → Bool
is_empty_word word = length word == 0

-- words of one or more bytes, with single blanks between
abbrev pub device_of : List Item → List Item → ℕ → Devices → List ℕ → Result Device BoardFault
device_of items pins line board text =
    let words = slice_split (λ c. c == 32) text in
    if list_any is_empty_word words then Err (BadLine line) else device_of_words items pins line board words

-- the board with one more device
abbrev pub with_device : Devices → Device → Devices
with_device board (devices.Timer timer) = record { timers = board.timers ++ timer ∷ []; console = board.console; pins = board.pins }
with_device board (devices.Console console) = record { timers = board.timers; console = Some console; pins = board.pins }

-- the board with the devices of these lines, of which the first has this number; an empty line is skipped, and the first fault counts
abbrev pub with_lines : List Item → List Item → ℕ → Devices → List (List ℕ) → Result Devices BoardFault
with_lines items pins line board [] = Ok board
with_lines items pins line board (text ∷ texts) =
    if length text == 0 then with_lines items pins (line + 1) board texts
    else followed_by (λ device. with_lines items pins (line + 1) (with_device board device) texts) (device_of items pins line board text)

-- the lines of a file end at line feeds, and each loses one carriage return at its end, the last one too
abbrev pub board_lines : List ℕ → List (List ℕ)
board_lines bytes = map strip_carriage_return (slice_split (λ b. b == 10) bytes)

abbrev pub no_devices : ℕ → Devices
no_devices pins = record { timers = []; console = None; pins = pins }

-- the board that the bytes write for these items and pins, or the fault of its first line with one
abbrev pub board_of : List Item → List Item → List ℕ → Result Devices BoardFault
board_of items pins bytes = with_lines items pins 1 (no_devices (length pins)) (board_lines bytes)

-- the answer, unless memory was wanting
abbrev pub IsUnlessNoMemory : {T : Type 0} → Result T BoardFault → Result T BoardFault → Type 0
IsUnlessNoMemory expected result = (result ≡ expected) ⊎ (result ≡ Err NoMemory)
