-- What the devices of a board give to the pins, and what its console prints, from the rows of a machine's items: the row after no edge, after the
-- first edge, and so on.
use Rattle.std.specs.Prelude.{ℕ, ◌-◌, ◌%◌, ◌==◌, List, [], ◌∷◌, ◌++◌, drop, map, replicate, slice_index, fold, filter, count_by, not, Bool, if◌then◌else◌, Option, Some, None}
use Rattle.std.specs.List.{zip}
use Rattle.lisa_engine.specs.PinValues.{set_pin}
use Rattle.lisa_engine.specs.declared.parts.Setting.{Setting}
use Rattle.lisa_board.specs.declared.parts.Timer.{Timer}
use Rattle.lisa_board.specs.declared.parts.Console.{Console}
use Rattle.lisa_board.specs.declared.timers.Counter.{Counter}
use Rattle.lisa_board.specs.Boards.{Devices}

-- ---- timers

-- where the count is 0 it becomes the load, and the pin is 0; else it falls by 1, and the pin is 1 where it became 0
abbrev pub tick : Counter → ℕ → Counter
tick counter load =
    if counter.count == 0 then record { count = load; pulse = 0 }
    else record { count = counter.count - 1; pulse = if counter.count == 1 then 1 else 0 }

abbrev pub at_zero : Counter
at_zero = record { count = 0; pulse = 0 }

-- a timer's count, which is 0 at first, and the value of its pin, after it has looked at these rows
abbrev pub counter_after : Timer → List (List ℕ) → Counter
counter_after timer rows = fold tick at_zero (map (λ row. slice_index row timer.load) rows)

abbrev pub pulse_of : List (List ℕ) → Timer → Setting
pulse_of rows timer = record { pin = timer.pin; value = (counter_after timer rows).pulse }

-- ---- the console

-- each edge: the row before it and the row after it
abbrev pub edges_of : List (List ℕ) → List (List ℕ × List ℕ)
edges_of rows = zip rows (drop 1 rows)

-- the edge changed the item's value
abbrev pub has_changed : ℕ → List ℕ × List ℕ → Bool
has_changed item (before, after) = not (slice_index before item == slice_index after item)

-- what is left of the input: each edge that changed TAKEN took a byte, while there was one
abbrev pub rest_of : Console → List ℕ → List (List ℕ) → List ℕ
rest_of console input rows = drop (count_by (has_changed console.taken) (edges_of rows)) input

-- the next byte and that it is valid, or 0 where no byte is left
abbrev pub offer : Console → List ℕ → List Setting
offer console [] = record { pin = console.byte; value = 0 } ∷ record { pin = console.valid; value = 0 } ∷ []
offer console (byte ∷ rest) = record { pin = console.byte; value = byte } ∷ record { pin = console.valid; value = 1 } ∷ []

abbrev pub offers : Option Console → List ℕ → List (List ℕ) → List Setting
offers None input rows = []
offers (Some console) input rows = offer console (rest_of console input rows)

-- the lowest 8 bits of DATA after each edge that changed STROBE
abbrev pub printed_by : Option Console → List (List ℕ) → List ℕ
printed_by None rows = []
printed_by (Some console) rows = map (λ edge. slice_index edge.1 console.shown % 256) (filter (has_changed console.strobe) (edges_of rows))

-- ---- the board

-- the values of the pins in the next edge, by all rows so far; a pin without a device is 0
abbrev pub feed : Devices → List ℕ → List (List ℕ) → List ℕ
feed board input rows = fold set_pin (replicate board.pins 0) (map (pulse_of rows) board.timers ++ offers board.console input rows)

-- the bytes of the console
abbrev pub printed : Devices → List (List ℕ) → List ℕ
printed board rows = printed_by board.console rows
