-- What a board has, and for which items and pins it is.
use Rattle.std.specs.Prelude.{ℕ, ◌<◌, ◌≤◌, ◌≡◌, ◌≢◌, List, [], ◌∷◌, ◌++◌, length, map, slice_index_or, All, AllPairs, Option, Some, None, IfSome}
use Rattle.lisa_engine.specs.declared.parts.Item.{Item}
use Rattle.lisa_board.specs.declared.parts.Timer.{Timer}
use Rattle.lisa_board.specs.declared.parts.Console.{Console}

-- its timers and its console, and how many pins the machine has
pub record Devices : Type 0 where
  pub timers : List Timer
  pub console : Option Console
  pub pins : ℕ

-- the two pins that a console drives
abbrev pub console_pins : Option Console → List ℕ
console_pins None = []
console_pins (Some console) = console.byte ∷ console.valid ∷ []

-- the pins that the devices drive
abbrev pub driven_pins : Devices → List ℕ
driven_pins board = console_pins board.console ++ map (λ timer. timer.pin) board.timers

-- the timer's item and its pin are there
pub record IsTimerFor (items pins : List Item) (timer : Timer) : Type 0 where
  pub load : timer.load < length items
  pub pin : timer.pin < length pins

-- the console's items and pins are there, and a byte fits its pin
pub record IsConsoleFor (items pins : List Item) (console : Console) : Type 0 where
  pub shown : console.shown < length items
  pub strobe : console.strobe < length items
  pub taken : console.taken < length items
  pub byte : console.byte < length pins
  pub valid : console.valid < length pins
  pub wide : (pin : Item) → 8 ≤ (slice_index_or pins console.byte pin).width

-- a board that was read for these items and pins: its devices have their items and pins there, and no two drive one pin
pub record IsBoardFor (items pins : List Item) (board : Devices) : Type 0 where
  pub timers : All (IsTimerFor items pins) board.timers
  pub console : IfSome board.console (IsConsoleFor items pins)
  pub count : board.pins ≡ length pins
  pub few : length board.timers ≤ 8
  pub apart : AllPairs (λ a b. a ≢ b) (driven_pins board)
