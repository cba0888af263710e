-- What a machine has and means, and its course under a schedule.
use Rattle.std.specs.Prelude.{ℕ, List, length}
use Rattle.lisa_engine.specs.State.{State}
use Rattle.lisa_engine.specs.ScheduleLine.{Line}
use Rattle.lisa_engine.specs.PinValues.{pin_values}
use Rattle.lisa_engine.specs.declared.parts.Item.{Item}
use Rattle.lisa_engine.specs.declared.parts.ArrayItem.{ArrayItem}

-- what a machine has, and the states that its definition gives after each list of pin values
pub record Machine : Type 0 where
  pub pins : List Item
  pub items : List Item
  pub arrays : List ArrayItem
  pub defined : List (List ℕ) → State

abbrev pub machine_of : List Item → List Item → List ArrayItem → (List (List ℕ) → State) → Machine
machine_of pins items arrays defined = record { pins = pins; items = items; arrays = arrays; defined = defined }

-- a machine under the lines of a schedule
pub record Course : Type 0 where
  pub machine : Machine
  pub lines : List Line

abbrev pub course_of : Machine → List Line → Course
course_of machine lines = record { machine = machine; lines = lines }

-- the values of its pins in the edges 1 to `edge`
abbrev pub entries_to : Course → ℕ → List (List ℕ)
entries_to course edge = pin_values (length course.machine.pins) course.lines edge

-- its state after so many edges
abbrev pub state_at : Course → ℕ → State
state_at course edge = course.machine.defined (entries_to course edge)
