-- What the parts of a dump are together.
use Rattle.std.specs.Prelude.{◌+◌, ◌-◌, ◌==◌, List, [], ◌∷◌, Option, Some, None, Bool, true, false, if◌then◌else◌}
use Rattle.std.specs.List.{flat_map}
use Rattle.lisa_words.specs.Steps.{◌>>=◌}
use Rattle.vcd_trace.specs.Written.{Variable}
use Rattle.vcd_trace.specs.declared.parts.Part.{Part}
use Rattle.vcd_trace.specs.declared.parts.Part.TheVariants.{Note, Comment, Opens, Closes, Declares, Definitions, Begins, Ends, Happens}
use Rattle.vcd_trace.specs.declared.parts.Event.{Event}
use Rattle.vcd_trace.specs.declared.parts.Event.TheVariants as events
use Rattle.vcd_trace.specs.declared.places.Place.{Place}
use Rattle.vcd_trace.specs.declared.places.Place.TheVariants.{Head, Body}

-- The place behind a part, where the part may stand: the declarations come first, with so many scopes open; then, when all are closed,
-- `$enddefinitions`; then times, changes and marks, a mark holding changes and comments alone.
abbrev pub place_after : Place → Part → Option Place
place_after (Head depth) Note = Some (Head depth)
place_after (Head depth) Comment = Some (Head depth)
place_after (Head depth) Opens = Some (Head (depth + 1))
place_after (Head depth) Closes = if depth == 0 then None else Some (Head (depth - 1))
place_after (Head depth) (Declares v) = Some (Head depth)
place_after (Head depth) Definitions = if depth == 0 then Some (Body false) else None
place_after (Head depth) Begins = None
place_after (Head depth) Ends = None
place_after (Head depth) (Happens e) = None
place_after (Body inside) Note = None
place_after (Body inside) Comment = Some (Body inside)
place_after (Body inside) Opens = None
place_after (Body inside) Closes = None
place_after (Body inside) (Declares v) = None
place_after (Body inside) Definitions = None
place_after (Body inside) Begins = if inside then None else Some (Body true)
place_after (Body inside) Ends = if inside then Some (Body false) else None
place_after (Body inside) (Happens (events.Change c)) = Some (Body inside)
place_after (Body inside) (Happens (events.Time m)) = if inside then None else Some (Body false)

-- the place behind several parts
abbrev pub place_behind : Place → List Part → Option Place
place_behind place [] = Some place
place_behind place (p ∷ ps) = place_after place p >>= λ next. place_behind next ps

-- a dump may end outside marks, behind `$enddefinitions`
abbrev pub may_end : Place → Bool
may_end (Head depth) = false
may_end (Body true) = false
may_end (Body false) = true

abbrev pub variables_in : Part → List Variable
variables_in Note = []
variables_in Comment = []
variables_in Opens = []
variables_in Closes = []
variables_in (Declares v) = v ∷ []
variables_in Definitions = []
variables_in Begins = []
variables_in Ends = []
variables_in (Happens e) = []

abbrev pub events_in : Part → List Event
events_in Note = []
events_in Comment = []
events_in Opens = []
events_in Closes = []
events_in (Declares v) = []
events_in Definitions = []
events_in Begins = []
events_in Ends = []
events_in (Happens e) = e ∷ []

-- the variables, and the times and changes in their order
pub record Form : Type 0 where
  pub variables : List Variable
  pub events : List Event

abbrev pub form_of_parts : List Part → Form
form_of_parts parts = record { variables = flat_map variables_in parts; events = flat_map events_in parts }

-- parts that stand where they may, up to an end
abbrev pub ended_form : List Part → Option Place → Option Form
ended_form parts None = None
ended_form parts (Some place) = if may_end place then Some (form_of_parts parts) else None

abbrev pub ordered_form : List Part → Option Form
ordered_form parts = ended_form parts (place_behind (Head 0) parts)
