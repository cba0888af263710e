-- What a dump says: its items, and at each time the values that changed.
use Rattle.std.specs.Prelude.{ℕ, suc, ◌==◌, List, [], ◌∷◌, ◌++◌, map, fold, Option, Some, None, unwrap_or, if◌then◌else◌}
use Rattle.std.specs.List.{flat_map, zip, enumerate_from}
use Rattle.std.specs.Option.{option_map}
use Rattle.std.specs.Str.{bytes_eq}
use Rattle.lisa_engine.specs.declared.parts.Item.{Item}
use Rattle.vcd_trace.specs.Written.{Variable, Change, Changed, Dump}
use Rattle.vcd_trace.specs.Forms.{Form}
use Rattle.vcd_trace.specs.declared.parts.Event.{Event}
use Rattle.vcd_trace.specs.declared.parts.Event.TheVariants as events

-- the place of the first variable that has the code
abbrev pub place_of : List Variable → List ℕ → Option ℕ
place_of [] code = None
place_of (v ∷ vs) code = if bytes_eq v.code code then Some 0 else option_map suc (place_of vs code)

-- its width
abbrev pub width_of : List Variable → List ℕ → ℕ
width_of [] code = 0
width_of (v ∷ vs) code = if bytes_eq v.code code then v.width else width_of vs code

abbrev pub item_of : Variable → Item
item_of v = record { name = v.name; width = v.width }

-- a time with its changes
abbrev pub Block : Type 0
Block = ℕ × List Change

-- the changes before the first time, and then each time with those behind it
abbrev pub cut : List Event → List Change × List Block
cut [] = ([], [])
cut (events.Change c ∷ es) = (c ∷ (cut es).0, (cut es).1)
cut (events.Time m ∷ es) = ([], (m.time, (cut es).0) ∷ (cut es).1)

-- changes before the first time belong to it
abbrev pub joined : List Change × List Block → List Block
joined (lead, []) = []
joined (lead, (time, changes) ∷ rest) = (time, lead ++ changes) ∷ rest

abbrev pub blocks : List Event → List Block
blocks es = joined (cut es)

-- the value of a code after a change, where it had one before
abbrev pub given : List ℕ → ℕ → Change → ℕ
given code value change = if bytes_eq change.code code then unwrap_or change.value 0 else value

-- the last value that a code got
abbrev pub last_value : List Change → List ℕ → ℕ
last_value changes code = fold (given code) 0 changes

-- the variables' values after so many changes
abbrev pub values_after : List Variable → List Change → List ℕ
values_after variables changes = map (λ v. last_value changes v.code) variables

abbrev pub if_changed : ℕ × (ℕ × ℕ) → List (ℕ × ℕ)
if_changed (place, (before, now)) = if before == now then [] else (place, now) ∷ []

-- the values that aren't those before, in their order
abbrev pub changes_between : List ℕ → List ℕ → List (ℕ × ℕ)
changes_between before now = flat_map if_changed (enumerate_from 0 (zip before now))

-- at the first time all items are among the changes, and then those that have another value than before
abbrev pub time_changes : Option (List ℕ) → List ℕ → List (ℕ × ℕ)
time_changes None now = enumerate_from 0 now
time_changes (Some before) now = changes_between before now

abbrev pub changed : ℕ → List (ℕ × ℕ) → Changed
changed time changes = record { time = time; changes = changes }

-- the times from one on, where `before` are the values at the time before it, if there is one, and `known` all changes up to there
abbrev pub times_from : List Variable → (before : Option (List ℕ)) → (known : List Change) → List Block → List Changed
times_from variables before known [] = []
times_from variables before known ((time, more) ∷ rest) =
    changed time (time_changes before (values_after variables (known ++ more)))
    ∷ times_from variables (Some (values_after variables (known ++ more))) (known ++ more) rest

abbrev pub dump_of : Form → Dump
dump_of form = record { items = map item_of form.variables; times = times_from form.variables None [] (blocks form.events) }
