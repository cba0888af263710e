-- What may be wrong with a dump, and which fault counts.
use Rattle.std.specs.Prelude.{ℕ, ◌^◌, ◌≤◌, ◌≡◌, ◌==◌, ◌||◌, List, [], ◌∷◌, length, find, codes, count_by, nat_lt, nat_le, not, Bool, true, false, Option, Some, None, Result, Ok, Err, if◌then◌else◌}
use Rattle.std.specs.List.{list_any}
use Rattle.std.specs.Option.{option_map, is_none}
use Rattle.std.specs.Str.{bytes_eq}
use Rattle.vcd_trace.specs.Written.{Variable, Change, Dump}
use Rattle.vcd_trace.specs.Forms.{Form}
use Rattle.vcd_trace.specs.Parts.{form_of}
use Rattle.vcd_trace.specs.Meaning.{Block, place_of, width_of, blocks, dump_of}
use Rattle.vcd_trace.specs.declared.parts.Event.{Event}
use Rattle.vcd_trace.specs.declared.parts.Event.TheVariants as events
use Rattle.vcd_trace.specs.declared.faults.VcdFault.{VcdFault}
use Rattle.vcd_trace.specs.declared.faults.VcdFault.TheVariants.{BadToken, UnknownCode, BadWidth, NotRising, ValueWidth, NoFirst, TooMany, NoMemory}

-- the place of the first word of a time or a change
abbrev pub event_place : Event → ℕ
event_place (events.Time m) = m.at
event_place (events.Change c) = c.at

-- a change names a code that no variable has
abbrev pub is_unknown : List Variable → Event → Bool
is_unknown variables (events.Time m) = false
is_unknown variables (events.Change c) = is_none (place_of variables c.code)

-- a width isn't from 1 to 64, or isn't that of the first variable with the code
abbrev pub is_misfit : List Variable → Variable → Bool
is_misfit variables v = nat_lt v.width 1 || nat_lt 64 v.width || not (v.width == width_of variables v.code)

-- a time isn't above the one before, if there is one
abbrev pub falls : Option ℕ → ℕ → Bool
falls None time = false
falls (Some before) time = nat_le time before

-- the place of the first time that isn't above the one before
abbrev pub first_fall : Option ℕ → List Event → Option ℕ
first_fall before [] = None
first_fall before (events.Change c ∷ es) = first_fall before es
first_fall before (events.Time m ∷ es) = if falls before m.time then Some m.at else first_fall (Some m.time) es

-- a value doesn't fit so many bits
abbrev pub overflows : ℕ → Option ℕ → Bool
overflows width None = true
overflows width (Some value) = nat_le (2 ^ width) value

-- a value has more digits than its variable's width
abbrev pub is_too_wide : List Variable → Event → Bool
is_too_wide variables (events.Time m) = false
is_too_wide variables (events.Change c) = overflows (width_of variables c.code) c.value

abbrev pub is_time : Event → Bool
is_time (events.Time m) = true
is_time (events.Change c) = false

-- the changes at the first time, if there is one
abbrev pub first_changes : List Block → List Change
first_changes [] = []
first_changes (block ∷ rest) = block.1

-- a variable has no value at the first time
abbrev pub is_unset : List Change → Variable → Bool
is_unset changes v = not (list_any (λ c. bytes_eq c.code v.code) changes)

abbrev pub too_many : List ℕ → ℕ → ℕ → Option VcdFault
too_many what count limit = if nat_lt limit count then Some (TooMany what count limit) else None

-- the first of two faults
abbrev pub or_else : Option VcdFault → Option VcdFault → Option VcdFault
or_else None second = second
or_else (Some fault) second = Some fault

abbrev pub unknown_code : List Variable → List Event → Option VcdFault
unknown_code variables es = option_map (λ e. UnknownCode (event_place e)) (find (is_unknown variables) es)

abbrev pub bad_width : List Variable → Option VcdFault
bad_width variables = option_map (λ v. BadWidth v.name v.width) (find (is_misfit variables) variables)

abbrev pub not_rising : List Event → Option VcdFault
not_rising es = option_map NotRising (first_fall None es)

abbrev pub value_width : List Variable → List Event → Option VcdFault
value_width variables es = option_map (λ e. ValueWidth (event_place e)) (find (is_too_wide variables) es)

abbrev pub no_first : List Variable → List Event → Option VcdFault
no_first variables es = option_map (λ v. NoFirst v.name) (find (is_unset (first_changes (blocks es))) variables)

abbrev pub counts : List Variable → List Event → Option VcdFault
counts variables es = or_else (too_many (codes "items") (length variables) 8192) (too_many (codes "times") (count_by is_time es) 10001)

-- the fault of a form, the first by its kind and inside a kind by its place
abbrev pub fault_of : List Variable → List Event → Option VcdFault
fault_of variables es =
    or_else (unknown_code variables es) (or_else (bad_width variables) (or_else (not_rising es)
    (or_else (value_width variables es) (or_else (no_first variables es) (counts variables es)))))

-- The bytes spell this dump.
abbrev pub Spells : List ℕ → Dump → Type 0
Spells bytes dump = (form : Form) × (form_of bytes ≡ Some form) × (fault_of form.variables form.events ≡ None) × (dump ≡ dump_of form)

-- The bytes have a form with this fault.
abbrev pub HasFault : List ℕ → VcdFault → Type 0
HasFault bytes fault = (form : Form) × (form_of bytes ≡ Some form) × (fault_of form.variables form.events ≡ Some fault)

-- What an answer says of the bytes: the dump that they spell, or their fault; bytes that have no form are BadToken, whose place is free.
abbrev pub Answers : List ℕ → Result Dump VcdFault → Type 0
Answers bytes (Ok dump) = Spells bytes dump
Answers bytes (Err (BadToken at)) = (at ≤ length bytes) × (form_of bytes ≡ None)
Answers bytes (Err (UnknownCode at)) = HasFault bytes (UnknownCode at)
Answers bytes (Err (BadWidth name width)) = HasFault bytes (BadWidth name width)
Answers bytes (Err (NotRising at)) = HasFault bytes (NotRising at)
Answers bytes (Err (ValueWidth at)) = HasFault bytes (ValueWidth at)
Answers bytes (Err (NoFirst name)) = HasFault bytes (NoFirst name)
Answers bytes (Err (TooMany what count limit)) = HasFault bytes (TooMany what count limit)
Answers bytes (Err NoMemory) = Unit {0}
