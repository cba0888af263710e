-- The texts of schedules.
use Rattle.std.specs.Prelude.{ℕ, ◌+◌, ◌^◌, ◌==◌, ◌&&◌, ◌||◌, ◌≡◌, ◌⊎◌, List, [], ◌∷◌, length, take, drop, map, find, position, codes, false, not, nat_lt, nat_le, slice_index, slice_index_or, decimal, Bool, if◌then◌else◌, Option, Some, None, unwrap_or, Result, Ok, Err}
use Rattle.std.specs.List.{list_any, list_all, slice_split, before_last, after_last}
use Rattle.std.specs.Option.{option_map, option_and_then}
use Rattle.std.specs.Char.{digit_value}
use Rattle.std.specs.Str.{bytes_eq}
use Rattle.std.specs.Str.Lines.{lines}
use Rattle.std.specs.Str.Parse.{digits_value}
use Rattle.lisa_engine.specs.ScheduleLine.{Line}
use Rattle.lisa_engine.specs.declared.parts.Item.{Item}
use Rattle.lisa_engine.specs.declared.parts.Setting.{Setting}
use Rattle.lisa_engine.specs.declared.schedule.ScheduleFault.{ScheduleFault}
use Rattle.lisa_engine.specs.declared.schedule.ScheduleFault.TheVariants.{BadLine, UnknownPin, NotRising, PinRange, NoMemory}

-- a number below 2^64 in decimal digits without leading zeros, which is the text of the number that its digits write
abbrev pub decimal_number : List ℕ → Option ℕ
decimal_number word =
    let value = digits_value 10 word in
    if nat_lt value (2 ^ 64) && bytes_eq word (decimal value) then Some value else None

-- a number below 2^64 in hexadecimal digits of either case
abbrev pub hex_number : List ℕ → Option ℕ
hex_number word =
    if nat_lt 0 (length word) && (list_all (λ c. nat_lt (digit_value c) 16) word && nat_lt (digits_value 16 word) (2 ^ 64)) then Some (digits_value 16 word) else None

abbrev pub number_of : List ℕ → Option ℕ
number_of word = if bytes_eq (take 2 word) (codes "0x") then hex_number (drop 2 word) else decimal_number word

-- a name and a number, with the word's last `=` between them
abbrev pub setting_of : List ℕ → Option (List ℕ × ℕ)
setting_of word =
    let name = before_last (λ c. c == 61) word in
    if length name == 0 then None else option_map (λ value. (name, value)) (number_of (after_last (λ c. c == 61) word))

abbrev pub settings_of : List (List ℕ) → Option (List (List ℕ × ℕ))
settings_of [] = Some []
settings_of (word ∷ words) = option_and_then (λ setting. option_map (λ settings. setting ∷ settings) (settings_of words)) (setting_of word)

abbrev pub edge_of : List ℕ → Option ℕ
edge_of word = option_and_then (λ edge. if nat_lt edge (2 ^ 32) then Some edge else None) (number_of word)

-- an edge and one or more settings, with single blanks between
abbrev pub form_of_words : List (List ℕ) → Option (ℕ × List (List ℕ × ℕ))
form_of_words [] = None
form_of_words (edge ∷ []) = None
form_of_words (edge ∷ word ∷ words) = option_and_then (λ edge. option_map (λ settings. (edge, settings)) (settings_of (word ∷ words))) (edge_of edge)

abbrev pub form_of : List ℕ → Option (ℕ × List (List ℕ × ℕ))
form_of text = form_of_words (slice_split (λ c. c == 32) text)

abbrev pub is_named : List ℕ → Item → Bool
is_named name pin = bytes_eq pin.name name

-- one of the settings is of this name
abbrev pub is_set : List (List ℕ × ℕ) → List ℕ → Bool
is_set settings name = list_any (λ setting. bytes_eq setting.0 name) settings

-- a name stands in more than one of the settings, whether a pin has it or not
abbrev pub names_twice : List (List ℕ × ℕ) → Bool
names_twice [] = false
names_twice (setting ∷ settings) = is_set settings setting.0 || names_twice settings

abbrev pub is_unknown : List Item → List ℕ × ℕ → Bool
is_unknown pins setting = not (list_any (is_named setting.0) pins)

-- the setting with its pin's place
abbrev pub placed : List Item → List ℕ × ℕ → Setting
placed pins setting = record { pin = unwrap_or (position (is_named setting.0) pins) 0; value = setting.1 }

abbrev pub name_at : List Item → ℕ → List ℕ
name_at pins place = slice_index_or (map (λ pin. pin.name) pins) place []

abbrev pub width_at : List Item → ℕ → ℕ
width_at pins place = slice_index (map (λ pin. pin.width) pins) place

abbrev pub is_too_wide : List Item → Setting → Bool
is_too_wide pins setting = nat_le (2 ^ width_at pins setting.pin) setting.value

-- the fault that a setting is, where there is one, else the rest
abbrev pub unless : {X : Type 0} → Option X → (X → ScheduleFault) → Result Line ScheduleFault → Result Line ScheduleFault
unless None fault rest = rest
unless (Some x) fault rest = Err (fault x)

-- the line of settings whose names are known
abbrev pub placed_line : List Item → ℕ → ℕ → List Setting → Result Line ScheduleFault
placed_line pins number edge settings =
    unless (find (is_too_wide pins) settings) (λ setting. PinRange number (name_at pins setting.pin) setting.value)
    (Ok (record { edge = edge; settings = settings }))

-- the line with this number, after a line of the edge `before`: the first fault by its kind, and among one kind the first setting
abbrev pub checked_line : List Item → ℕ → ℕ → Option (ℕ × List (List ℕ × ℕ)) → Result Line ScheduleFault
checked_line pins number before None = Err (BadLine number)
checked_line pins number before (Some (edge, settings)) =
    if names_twice settings then Err (BadLine number)
    else unless (find (is_unknown pins) settings) (λ setting. UnknownPin number setting.0)
    (if nat_le edge before then Err (NotRising number) else placed_line pins number edge (map (placed pins) settings))

abbrev pub line_of : List Item → ℕ → ℕ → List ℕ → Result Line ScheduleFault
line_of pins number before text = checked_line pins number before (form_of text)

abbrev pub onto : Line → Result (List Line) ScheduleFault → Result (List Line) ScheduleFault
onto line (Err fault) = Err fault
onto line (Ok lines) = Ok (line ∷ lines)

-- a line and the lines that follow it
abbrev pub followed_by : (Line → Result (List Line) ScheduleFault) → Result Line ScheduleFault → Result (List Line) ScheduleFault
followed_by rest (Err fault) = Err fault
followed_by rest (Ok line) = onto line (rest line)

-- the lines of these texts, of which the first has this number and follows a line of the edge `before`; an empty text is skipped
abbrev pub lines_from : List Item → ℕ → ℕ → List (List ℕ) → Result (List Line) ScheduleFault
lines_from pins number before [] = Ok []
lines_from pins number before (text ∷ texts) =
    if length text == 0 then lines_from pins (number + 1) before texts
    else followed_by (λ line. lines_from pins (number + 1) line.edge texts) (line_of pins number before text)

-- the schedule that the bytes write for these pins, or the fault of its first line with one
abbrev pub schedule_of : List Item → List ℕ → Result (List Line) ScheduleFault
schedule_of pins bytes = lines_from pins 1 0 (lines bytes)

-- the answer, unless memory was wanting
abbrev pub IsUnlessNoMemory : {T : Type 0} → Result T ScheduleFault → Result T ScheduleFault → Type 0
IsUnlessNoMemory expected result = (result ≡ expected) ⊎ (result ≡ Err NoMemory)
