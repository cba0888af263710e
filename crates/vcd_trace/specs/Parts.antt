-- The parts that words make up, one behind the other.
use Rattle.std.specs.Prelude.{ℕ, ◌^◌, ◌==◌, ◌&&◌, ◌||◌, List, [], ◌∷◌, length, drop, codes, nat_lt, Option, Some, None, Bool, true, false, if◌then◌else◌}
use Rattle.std.specs.Char.{digit_value}
use Rattle.std.specs.List.{list_all, prefix_len}
use Rattle.std.specs.Str.{bytes_eq}
use Rattle.std.specs.Str.Parse.{digits_value}
use Rattle.lisa_words.specs.Steps.{◌>>=◌}
use Rattle.lisa_words.specs.Many.{many}
use Rattle.vcd_trace.specs.VcdWords.{Placed, words_from}
use Rattle.vcd_trace.specs.Forms.{Form, ordered_form}
use Rattle.vcd_trace.specs.declared.keywords.Keyword.{Keyword}
use Rattle.vcd_trace.specs.declared.keywords.Keyword.TheVariants as keywords
use Rattle.vcd_trace.specs.declared.parts.Part.{Part}
use Rattle.vcd_trace.specs.declared.parts.Part.TheVariants as parts
use Rattle.vcd_trace.specs.declared.parts.Event.TheVariants as events

abbrev pub is_end : List ℕ → Bool
is_end text = bytes_eq text (codes "$end")

-- what begins a part that is skipped, among the declarations alone
abbrev pub is_note : List ℕ → Bool
is_note text = bytes_eq text (codes "$date") || bytes_eq text (codes "$version") || bytes_eq text (codes "$timescale")

-- what begins a mark
abbrev pub is_mark : List ℕ → Bool
is_mark text = bytes_eq text (codes "$dumpvars") || bytes_eq text (codes "$dumpall") || bytes_eq text (codes "$dumpon")

abbrev pub keyword_of : List ℕ → Keyword
keyword_of text =
    if is_end text then keywords.End
    else (if is_note text then keywords.Note
    else (if bytes_eq text (codes "$comment") then keywords.Comment
    else (if bytes_eq text (codes "$scope") then keywords.Scope
    else (if bytes_eq text (codes "$upscope") then keywords.Upscope
    else (if bytes_eq text (codes "$var") then keywords.Var
    else (if bytes_eq text (codes "$enddefinitions") then keywords.Definitions
    else (if is_mark text then keywords.Mark else keywords.Other)))))))

-- a decimal number below 2 ^ 64, where zeros may lead
abbrev pub numeral_of : List ℕ → Option ℕ
numeral_of text =
    if nat_lt 0 (length text) && (list_all (λ c. nat_lt (digit_value c) 10) text && nat_lt (digits_value 10 text) (2 ^ 64)) then Some (digits_value 10 text) else None

-- the number that binary digits write, where it is below 2 ^ 64
abbrev pub bits_of : List ℕ → Option ℕ
bits_of digits = if nat_lt (digits_value 2 digits) (2 ^ 64) then Some (digits_value 2 digits) else None

-- one binary digit or more
abbrev pub is_binary : List ℕ → Bool
is_binary text = nat_lt 0 (length text) && list_all (λ c. nat_lt (digit_value c) 2) text

abbrev pub is_decimal_digit : ℕ → Bool
is_decimal_digit c = nat_lt (digit_value c) 10

-- what stands behind one decimal digit or more
abbrev pub behind_digits : List ℕ → Option (List ℕ)
behind_digits text = if prefix_len is_decimal_digit text == 0 then None else Some (drop (prefix_len is_decimal_digit text) text)

-- `]` and nothing else
abbrev pub closes_range : Option (List ℕ) → Bool
closes_range None = false
closes_range (Some text) = bytes_eq text (codes "]")

-- `]`, or `:`, decimal digits and `]`
abbrev pub ends_range : List ℕ → Bool
ends_range [] = false
ends_range (c ∷ rest) = if c == 93 then length rest == 0 else (if c == 58 then closes_range (behind_digits rest) else false)

abbrev pub ends_range_if : Option (List ℕ) → Bool
ends_range_if None = false
ends_range_if (Some text) = ends_range text

-- a bit or bits of what is named: `[n]` or `[n:m]`
abbrev pub is_range : List ℕ → Bool
is_range [] = false
is_range (c ∷ rest) = if c == 91 then ends_range_if (behind_digits rest) else false

-- one word, whatever it is
abbrev pub next_of : List Placed → Option (Placed × List Placed)
next_of [] = None
next_of (w ∷ ws) = Some (w, ws)

-- what stands behind a word `$end`
abbrev pub behind_end : List Placed → Option (List Placed)
behind_end ws = next_of ws >>= λ x. if is_end x.0.text then Some x.1 else None

-- what stands behind the first word `$end`
abbrev pub behind_note : List Placed → Option (List Placed)
behind_note [] = None
behind_note (w ∷ ws) = if is_end w.text then Some ws else behind_note ws

-- what stands behind a scope's type, its name and `$end`
abbrev pub behind_scope : List Placed → Option (List Placed)
behind_scope ws = next_of ws >>= λ kind. next_of kind.1 >>= λ name. behind_end name.1

-- what stands behind a range, where there is one, and `$end`
abbrev pub behind_range : List Placed → Option (List Placed)
behind_range ws = next_of ws >>= λ x. if is_end x.0.text then Some x.1 else (if is_range x.0.text then behind_end x.1 else None)

-- a variable's type, width, code, name and perhaps a range, and `$end`
abbrev pub variable_of : List Placed → Option (Part × List Placed)
variable_of ws =
    next_of ws >>= λ kind. next_of kind.1 >>= λ width. next_of width.1 >>= λ code. next_of code.1 >>= λ name.
    numeral_of width.0.text >>= λ bits. behind_range name.1 >>= λ rest.
    Some (parts.Declares (record { code = code.0.text; name = name.0.text; width = bits }), rest)

abbrev pub change_at : ℕ → List ℕ → Option ℕ → Part
change_at at code value = parts.Happens (events.Change (record { at = at; code = code; value = value }))

abbrev pub time_at : ℕ → ℕ → Part
time_at at time = parts.Happens (events.Time (record { at = at; time = time }))

-- `#` and a time
abbrev pub time_of : ℕ → List ℕ → Option Part
time_of at text = numeral_of text >>= λ time. Some (time_at at time)

-- a binary digit and a code
abbrev pub scalar_of : ℕ → ℕ → List ℕ → Option Part
scalar_of at digit code = if length code == 0 then None else Some (change_at at code (bits_of (digit ∷ [])))

-- binary digits, and a code as a word of its own
abbrev pub vector_of : ℕ → List ℕ → List Placed → Option (Part × List Placed)
vector_of at digits ws = if is_binary digits then (next_of ws >>= λ code. Some (change_at at code.0.text (bits_of digits), code.1)) else None

-- a part, and the words behind it
abbrev pub with_words : List Placed → Option Part → Option (Part × List Placed)
with_words ws None = None
with_words ws (Some part) = Some (part, ws)

abbrev pub event_by : ℕ → ℕ → List ℕ → List Placed → Option (Part × List Placed)
event_by at sign text ws =
    if sign == 35 then with_words ws (time_of at text)
    else (if sign == 48 || sign == 49 then with_words ws (scalar_of at sign text)
    else (if sign == 98 || sign == 66 then vector_of at text ws else None))

-- a time or a change, by the first byte of its word: `#`, a digit, or `b` of either case
abbrev pub event_of : ℕ → List ℕ → List Placed → Option (Part × List Placed)
event_of at [] ws = None
event_of at (sign ∷ text) ws = event_by at sign text ws

-- the part, without more words
abbrev pub with_rest : Part → Option (List Placed) → Option (Part × List Placed)
with_rest part None = None
with_rest part (Some rest) = Some (part, rest)

-- the part that a word begins, by what the word is
abbrev pub part_by : Keyword → Placed → List Placed → Option (Part × List Placed)
part_by keywords.End w ws = Some (parts.Ends, ws)
part_by keywords.Note w ws = with_rest parts.Note (behind_note ws)
part_by keywords.Comment w ws = with_rest parts.Comment (behind_note ws)
part_by keywords.Scope w ws = with_rest parts.Opens (behind_scope ws)
part_by keywords.Upscope w ws = with_rest parts.Closes (behind_end ws)
part_by keywords.Var w ws = variable_of ws
part_by keywords.Definitions w ws = with_rest parts.Definitions (behind_end ws)
part_by keywords.Mark w ws = Some (parts.Begins, ws)
part_by keywords.Other w ws = event_of w.at w.text ws

abbrev pub part_of : List Placed → Option (Part × List Placed)
part_of [] = None
part_of (w ∷ ws) = part_by (keyword_of w.text) w ws

abbrev pub is_over : List Placed → Bool
is_over [] = true
is_over (w ∷ ws) = false

-- the form of the whole, where the words are parts that stand where they may
abbrev pub form_of_read : Option (List Part × List Placed) → Option Form
form_of_read None = None
form_of_read (Some x) = ordered_form x.0

-- the variables, times and changes that the bytes spell, where they are a dump of two-valued variables
unfoldable pub form_of : List ℕ → Option Form
form_of bytes = form_of_read (many part_of is_over (words_from 0 bytes))
