-- Reading ranges, inputs and first values.
use Rattle.std.specs.Prelude.{ℕ, suc, ◌+◌, Bool, true, false, not, List, [], ◌∷◌, Option, Some, None, nat_lt, ◌==◌, ◌&&◌, if◌then◌else◌}
use Rattle.lisa_engine.specs.declared.parts.Item.{Item}
use Rattle.lisa_words.specs.Many.{Item as Read, many}
use Rattle.lisa_words.specs.Steps.{◌>>=◌}
use Rattle.verilog_text.specs.declared.tokens.VKeyword.TheVariants as words
use Rattle.verilog_text.specs.declared.tokens.VSign.TheVariants as signs
use Rattle.verilog_text.specs.Tokens as tokens
use Rattle.verilog_text.specs.Tokens.{VTok}
use Rattle.verilog_text.specs.Trees.{SettingTree}
use Rattle.verilog_places.specs.declared.modules.PlacedInput.{PlacedInput}
use Rattle.verilog_places.specs.Spelling.{PlacedToks}
use Rattle.verilog_expression_reader.specs.Past.{past_of}
use Rattle.verilog_action_reader.specs.Reading.{name_of}

-- a value and the tokens behind it
abbrev pub Reads : Type 0 → Type 0
Reads A = Read (ℕ × VTok) A

-- the digits are `0`, and one more than the number is below 2 ^ 32
abbrev pub is_zero_to : (low digits high : ℕ) → Bool
is_zero_to low digits high = low == 0 && digits == 1 && nat_lt high 4294967295

-- the place and the width of a range, which may be absent
abbrev pub range_of : Reads (ℕ × ℕ)
range_of ((at, tokens.Mark signs.OpenSquare) ∷ (p, tokens.Plain high digits) ∷ (q, tokens.Mark signs.Colon) ∷ (r, tokens.Plain low more) ∷ (s, tokens.Mark signs.CloseSquare) ∷ ts) =
    if is_zero_to low more high then Some ((at, high + 1), ts) else None
range_of ((at, tokens.Mark signs.OpenSquare) ∷ ts) = None
range_of ts = Some ((0, 1), ts)

-- `[0:last]`: how many cells
abbrev pub cells_of : Reads ℕ
cells_of ((p, tokens.Mark signs.OpenSquare) ∷ (q, tokens.Plain low more) ∷ (r, tokens.Mark signs.Colon) ∷ (s, tokens.Plain last digits) ∷ (t, tokens.Mark signs.CloseSquare) ∷ ts) =
    if is_zero_to low more last then Some (last + 1, ts) else None
cells_of _ = None

-- `[0:last];`
unfoldable pub depth_of : Reads ℕ
depth_of ts = cells_of ts >>= λ d. past_of signs.Semicolon d.1 >>= λ rest. Some (d.0, rest)

-- the tokens without a `wire` that may stand in front
abbrev pub without_wire : PlacedToks → PlacedToks
without_wire ((at, tokens.Reserved words.Wire) ∷ ts) = ts
without_wire ts = ts

abbrev pub item : List ℕ → ℕ → Item
item name width = record { name = name; width = width }

abbrev pub input : ℕ × ℕ → List ℕ → PlacedInput
input range name = record { range = range.0; item = item name range.1 }

-- behind `, input`
unfoldable pub behind_input : Reads PlacedInput
behind_input ts = range_of (without_wire ts) >>= λ range. name_of range.1 >>= λ name. Some (input range.0 name.0, name.1)

-- an input, behind a comma
abbrev pub input_of : Reads PlacedInput
input_of ((p, tokens.Mark signs.Comma) ∷ (q, tokens.Reserved words.Input) ∷ ts) = behind_input ts
input_of _ = None

abbrev pub has_comma : PlacedToks → Bool
has_comma ((p, tokens.Mark signs.Comma) ∷ ts) = true
has_comma _ = false

abbrev pub ends_inputs : PlacedToks → Bool
ends_inputs ts = not (has_comma ts)

unfoldable pub inputs_of : Reads (List PlacedInput)
inputs_of ts = many input_of ends_inputs ts

-- `name = number;`
abbrev pub setting_of : Reads SettingTree
setting_of ((p, tokens.Named name) ∷ (q, tokens.Mark signs.Equal) ∷ (r, tokens.Sized width value) ∷ (s, tokens.Mark signs.Semicolon) ∷ ts) = Some (record { name = name; width = width; value = value }, ts)
setting_of _ = None

-- the `end` of first values
abbrev pub at_end : PlacedToks → Bool
at_end ((p, tokens.Reserved words.End) ∷ ts) = true
at_end _ = false

unfoldable pub settings_of : Reads (List SettingTree)
settings_of ts = many setting_of at_end ts
