-- Reading the members of a module, whose expressions and actions are at most so deep.
use Rattle.std.specs.Prelude.{ℕ, Bool, true, false, List, [], ◌∷◌, drop, Option, Some, None}
use Rattle.lisa_engine.specs.declared.parts.ArrayItem.{ArrayItem}
use Rattle.lisa_words.specs.Many.{many}
use Rattle.lisa_words.specs.Steps.{◌>>=◌}
use Rattle.verilog_text.specs.declared.tokens.VKeyword.TheVariants as words
use Rattle.verilog_text.specs.declared.tokens.VSign.TheVariants as signs
use Rattle.verilog_text.specs.Tokens as tokens
use Rattle.verilog_places.specs.Spelling.{PlacedToks}
use Rattle.verilog_places.specs.Trees as placed
use Rattle.verilog_places.specs.Trees.{PlacedMemberTree}
use Rattle.verilog_expression_reader.specs.Past.{past_of}
use Rattle.verilog_action_reader.specs.Reading.{name_of, expr, action, actions}
use Rattle.verilog_module_reader.specs.Parts.{Reads, range_of, depth_of, item, setting_of, settings_of}

abbrev pub array : List ℕ → (width depth : ℕ) → ArrayItem
array name width depth = record { name = name; width = width; depth = depth }

-- behind the range and the name of a `reg`
abbrev pub sized_of : ℕ × ℕ → List ℕ → Reads PlacedMemberTree
sized_of range name ((p, tokens.Mark signs.Semicolon) ∷ ts) = Some (placed.Reg range.0 (item name range.1), ts)
sized_of range name ts = depth_of ts >>= λ d. Some (placed.Array range.0 (array name range.1 d.0), d.1)

-- behind `reg`
unfoldable pub reg_of : Reads PlacedMemberTree
reg_of ts = range_of ts >>= λ range. name_of range.1 >>= λ name. sized_of range.0 name.0 name.1

-- behind `wire`
unfoldable pub wire_of : ℕ → Reads PlacedMemberTree
wire_of n ts =
    range_of ts >>= λ range. name_of range.1 >>= λ name. past_of signs.Equal name.1 >>= λ a. expr n a >>= λ value. past_of signs.Semicolon value.1 >>= λ rest. Some (placed.Wire range.0.0 (item name.0 range.0.1) value.0, rest)

-- the tokens behind an `end`
abbrev pub past_end : PlacedToks → Option PlacedToks
past_end ((p, tokens.Reserved words.End) ∷ ts) = Some ts
past_end _ = None

-- behind `initial begin`
unfoldable pub block_of : Reads PlacedMemberTree
block_of ts = settings_of ts >>= λ all. past_end all.1 >>= λ rest. Some (placed.Initial all.0, rest)

-- one first value
unfoldable pub lone_of : Reads PlacedMemberTree
lone_of ts = setting_of ts >>= λ setting. Some (placed.Initial (setting.0 ∷ []), setting.1)

-- behind `initial`
unfoldable pub initial_of : Reads PlacedMemberTree
initial_of ((p, tokens.Reserved words.Begin) ∷ ts) = block_of ts
initial_of ts = lone_of ts

-- `@ ( posedge name )`
abbrev pub edge_of : Reads (List ℕ)
edge_of ((p, tokens.Mark signs.At) ∷ (q, tokens.Mark signs.OpenRound) ∷ (r, tokens.Reserved words.PosEdge) ∷ (s, tokens.Named edge) ∷ (t, tokens.Mark signs.CloseRound) ∷ ts) = Some (edge, ts)
edge_of _ = None

-- behind `always`
unfoldable pub always_of : ℕ → Reads PlacedMemberTree
always_of n ts = edge_of ts >>= λ edge. actions (action n edge.1) >>= λ all. Some (placed.Always edge.0 all.0, all.1)

unfoldable pub member_of : ℕ → Reads PlacedMemberTree
member_of n ((p, tokens.Reserved words.Reg) ∷ ts) = reg_of ts
member_of n ((p, tokens.Reserved words.Wire) ∷ ts) = wire_of n ts
member_of n ((p, tokens.Reserved words.Initial) ∷ ts) = initial_of ts
member_of n ((p, tokens.Reserved words.Always) ∷ ts) = always_of n ts
member_of n _ = None

-- `endmodule` stands in front
abbrev pub ends_module : PlacedToks → Bool
ends_module ((p, tokens.Reserved words.EndModule) ∷ ts) = true
ends_module _ = false

unfoldable pub members_of : ℕ → Reads (List PlacedMemberTree)
members_of n ts = many (member_of n) ends_module ts
