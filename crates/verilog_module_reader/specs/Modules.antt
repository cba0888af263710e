-- Reading a whole module, whose expressions and actions are at most so deep.
use Rattle.std.specs.Prelude.{ℕ, Bool, true, false, if◌then◌else◌, List, [], ◌∷◌, Option, Some, None}
use Rattle.lisa_words.specs.Steps.{◌>>=◌}
use Rattle.verilog_text.specs.declared.tokens.VKeyword.TheVariants as words
use Rattle.verilog_text.specs.declared.tokens.VSign.TheVariants as signs
use Rattle.verilog_text.specs.Tokens as tokens
use Rattle.verilog_places.specs.declared.modules.PlacedInput.{PlacedInput}
use Rattle.verilog_places.specs.Spelling.{PlacedToks}
use Rattle.verilog_places.specs.Trees.{PlacedMemberTree, PlacedModuleTree}
use Rattle.verilog_expression_reader.specs.Past.{past_of}
use Rattle.verilog_action_reader.specs.Reading.{name_of}
use Rattle.verilog_module_reader.specs.Parts.{Reads, without_wire, inputs_of}
use Rattle.verilog_module_reader.specs.Members.{members_of}

-- `module name ( input`: the name
abbrev pub opening_of : Reads (List ℕ)
opening_of ((p, tokens.Reserved words.Module) ∷ (q, tokens.Named name) ∷ (r, tokens.Mark signs.OpenRound) ∷ (s, tokens.Reserved words.Input) ∷ ts) = Some (name, ts)
opening_of _ = None

-- the pins: the clock and the inputs after it
unfoldable pub pins_of : Reads (List ℕ × List PlacedInput)
pins_of ts = name_of (without_wire ts) >>= λ clock. inputs_of clock.1 >>= λ inputs. past_of signs.CloseRound inputs.1 >>= λ a. past_of signs.Semicolon a >>= λ rest. Some ((clock.0, inputs.0), rest)

-- `endmodule` and no more
abbrev pub is_end : PlacedToks → Bool
is_end ((p, tokens.Reserved words.EndModule) ∷ []) = true
is_end _ = false

abbrev pub whole_module : List ℕ → List ℕ × List PlacedInput → List PlacedMemberTree → PlacedModuleTree
whole_module name pins members = record { name = name; clock = pins.0; inputs = pins.1; members = members }

unfoldable pub module_of : ℕ → PlacedToks → Option PlacedModuleTree
module_of n ts = opening_of ts >>= λ name. pins_of name.1 >>= λ pins. members_of n pins.1 >>= λ members. if is_end members.1 then Some (whole_module name.0 pins.0 members.0) else None
