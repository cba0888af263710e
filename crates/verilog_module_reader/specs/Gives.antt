-- What the readers of the parts of a module answer.
use Rattle.std.specs.Prelude.{ℕ, List, map, Option, Some, None}
use Rattle.std.specs.Borrow.{Bor}
use Rattle.std.specs.Global.{Vec}
use Rattle.lisa_words.specs.declared.words.Word.{Word}
use Rattle.verilog_text.specs.declared.tokens.VToken.{VToken}
use Rattle.verilog_text.specs.Trees.{SettingTree, setting_tree}
use Rattle.verilog_places.specs.declared.modules.PlacedInput.{PlacedInput}
use Rattle.verilog_places.specs.declared.modules.PlacedMember.{PlacedMember}
use Rattle.verilog_places.specs.Spelling.{PlacedToks}
use Rattle.verilog_places.specs.Trees.{PlacedMemberTree, placed_member}
use Rattle.verilog_expression_reader.specs.Past.{placed_toks}

-- a value that is as it is, and the tokens behind it
abbrev pub seen_plain : {A : Type 0} → A × Bor (List VToken) → A × PlacedToks
seen_plain x = (x.0, placed_toks x.1.now)

abbrev pub seen_list : {A : Type 0} → Vec A × Bor (List VToken) → List A × PlacedToks
seen_list x = (x.0.items, placed_toks x.1.now)

abbrev pub seen_setting : (List ℕ × Word) × Bor (List VToken) → SettingTree × PlacedToks
seen_setting x = (setting_tree x.0, placed_toks x.1.now)

abbrev pub seen_settings : Vec (List ℕ × Word) × Bor (List VToken) → List SettingTree × PlacedToks
seen_settings x = (map setting_tree x.0.items, placed_toks x.1.now)

abbrev pub seen_member : PlacedMember × Bor (List VToken) → PlacedMemberTree × PlacedToks
seen_member x = (placed_member x.0, placed_toks x.1.now)

abbrev pub seen_members : Vec PlacedMember × Bor (List VToken) → List PlacedMemberTree × PlacedToks
seen_members x = (map placed_member x.0.items, placed_toks x.1.now)

abbrev pub seen_pins : (List ℕ × Vec PlacedInput) × Bor (List VToken) → (List ℕ × List PlacedInput) × PlacedToks
seen_pins x = ((x.0.0, x.0.1.items), placed_toks x.1.now)
