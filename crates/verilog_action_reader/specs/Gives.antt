-- What the readers of actions answer.
use Rattle.std.specs.Prelude.{ℕ, List, Option, Some, None}
use Rattle.std.specs.Borrow.{Bor}
use Rattle.std.specs.Global.{Vec}
use Rattle.lisa_words.specs.Steps.{◌>>=◌}
use Rattle.verilog_text.specs.declared.tokens.VToken.{VToken}
use Rattle.verilog_places.specs.Spelling.{PlacedToks}
use Rattle.verilog_expression_reader.specs.Past.{placed_toks}
use Rattle.verilog_places.specs.declared.modules.PlacedAction.{PlacedAction}
use Rattle.verilog_places.specs.Trees as placed
use Rattle.verilog_places.specs.declared.expressions.PlacedExpr.{PlacedExpr}
use Rattle.verilog_places.specs.Trees.{PlacedTree, placed_tree, PlacedActions, action_then, placed_actions, joined}

abbrev pub seen_name : List ℕ × Bor (List VToken) → List ℕ × PlacedToks
seen_name x = (x.0, placed_toks x.1.now)

abbrev pub seen_expr : PlacedExpr × Bor (List VToken) → PlacedTree × PlacedToks
seen_expr x = (placed_tree x.0, placed_toks x.1.now)

abbrev pub seen_rest : Option (Bor (List VToken)) → Option PlacedToks
seen_rest (Some rest) = Some (placed_toks rest.now)
seen_rest None = None

abbrev pub seen_group : Option (ℕ × Bor (List VToken)) → Option (ℕ × PlacedToks)
seen_group (Some x) = Some (x.0, placed_toks x.1.now)
seen_group None = None

-- one action, as a list of it alone
abbrev pub alone : PlacedAction → PlacedActions
alone a = action_then a placed.Done

abbrev pub seen_action : PlacedAction × Bor (List VToken) → PlacedActions × PlacedToks
seen_action x = (alone x.0, placed_toks x.1.now)

abbrev pub seen_actions : Vec PlacedAction × Bor (List VToken) → PlacedActions × PlacedToks
seen_actions x = (placed_actions x.0.items, placed_toks x.1.now)

-- what was read before, and what is still read
abbrev pub with_front : PlacedActions → Option (PlacedActions × PlacedToks) → Option (PlacedActions × PlacedToks)
with_front front read = read >>= λ x. Some (joined front x.0, x.1)
