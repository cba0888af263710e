-- Actions at the front of tokens.
use Rattle.std.specs.Prelude.{◌≡◌, ℕ, ◌≤◌, Bool, true, false, List, [], ◌∷◌, ◌++◌}
use Rattle.verilog_text.specs.declared.tokens.VKeyword.TheVariants as words
use Rattle.verilog_text.specs.Tokens as tokens
use Rattle.verilog_text.specs.Trees.{actions_depth}
use Rattle.verilog_places.specs.Trees.{PlacedActions, bare_actions}
use Rattle.verilog_places.specs.Spelling.{PlacedToks, SpellsPlacedAction}

-- no `else` stands at the front
abbrev pub not_else : PlacedToks → Bool
not_else ((at, tokens.Reserved words.Else) ∷ ts) = false
not_else _ = true

-- These tokens before, and what was taken from the front, spell the action.
pub record TakesAction (n : ℕ) (before ts : PlacedToks) (x : PlacedActions × PlacedToks) : Type 0 where
  pub front : PlacedToks
  pub parts : ts ≡ front ++ x.1
  pub closed : Bool
  pub spells : SpellsPlacedAction closed (before ++ front) x.0
  pub free : closed ≡ false → not_else x.1 ≡ true
  pub deep : actions_depth (bare_actions x.0) ≤ n
