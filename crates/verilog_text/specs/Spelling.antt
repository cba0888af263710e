-- Which bytes spell which module.
use Rattle.std.specs.Prelude.{ℕ, suc, ◌-◌, ◌≤◌, List, [], ◌∷◌, map, max, Option, Some, None, nat_lt, if◌then◌else◌}
use Rattle.verilog_text.specs.declared.tokens.VSign.{VSign}
use Rattle.verilog_text.specs.declared.tokens.VSign.TheVariants as signs
use Rattle.verilog_text.specs.Tokens.{VTok, VToks, Mark}
use Rattle.verilog_text.specs.Trees.{ModuleTree, members_depth}
use Rattle.verilog_text.specs.Grammar.{SpellsModule}
use Rattle.verilog_text.specs.Lexing.{Lexes}

-- how many brackets are open at a sign: an opening bracket counts at itself, and a closing one closes one of whatever sort
abbrev pub open_at : ℕ → VSign → ℕ
open_at n signs.OpenRound = suc n
open_at n signs.OpenSquare = suc n
open_at n signs.OpenBrace = suc n
open_at n signs.CloseRound = n - 1
open_at n signs.CloseSquare = n - 1
open_at n signs.CloseBrace = n - 1
open_at n _ = n

abbrev pub open_after : ℕ → VTok → ℕ
open_after n (Mark sign) = open_at n sign
open_after n _ = n

-- the greatest number of brackets that are open at a token, where so many are open before
abbrev pub most_open : ℕ → VToks → ℕ
most_open n [] = n
most_open n (tok ∷ ts) = max n (most_open (open_after n tok) ts)

-- the first token at which more than 64 brackets are open
abbrev pub first_deep : ℕ → List (ℕ × VTok) → Option ℕ
first_deep n [] = None
first_deep n ((at, tok) ∷ ts) = if nat_lt 64 (open_after n tok) then Some at else first_deep (open_after n tok) ts

-- the bytes are blanks, comments and longest tokens, at most 64 brackets are open at any token, and the tokens spell the module,
-- whose depth is at most 128
pub record VSpells (bytes : List ℕ) (m : ModuleTree) : Type 0 where
  pub tokens : List (ℕ × VTok)
  pub lexes : Lexes 0 bytes tokens
  pub shallow : most_open 0 (map (λ (t : ℕ × VTok). t.1) tokens) ≤ 64
  pub spells : SpellsModule (map (λ (t : ℕ × VTok). t.1) tokens) m
  pub deep : members_depth m.members ≤ 128
