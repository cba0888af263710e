-- The levels of operators in both languages: operands are unary expressions, and operators stand as their signs.
use Rattle.std.specs.Prelude.{ℕ}
use Rattle.lisa_words.specs.Levels.{Level}
use Rattle.lisa_tree.specs.Operators.{sign_of}
use Rattle.lisa_tree.specs.Expressions as expressions
use Rattle.lisa_tree.specs.Expressions.{ExprTree}
use Rattle.lisa_tree.specs.Grammar.{Toks, mark, SpellsExpr}
use Rattle.verilog_text.specs.Trees as trees
use Rattle.verilog_text.specs.Trees.{VTree}
use Rattle.verilog_text.specs.Tokens.{VToks, Mark}
use Rattle.verilog_text.specs.Grammar.{vsign_of, SpellsVExpr}

-- in a behaviour
abbrev pub IsGrouped : ℕ → Toks → ExprTree → Type 0
IsGrouped level ts t = Level (SpellsExpr 11) (λ o. mark (sign_of o)) expressions.Two level ts t

-- in a module
abbrev pub IsVGrouped : ℕ → VToks → VTree → Type 0
IsVGrouped level ts t = Level (SpellsVExpr 11) (λ o. Mark (vsign_of o)) trees.Two level ts t
