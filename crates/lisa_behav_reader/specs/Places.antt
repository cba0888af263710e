-- Expressions and statements in a list of tokens, up to a token that closes them.
use Rattle.std.specs.Prelude.{◌≡◌, ℕ, ◌-◌, ◌≤◌, Bool, true, false, List, [], ◌∷◌, take, drop, IsTrue, Result, Ok, Err, ◌⊎◌}
use Rattle.lisa_tree.specs.declared.tokens.Token.{Token}
use Rattle.lisa_tree.specs.declared.tokens.Sign.TheVariants as signs
use Rattle.lisa_tree.specs.declared.tokens.TokenPart.TheVariants as parts
use Rattle.lisa_tree.specs.declared.faults.DescFault.{DescFault}
use Rattle.lisa_tree.specs.declared.faults.DescFault.TheVariants as faults
use Rattle.lisa_tree.specs.Expressions.{ExprTree, expr_depth}
use Rattle.lisa_tree.specs.Statements.{StmtTrees, stmts_depth}
use Rattle.lisa_tree.specs.Grammar.{Toks, SpellsExpr, SpellsStmts}

-- the first token closes an expression
abbrev pub closes : Toks → Bool
closes (parts.Sign signs.Semicolon ∷ ts) = true
closes (parts.Sign signs.CloseRound ∷ ts) = true
closes (parts.Sign signs.CloseSquare ∷ ts) = true
closes (parts.Sign signs.CloseBrace ∷ ts) = true
closes _ = false

-- the first token closes a list of statements
abbrev pub closes_block : Toks → Bool
closes_block (parts.Sign signs.CloseBrace ∷ ts) = true
closes_block _ = false

-- The tokens from one place up to another spell this, it is 128 deep at most, and the next token closes it.
pub record IsUpTo {A : Type 0} (Spells : Toks → A → Type 0) (depth : A → ℕ) (ends : Toks → Bool) (ts : Toks) (from to : ℕ) (a : A) : Type 0 where
  pub order : from ≤ to
  pub spells : Spells (take (to - from) (drop from ts)) a
  pub deep : depth a ≤ 128
  pub closed : IsTrue (ends (drop to ts))

abbrev pub IsExpression : Toks → ℕ → ℕ → ExprTree → Type 0
IsExpression ts from to t = IsUpTo (SpellsExpr 0) expr_depth closes ts from to t

abbrev pub AreStatements : Toks → ℕ → ℕ → StmtTrees → Type 0
AreStatements ts from to all = IsUpTo SpellsStmts stmts_depth closes_block ts from to all

-- unless memory runs out, this, seen by view, and this place are the answer
abbrev pub IsRead : {X A : Type 0} → (X → A) → A → ℕ → Result (X × ℕ) DescFault → Type 0
IsRead view a to (Ok x) = (view x.0 ≡ a) × (x.1 ≡ to)
IsRead view a to (Err faults.NoMemory) = Unit {0}
IsRead view a to (Err _) = ⊥

-- it is the place of some token
abbrev pub IsPlace : ℕ → List Token → Type 0
IsPlace at [] = ⊥
IsPlace at (token ∷ tokens) = (token.at ≡ at) ⊎ IsPlace at tokens

-- the fault is want of memory, or that no description stands there, at some token or at 0
abbrev pub IsMiss : List Token → DescFault → Type 0
IsMiss tokens faults.NoMemory = Unit {0}
IsMiss tokens (faults.NotADescription at) = (at ≡ 0) ⊎ IsPlace at tokens
IsMiss tokens _ = ⊥
