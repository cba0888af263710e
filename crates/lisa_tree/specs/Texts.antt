-- Which bytes spell which description.
use Rattle.std.specs.Prelude.{ℕ, ◌≤◌, List}
use Rattle.lisa_tree.specs.declared.tokens.Token.{Token}
use Rattle.lisa_tree.specs.Tokens.{Lexes, toks}
use Rattle.lisa_tree.specs.Brackets.{IsFlat}
use Rattle.lisa_tree.specs.Descriptions.{DescriptionTree, description_depth}
use Rattle.lisa_tree.specs.DescriptionGrammar.{SpellsDescription}

-- the bytes are gaps and longest tokens, at most 64 brackets are open at any token, the tokens spell the tree, and its depth is at
-- most 128
pub record SpellsText (bytes : List ℕ) (d : DescriptionTree) : Type 0 where
  pub tokens : List Token
  pub lexes : Lexes 0 bytes tokens
  pub flat : IsFlat (toks tokens)
  pub spells : SpellsDescription (toks tokens) d
  pub shallow : description_depth d ≤ 128
