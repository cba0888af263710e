-- SEMANTICS sections that close the brackets that they open, and no others: such a section leaves no trace in the count of open
-- brackets, as it leaves none in the tree.
use Rattle.std.specs.Prelude.{◌≡◌, ℕ, ◌++◌, fold}
use Rattle.lisa_tree.specs.declared.tokens.Keyword.TheVariants as keywords
use Rattle.lisa_tree.specs.Grammar.{Toks}
use Rattle.lisa_tree.specs.DescriptionGrammar.{IsBalanced, braced}
use Rattle.lisa_tree.specs.Brackets.{open_after}

-- however many brackets are open before the tokens, as many are open behind them
abbrev pub ClosesItself : Toks → Type 0
ClosesItself ts = (n : ℕ) → fold open_after n ts ≡ n

abbrev pub HasEvenSemantics : Toks → Type 0
HasEvenSemantics ts = (before xs after : Toks) → ts ≡ before ++ (braced keywords.Semantics xs ++ after) → IsBalanced xs → ClosesItself xs
