-- What a reader answers, by what reading a list gives.
use Rattle.std.specs.Prelude.{◌≡◌, ◌≤◌, ℕ, List, Option, Some, None, Result, Ok, Err}
use Rattle.std.specs.Borrow.{Bor}
use Rattle.lisa_tree.specs.declared.tokens.Token.{Token}
use Rattle.lisa_tree.specs.Expressions.{ExprTree, expr_tree}
use Rattle.lisa_tree.specs.Grammar.{Toks}
use Rattle.lisa_tree.specs.Tokens.{toks}
use Rattle.lisa_behav_reader.specs.declared.misses.Missed.{Missed}
use Rattle.lisa_behav_reader.specs.declared.misses.Missed.TheVariants as missed
use Rattle.lisa_behav_reader.specs.declared.depths.Measured.{Measured}

-- an error is want of memory, or nothing could be read
abbrev pub Fails : {Y : Type 0} → Missed → Option Y → Type 0
Fails missed.NoMemory read = Unit {0}
Fails (missed.At left) read = read ≡ None

-- what a function answered, seen by view, is what reading gives
abbrev pub Gives : {X Y : Type 0} → (X → Y) → Result X Missed → Option Y → Type 0
Gives view (Ok x) read = read ≡ Some (view x)
Gives view (Err e) read = Fails e read

-- where something was missed, this many tokens are left at most
abbrev pub IsLeft : ℕ → Missed → Type 0
IsLeft n missed.NoMemory = Unit {0}
IsLeft n (missed.At left) = left ≤ n

abbrev pub measured_tree : Measured → ExprTree
measured_tree m = expr_tree m.tree

-- a tree, and the tokens behind it
abbrev pub seen : Measured × Bor (List Token) → ExprTree × Toks
seen x = (expr_tree x.0.tree, toks x.1.now)
