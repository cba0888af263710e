-- What a reader answers, by what reading a list gives.
use Rattle.std.specs.Prelude.{◌≡◌, ◌≤◌, ℕ, List, Option, Some, None, Result, Ok, Err}
use Rattle.std.specs.Borrow.{Bor}
use Rattle.verilog_text.specs.declared.tokens.VToken.{VToken}
use Rattle.verilog_places.specs.Trees.{PlacedTree, Join, placed_tree, placed_trees}
use Rattle.verilog_places.specs.Spelling.{PlacedToks}
use Rattle.verilog_expression_reader.specs.Past.{placed_toks}
use Rattle.verilog_expression_reader.specs.declared.misses.Missed.{Missed}
use Rattle.verilog_expression_reader.specs.declared.misses.Missed.TheVariants as missed
use Rattle.verilog_expression_reader.specs.declared.depths.Measured.{Measured}
use Rattle.verilog_expression_reader.specs.declared.depths.MeasuredParts.{MeasuredParts}

-- an error is want of memory, or nothing could be read
abbrev pub Fails : {Y : Type 0} → Missed → Option Y → Type 0
Fails missed.NoMemory read = Unit {0}
Fails (missed.At left) read = read ≡ None

-- what a function answered, seen by view, is what reading gives
abbrev pub Gives : {X Y : Type 0} → (X → Y) → Result X Missed → Option Y → Type 0
Gives view (Ok x) read = read ≡ Some (view x)
Gives view (Err e) read = Fails e read

-- where something was missed, this many tokens are left at most
abbrev pub IsLeft : ℕ → Missed → Type 0
IsLeft n missed.NoMemory = Unit {0}
IsLeft n (missed.At left) = left ≤ n

abbrev pub measured_tree : Measured → PlacedTree
measured_tree m = placed_tree m.tree

-- a tree, and the tokens behind it
abbrev pub seen : Measured × Bor (List VToken) → PlacedTree × PlacedToks
seen x = (placed_tree x.0.tree, placed_toks x.1.now)

-- a concatenation, which has no place yet, and the tokens behind its last part
abbrev pub seen_parts : MeasuredParts × Bor (List VToken) → PlacedTree × PlacedToks
seen_parts x = (Join 0 (placed_trees x.0.parts.items), placed_toks x.1.now)
