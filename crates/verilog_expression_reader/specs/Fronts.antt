-- Expressions at the front of a list of tokens.
use Rattle.std.specs.Prelude.{◌≡◌, ℕ, ◌≤◌, List, ◌++◌, Result, Ok, Err}
use Rattle.std.specs.Borrow.{Bor}
use Rattle.verilog_text.specs.declared.tokens.VToken.{VToken}
use Rattle.verilog_places.specs.Trees.{PlacedTree}
use Rattle.verilog_places.specs.Spelling.{PlacedToks, SpellsPlaced}
use Rattle.verilog_expression_reader.specs.declared.misses.Missed.{Missed}
use Rattle.verilog_expression_reader.specs.declared.misses.Missed.TheVariants as missed
use Rattle.verilog_expression_reader.specs.declared.depths.Measured.{Measured}
use Rattle.verilog_expression_reader.specs.Reading.{depth}
use Rattle.verilog_expression_reader.specs.Gives.{seen}

-- the tokens before the rest spell the expression, and it is this deep at most
pub record IsFront (n : ℕ) (ts : PlacedToks) (e : PlacedTree) (rest : PlacedToks) : Type 0 where
  pub front : PlacedToks
  pub whole : ts ≡ front ++ rest
  pub spells : SpellsPlaced 0 front e
  pub deep : depth e ≤ n

-- unless memory runs out, this expression and this rest are the answer
abbrev pub IsAnswer : PlacedTree → PlacedToks → Result (Measured × Bor (List VToken)) Missed → Type 0
IsAnswer e rest (Ok x) = seen x ≡ (e, rest)
IsAnswer e rest (Err missed.NoMemory) = Unit {0}
IsAnswer e rest (Err (missed.At left)) = ⊥
