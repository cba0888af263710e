-- When a module is answered, and when not.
use Rattle.std.specs.Prelude.{◌≡◌, ℕ, ◌^◌, ◌<◌, ◌≤◌, List, [], ◌∷◌, Result, Ok, Err, ◌⊎◌}
use Rattle.verilog_text.specs.declared.faults.VerilogFault.{VerilogFault}
use Rattle.verilog_text.specs.declared.faults.VerilogFault.TheVariants as faults
use Rattle.verilog_text.specs.declared.tokens.VToken.{VToken}
use Rattle.verilog_expression_reader.specs.declared.misses.Missed.{Missed}
use Rattle.verilog_expression_reader.specs.declared.misses.Missed.TheVariants as missed
use Rattle.verilog_text.specs.Tokens as tokens
use Rattle.verilog_text.specs.Trees.{members_depth}
use Rattle.verilog_places.specs.declared.modules.PlacedModule.{PlacedModule}
use Rattle.verilog_places.specs.Spelling.{PlacedToks, SpellsPlacedModule}
use Rattle.verilog_places.specs.Trees.{PlacedModuleTree, placed_module, bare_module}

-- each number without a size is below 2 ^ 31, as in the tokens of a text
abbrev pub PlainsFit : PlacedToks → Type 0
PlainsFit [] = Unit {0}
PlainsFit ((at, tokens.Plain value digits) ∷ ts) = (value < 2 ^ 31) × PlainsFit ts
PlainsFit (_ ∷ ts) = PlainsFit ts

-- the tokens spell the module, which is at most 128 deep
pub record IsModule (ts : PlacedToks) (m : PlacedModuleTree) : Type 0 where
  pub spells : SpellsPlacedModule ts m
  pub deep : members_depth (bare_module m).members ≤ 128

-- unless memory runs out, this is the answer
abbrev pub IsRead : PlacedModuleTree → Result PlacedModule VerilogFault → Type 0
IsRead m (Ok x) = placed_module x ≡ m
IsRead m (Err fault) = fault ≡ faults.NoMemory

-- the fault that stands for what was missed
abbrev pub Turned : Missed → VerilogFault → Type 0
Turned missed.NoMemory fault = fault ≡ faults.NoMemory
Turned (missed.At left) fault = ((at : ℕ) × (fault ≡ faults.NotInSubset at))

-- it is the place of some token
abbrev pub IsPlace : ℕ → List VToken → Type 0
IsPlace at [] = ⊥
IsPlace at (token ∷ ts) = (token.at ≡ at) ⊎ IsPlace at ts

-- the fault is want of memory, or that the tokens spell no module, at some token or at 0
abbrev pub IsMiss : List VToken → VerilogFault → Type 0
IsMiss ts faults.NoMemory = Unit {0}
IsMiss ts (faults.NotInSubset at) = (at ≡ 0) ⊎ IsPlace at ts
IsMiss ts _ = ⊥
