-- What steps cost: the bytes that they are charged with where no cell was written before, and what reads and writes of arrays cost beside.
use Rattle.std.specs.List.{AllByRecursion}
use Rattle.std.specs.Prelude.{ℕ, ◌≡◌, ◌≤◌, ◌+◌, List, [], ◌∷◌, nat_eq, if◌then◌else◌}
use Rattle.step_program.specs.Programs.{Program, Expr, Const, Now, Before, Pin, Temp, Cell, One, Two, Choose, Aim, ToItem, ToTemp, ToCell, Move}
use Rattle.step_program.specs.WellFormed.{IsMove}
use Rattle.module_sizes.specs.Charges.{expr_most, move_most}

-- No name of a description's program is longer than that of a field: the names of two stages with 64 bytes, a field's with as many, and two
-- signs. A wire's may be as long as 25.
pub record IsLongest (most : ℕ) : Type 0 where
  pub least : 25 ≤ most
  pub greatest : most ≤ 194

-- Steps that are well formed in a program, so that what temps hold is as wide as the program says.
abbrev pub AreFormed : Program → List Move → Type 0
AreFormed p moves = AllByRecursion (IsMove p) moves

-- what a read and a write of a cell cost, by the number of the array
pub record Rates : Type 0 where
  pub read : ℕ → ℕ
  pub write : ℕ → ℕ

-- ---- reads and writes of cells

abbrev pub expr_reads : (ℕ → ℕ) → Expr → ℕ
expr_reads rate (Const w v) = 0
expr_reads rate (Now item) = 0
expr_reads rate (Before item) = 0
expr_reads rate (Pin pin) = 0
expr_reads rate (Temp temp) = 0
expr_reads rate (Cell array index) = rate array + expr_reads rate index
expr_reads rate (One one a) = expr_reads rate a
expr_reads rate (Two two a b) = expr_reads rate a + expr_reads rate b
expr_reads rate (Choose test this other) = expr_reads rate test + (expr_reads rate this + expr_reads rate other)

abbrev pub aim_accesses : Rates → Aim → ℕ
aim_accesses rates (ToItem item) = 0
aim_accesses rates (ToTemp temp) = 0
aim_accesses rates (ToCell array index) = rates.write array + expr_reads rates.read index

abbrev pub move_accesses : Rates → Move → ℕ
move_accesses rates move = expr_reads rates.read move.guard + (expr_reads rates.read move.value + aim_accesses rates move.aim)

-- ---- costs

module _ (p : Program) (most : ℕ) (rates : Rates) where
  abbrev pub expr_cost : Expr → ℕ
  expr_cost e = expr_most p most [] e + expr_reads rates.read e

  -- a leaf
  abbrev pub IsFree : Expr → Type 0
  IsFree e = expr_cost e ≡ 0

  abbrev pub move_cost : Move → ℕ
  move_cost move = move_most p most [] move + move_accesses rates move

  abbrev pub moves_cost : List Move → ℕ
  moves_cost [] = 0
  moves_cost (move ∷ moves) = move_cost move + moves_cost moves

-- ---- rates

-- what the reads and writes of steps cost by themselves
abbrev pub moves_accesses : Rates → List Move → ℕ
moves_accesses rates [] = 0
moves_accesses rates (move ∷ moves) = move_accesses rates move + moves_accesses rates moves

-- reads alone
abbrev pub pair_rates : (ℕ → ℕ) → Rates
pair_rates rate = record { read = rate; write = λ a. 0 }

-- writes of one array alone, each at a price
abbrev pub one_write : (array price : ℕ) → ℕ → ℕ
one_write array price a = if nat_eq a array then price else 0

abbrev pub write_rates : (array price : ℕ) → Rates
write_rates array price = record { read = λ a. 0; write = one_write array price }
