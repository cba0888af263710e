-- How many wires a program takes at most.
use Rattle.std.specs.Prelude.{ℕ, ◌+◌, ◌*◌, List, [], ◌∷◌, nat_eq, if◌then◌else◌}
use Rattle.step_program.specs.Programs.{Expr, Cell, One, Two, Choose, Aim, ToItem, ToTemp, ToCell, Move, Program}

-- how many of the writes are of an array
abbrev pub writes_to : (array : ℕ) → (arrays : List ℕ) → ℕ
writes_to array [] = 0
writes_to array (other ∷ arrays) = if nat_eq other array then 1 + writes_to array arrays else writes_to array arrays

-- of an expression behind writes of these arrays: one wire for each operator, and for the read of a cell one wire, and three for each
-- write of the array, which compare the indexes and choose
abbrev pub expr_cost : (arrays : List ℕ) → Expr → ℕ
expr_cost arrays (Cell array index) = expr_cost arrays index + (1 + 3 * writes_to array arrays)
expr_cost arrays (One one a) = expr_cost arrays a + 1
expr_cost arrays (Two two a b) = expr_cost arrays a + (expr_cost arrays b + 1)
expr_cost arrays (Choose test this other) = expr_cost arrays test + (expr_cost arrays this + (expr_cost arrays other + 1))
expr_cost arrays _ = 0

abbrev pub aim_cost : (arrays : List ℕ) → Aim → ℕ
aim_cost arrays (ToItem item) = 1
aim_cost arrays (ToTemp temp) = 1
aim_cost arrays (ToCell array index) = expr_cost arrays index

-- the arrays of the writes once a step is taken
abbrev pub arrays_after : Aim → (arrays : List ℕ) → List ℕ
arrays_after (ToItem item) arrays = arrays
arrays_after (ToTemp temp) arrays = arrays
arrays_after (ToCell array index) arrays = array ∷ arrays

abbrev pub move_cost : (arrays : List ℕ) → Move → ℕ
move_cost arrays move = expr_cost arrays move.guard + (expr_cost arrays move.value + aim_cost arrays move.aim)

abbrev pub moves_cost : (arrays : List ℕ) → List Move → ℕ
moves_cost arrays [] = 0
moves_cost arrays (move ∷ moves) = move_cost arrays move + moves_cost (arrays_after move.aim arrays) moves

-- of a program
abbrev pub wires_most : Program → ℕ
wires_most p = moves_cost [] p.moves
