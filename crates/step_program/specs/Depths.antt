-- How deep expressions and steps are: a leaf has depth 1, and any other expression one more than the deepest of its parts.
use Rattle.std.specs.Prelude.{ℕ, suc, max}
use Rattle.step_program.specs.Programs.{Expr, Const, Now, Before, Pin, Temp, Cell, One, Two, Choose, Aim, ToItem, ToTemp, ToCell, Move}

abbrev pub expr_depth : Expr → ℕ
expr_depth (Const w v) = 1
expr_depth (Now item) = 1
expr_depth (Before item) = 1
expr_depth (Pin pin) = 1
expr_depth (Temp temp) = 1
expr_depth (Cell array index) = suc (expr_depth index)
expr_depth (One one a) = suc (expr_depth a)
expr_depth (Two two a b) = suc (max (expr_depth a) (expr_depth b))
expr_depth (Choose test this other) = suc (max (expr_depth test) (max (expr_depth this) (expr_depth other)))

abbrev pub aim_depth : Aim → ℕ
aim_depth (ToItem item) = 0
aim_depth (ToTemp temp) = 0
aim_depth (ToCell array index) = expr_depth index

-- the depth of a step is that of its deepest expression
abbrev pub move_depth : Move → ℕ
move_depth move = max (expr_depth move.guard) (max (aim_depth move.aim) (expr_depth move.value))
