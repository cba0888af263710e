-- Step programs as plain trees, without where they lie in memory: the same variants and numbers, and each vector as a list.
use Rattle.std.specs.Prelude.{ℕ, List, map}
use Rattle.lisa_engine.specs.declared.parts.Item.{Item}
use Rattle.lisa_engine.specs.declared.parts.ArrayItem.{ArrayItem}
use Rattle.step_program.specs.declared.expressions.OneOp.{OneOp}
use Rattle.step_program.specs.declared.expressions.TwoOp.{TwoOp}
use Rattle.step_program.specs.declared.expressions.StepExpr.{StepExpr}
use Rattle.step_program.specs.declared.expressions.StepExpr.TheVariants as exprs
use Rattle.step_program.specs.declared.programs.Target.{Target}
use Rattle.step_program.specs.declared.programs.Target.TheVariants as targets
use Rattle.step_program.specs.declared.programs.Step.{Step}
use Rattle.step_program.specs.declared.programs.StepProgram.{StepProgram}

pub data Expr : Type 0 where
  Const : (width value : ℕ) → Expr
  -- the item as the steps before have left it
  Now : (item : ℕ) → Expr
  -- the item as the edge began
  Before : (item : ℕ) → Expr
  Pin : (pin : ℕ) → Expr
  Temp : (temp : ℕ) → Expr
  Cell : (array : ℕ) → (index : Expr) → Expr
  One : OneOp → Expr → Expr
  Two : TwoOp → Expr → Expr → Expr
  Choose : (test this other : Expr) → Expr

pub data Aim : Type 0 where
  ToItem : (item : ℕ) → Aim
  ToTemp : (temp : ℕ) → Aim
  ToCell : (array : ℕ) → (index : Expr) → Aim

pub record Move : Type 0 where
  pub guard : Expr
  pub aim : Aim
  pub value : Expr

pub record Program : Type 0 where
  pub items : List Item
  pub arrays : List ArrayItem
  pub pins : List Item
  -- the items' first values
  pub first : List ℕ
  -- the temps' widths
  pub temps : List ℕ
  pub moves : List Move

-- the plain tree that an expression stands for
abbrev pub expr_tree : StepExpr → Expr
expr_tree (exprs.Const word) = Const word.width word.bits
expr_tree (exprs.Item item) = Now item
expr_tree (exprs.Before item) = Before item
expr_tree (exprs.Pin pin) = Pin pin
expr_tree (exprs.Temp temp) = Temp temp
expr_tree (exprs.Cell' array p index) = Cell array (expr_tree index)
expr_tree (exprs.One' one p a) = One one (expr_tree a)
expr_tree (exprs.Two' two p a q b) = Two two (expr_tree a) (expr_tree b)
expr_tree (exprs.Choose' p c q a r b) = Choose (expr_tree c) (expr_tree a) (expr_tree b)

abbrev pub aim_of : Target → Aim
aim_of (targets.Item item) = ToItem item
aim_of (targets.Temp temp) = ToTemp temp
aim_of (targets.Cell array index) = ToCell array (expr_tree index)

abbrev pub move_of : Step → Move
move_of step = record { guard = expr_tree step.guard; aim = aim_of step.target; value = expr_tree step.value }

-- the plain program that a program stands for
abbrev pub program_tree : StepProgram → Program
program_tree p = record {
  items = p.items.items;
  arrays = p.arrays.items;
  pins = p.pins.items;
  first = p.first.items;
  temps = p.temps.items;
  moves = map move_of p.steps.items;
}
