-- When a step program is well formed: names, places, widths and counts.
use Rattle.std.specs.Prelude.{◌≡◌, ◌≢◌, ℕ, ◌^◌, ◌<◌, ◌≤◌, ◌++◌, List, length, codes, sum_by, All, slice_index}
use Rattle.lisa_engine.specs.Images.{IsDepth}
use Rattle.lisa_engine.specs.Shape.{IsFitting}
use Rattle.lisa_engine.specs.declared.parts.Item.{Item}
use Rattle.lisa_engine.specs.declared.parts.ArrayItem.{ArrayItem}
use Rattle.step_program.specs.declared.expressions.OneOp.{OneOp}
use Rattle.step_program.specs.declared.expressions.OneOp.TheVariants.{Not, Cut, Widen}
use Rattle.step_program.specs.declared.expressions.TwoOp.{TwoOp}
use Rattle.step_program.specs.declared.expressions.TwoOp.TheVariants as ops
use Rattle.step_program.specs.Programs.{Expr, Const, Now, Before, Pin, Temp, Cell, One, Two, Choose, Aim, ToItem, ToTemp, ToCell, Move, Program}
use Rattle.step_program.specs.Effects.{item_width, array_width, array_depth, width}

-- ---- names

-- a byte that an escaped name of Verilog may have: printable, and no blank
abbrev pub IsGraphic : ℕ → Type 0
IsGraphic byte = (33 ≤ byte) × (byte ≤ 126)

abbrev pub IsDigit : ℕ → Type 0
IsDigit byte = (48 ≤ byte) × (byte ≤ 57)

-- the name of a wire in a written module: `wire.` and decimal digits
pub record IsWireName (name : List ℕ) : Type 0 where
  pub digits : List ℕ
  pub some : 0 < length digits
  pub all : All IsDigit digits
  pub is : name ≡ codes "wire." ++ digits

-- a name that can be written as an escaped name, and that the written module doesn't use for its clock or a wire
pub record IsFreeName (name : List ℕ) : Type 0 where
  pub some : 0 < length name
  pub graphic : All IsGraphic name
  pub no_clock : name ≢ codes "edge.clock"
  pub no_wire : ¬ IsWireName name

-- ---- declarations

abbrev pub IsWidth : ℕ → Type 0
IsWidth w = (1 ≤ w) × (w ≤ 64)

abbrev pub IsDeclared : Item → Type 0
IsDeclared item = IsFreeName item.name × IsWidth item.width

abbrev pub IsStored : ArrayItem → Type 0
IsStored array = IsFreeName array.name × IsWidth array.width × IsDepth array.depth

-- ---- expressions and steps

-- the operand's width, and the operator's own
abbrev pub FitsOne : OneOp → ℕ → Type 0
FitsOne Not width = Unit {0}
FitsOne (Cut narrow) width = (1 ≤ narrow) × (narrow ≤ width)
FitsOne (Widen wide) width = (width ≤ wide) × (wide ≤ 64)

-- the operands' widths: those of a shift may differ
abbrev pub FitsTwo : TwoOp → (left right : ℕ) → Type 0
FitsTwo ops.Shl left right = Unit {0}
FitsTwo ops.Shr left right = Unit {0}
FitsTwo _ left right = left ≡ right

abbrev pub IsFit : Program → Expr → Type 0
IsFit p (Const w v) = IsWidth w × (v < 2 ^ w)
IsFit p (Now item) = item < length p.items
IsFit p (Before item) = item < length p.items
IsFit p (Pin pin) = pin < length p.pins
IsFit p (Temp temp) = temp < length p.temps
IsFit p (Cell array index) = (array < length p.arrays) × IsFit p index × (array_depth p array ≡ 2 ^ width p index)
IsFit p (One one a) = IsFit p a × FitsOne one (width p a)
IsFit p (Two two a b) = IsFit p a × IsFit p b × FitsTwo two (width p a) (width p b)
IsFit p (Choose test this other) = IsFit p test × IsFit p this × IsFit p other × (width p this ≡ width p other)

-- the target is there, and takes values of this width
abbrev pub IsAimed : Program → Aim → (w : ℕ) → Type 0
IsAimed p (ToItem item) w = (item < length p.items) × (item_width p item ≡ w)
IsAimed p (ToTemp temp) w = (temp < length p.temps) × (slice_index p.temps temp ≡ w)
IsAimed p (ToCell array index) w = IsFit p (Cell array index) × (array_width p array ≡ w)

pub record IsMove (p : Program) (move : Move) : Type 0 where
  pub guard : IsFit p move.guard
  pub value : IsFit p move.value
  pub aim : IsAimed p move.aim (width p move.value)

-- ---- programs

pub record IsWellFormed (p : Program) : Type 0 where
  pub items : All IsDeclared p.items
  pub arrays : All IsStored p.arrays
  pub pins : All IsDeclared p.pins
  pub temps : All IsWidth p.temps
  pub first : IsFitting p.items p.first
  pub moves : All (IsMove p) p.moves
  pub few_items : length p.items ≤ 8192
  pub few_arrays : length p.arrays ≤ 1024
  pub few_cells : sum_by (λ array. array.depth) p.arrays ≤ 4194304
  pub few_pins : length p.pins ≤ 64
