-- What the names of an expression stand for in a step program.
use Rattle.std.specs.Prelude.{◌≡◌, ℕ, ◌%◌, ◌^◌, ◌<◌, List, [], length, slice_index, slice_index_or, ⊤}
use Rattle.lisa_words.specs.declared.words.Kind.{Kind}
use Rattle.lisa_words.specs.declared.words.Kind.TheVariants.{Unsigned}
use Rattle.lisa_tree.specs.Expressions as exprs
use Rattle.lisa_tree.specs.Expressions.{ExprTree}
use Rattle.step_program.specs.Programs.{Program, Cell}
use Rattle.step_program.specs.Effects.{Moment, array_width, array_depth}
use Rattle.step_program.specs.WellFormed.{IsWidth}
use Rattle.typed_values.specs.Words.{TypedWord}
use Rattle.typed_values.specs.Expressions.{Reader}
use Rattle.typed_values.specs.Laws as typed
use Rattle.lowered_values.specs.Operands.{Operand, operand_of, StandsFor, IsOperand}
use Rattle.lowered_values.specs.Templates.{fitted}

-- an array, the type of its cells, and how wide its index is
pub record Cells : Type 0 where
  pub array : ℕ
  pub kind : Kind
  pub width : ℕ
  pub places : ℕ

pub record Sources : Type 0 where
  pub named : List ℕ → Operand
  pub element : List ℕ → Cells
  pub input : List ℕ → Operand
  -- pipeline, the stages before and after, field
  pub boundary : List ℕ → List ℕ → List ℕ → List ℕ → Operand
  pub decoded : Operand

-- an index is its bits, whatever its kind
abbrev pub bare : Operand → Operand
bare x = operand_of Unsigned x.width x.at

-- the cell at an index
abbrev pub cell_at : Cells → Operand → Operand
cell_at c index = operand_of c.kind c.width (Cell c.array (fitted (bare index) c.places))

-- ---- sources that are there

pub record AreCells (p : Program) (c : Cells) : Type 0 where
  pub there : c.array < length p.arrays
  pub wide : array_width p c.array ≡ c.width
  pub sized : IsWidth c.width
  pub deep : array_depth p c.array ≡ 2 ^ c.places
  pub index : IsWidth c.places

-- all that an expression names is there, and reads no temp from `from` on
abbrev pub AreSources : Program → ℕ → Sources → ExprTree → Type 0
AreSources p from s (exprs.Number v base) = v < 2 ^ 64
AreSources p from s (exprs.Named n) = IsOperand p from (s.named n)
AreSources p from s (exprs.Element n index) = AreCells p (s.element n) × AreSources p from s index
AreSources p from s (exprs.Input field) = IsOperand p from (s.input field)
AreSources p from s (exprs.Output field) = IsOperand p from (s.input field)
AreSources p from s (exprs.Boundary pipe before after field) = IsOperand p from (s.boundary pipe before after field)
AreSources p from s exprs.Decoded = IsOperand p from s.decoded
AreSources p from s (exprs.Cast shape a) = AreSources p from s a
AreSources p from s (exprs.Complement a) = AreSources p from s a
AreSources p from s (exprs.Negate a) = AreSources p from s a
AreSources p from s (exprs.Two operator a b) = AreSources p from s a × AreSources p from s b
AreSources p from s (exprs.Choose c a b) = AreSources p from s c × AreSources p from s a × AreSources p from s b

-- ---- sources that have the values that are read

-- an element is the cell at its index modulo the depth
pub record HoldCells (now : Moment) (c : Cells) (element : ℕ → TypedWord) : Type 0 where
  pub kind : (index : ℕ) → c.kind ≡ (element index).kind
  pub width : (index : ℕ) → c.width ≡ (element index).width
  pub bits : (index : ℕ) → slice_index (slice_index_or now.cells c.array []) (index % 2 ^ c.places) ≡ (element index).bits
  pub fits : (index : ℕ) → typed.IsFit (element index)

-- at a moment of an edge all that an expression names has the value that is read
abbrev pub Mirrors : Program → (before pins : List ℕ) → Moment → Sources → Reader → ExprTree → Type 0
Mirrors p before pins now s reader (exprs.Number v base) = ⊤
Mirrors p before pins now s reader (exprs.Named n) = StandsFor p before pins now (s.named n) (reader.named n)
Mirrors p before pins now s reader (exprs.Element n index) = HoldCells now (s.element n) (reader.element n) × Mirrors p before pins now s reader index
Mirrors p before pins now s reader (exprs.Input field) = StandsFor p before pins now (s.input field) (reader.input field)
Mirrors p before pins now s reader (exprs.Output field) = StandsFor p before pins now (s.input field) (reader.input field)
Mirrors p before pins now s reader (exprs.Boundary pipe first after field) = StandsFor p before pins now (s.boundary pipe first after field) (reader.boundary pipe first after field)
Mirrors p before pins now s reader exprs.Decoded = StandsFor p before pins now s.decoded reader.decoded
Mirrors p before pins now s reader (exprs.Cast shape a) = Mirrors p before pins now s reader a
Mirrors p before pins now s reader (exprs.Complement a) = Mirrors p before pins now s reader a
Mirrors p before pins now s reader (exprs.Negate a) = Mirrors p before pins now s reader a
Mirrors p before pins now s reader (exprs.Two operator a b) = Mirrors p before pins now s reader a × Mirrors p before pins now s reader b
Mirrors p before pins now s reader (exprs.Choose c a b) = Mirrors p before pins now s reader c × Mirrors p before pins now s reader a × Mirrors p before pins now s reader b
