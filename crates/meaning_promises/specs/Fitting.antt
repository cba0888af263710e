-- What fits its width.
use Rattle.std.specs.Prelude.{ℕ, ◌≡◌, ◌<◌, ◌^◌, List, Some}
use Rattle.std.specs.List.{AllByRecursion}
use Rattle.lisa_tree.specs.declared.tokens.Shape.{Shape}
use Rattle.lisa_tree.specs.Expressions as exprs
use Rattle.lisa_tree.specs.Expressions.{ExprTree}
use Rattle.lisa_tree.specs.Descriptions as trees
use Rattle.lisa_tree.specs.Descriptions.{DescriptionTree}
use Rattle.lisa_engine.specs.Shape.{IsFitting, AreCells}
use Rattle.lisa_tree.specs.Operations.{sections_at, coding_in, expression_in}
use Rattle.lisa_machine.specs.machine_parts.Parts.{arrays_of, pins_of, registers_of}
use Rattle.typed_values.specs.Laws.{IsFit, HasNumbers}
use Rattle.lisa_meaning.specs.Moments.{Contents, Moment, field_at, written}
use Rattle.lisa_meaning.specs.Values.{shape_at}

-- bits of a field, by its place
abbrev pub FieldFits : DescriptionTree → ℕ → ℕ → Type 0
FieldFits d f bits = (shape : Shape) → shape_at d f ≡ Some shape → bits < 2 ^ shape.width

-- registers, cells and fields of boundaries hold bits within their widths
pub record ContentsFit (d : DescriptionTree) (c : Contents) : Type 0 where
  pub registers : IsFitting (registers_of d) c.registers
  pub cells : AreCells (arrays_of d) c.cells
  pub fields : (s f : ℕ) → FieldFits d f (field_at c.fields s f)

-- so do what was written to boundaries
pub record MomentFits (d : DescriptionTree) (m : Moment) : Type 0 where
  pub memory : ContentsFit d m.memory
  pub outs : (s f bits : ℕ) → written m.outs s f ≡ Some bits → FieldFits d f bits

-- and what is read there: the registers as the edge began, the pins and the locals
pub record ReadingsFit (d : DescriptionTree) (m : Moment) : Type 0 where
  pub memory : ContentsFit d m.memory
  pub kept : IsFitting (registers_of d) m.kept
  pub pins : IsFitting (pins_of d) m.pins
  pub locals : AllByRecursion (λ x. IsFit x.1) m.locals

-- each number in an EXPRESSION is below 2 ^ 64, as each that is spelled is
abbrev pub HaveNumbers : DescriptionTree → Type 0
HaveNumbers d = (o : ℕ) (e : ExprTree) → expression_in (sections_at d o) ≡ Some e → HasNumbers e

-- what the grammar lets hold the root's word
abbrev pub IsWordPlace : ExprTree → Type 0
IsWordPlace (exprs.Named n) = Unit {0}
IsWordPlace (exprs.Input field) = Unit {0}
IsWordPlace _ = ⊥

abbrev pub HaveWordPlaces : DescriptionTree → Type 0
HaveWordPlaces d = (o : ℕ) (place : ExprTree) (group : List ℕ) → coding_in (sections_at d o) ≡ Some (trees.Root place group) → IsWordPlace place
