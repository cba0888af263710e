-- What an assignment sets.
use Rattle.std.specs.Prelude.{ℕ, ◌≡◌, ◌≤◌, List, Option, Some, ◌<◌, ◌+◌, length, slice_get}
use Rattle.lisa_tree.specs.declared.tokens.Shape.{Shape}
use Rattle.lisa_tree.specs.Descriptions.{DescriptionTree}
use Rattle.lisa_engine.specs.declared.parts.Item.{Item}
use Rattle.lisa_engine.specs.declared.parts.ArrayItem.{ArrayItem}
use Rattle.description_places.specs.declared.scopes.Local.{Local}
use Rattle.description_places.specs.Scopes.{Scope, local_named}
use Rattle.lisa_tree.specs.Resources.{stages}
use Rattle.lisa_machine.specs.machine_parts.Parts.{arrays_of, registers_of}
use Rattle.lisa_meaning.specs.Values.{shape_at}
use Rattle.lisa_tree.specs.Expressions as exprs
use Rattle.lisa_tree.specs.Expressions.{ExprTree}
use Rattle.typed_values.specs.Words.{typed}
use Rattle.typed_values.specs.Effects.{local_put}
use Rattle.lisa_meaning.specs.Moments.{Moment, with_locals, with_out}
use Rattle.lisa_meaning.specs.Effects.{Given, bits_for, register_put, cell_put}

-- a local, a register by its place, an element of an array by its place and index, or a field of the boundary behind a stage; with its type
pub data Spot : Type 0 where
  LocalSpot : (name : List ℕ) → Shape → Spot
  RegisterSpot : (place : ℕ) → Shape → Spot
  ElementSpot : (place index : ℕ) → Shape → Spot
  OutSpot : (stage field : ℕ) → Shape → Spot

abbrev pub spot_shape : Spot → Shape
spot_shape (LocalSpot n shape) = shape
spot_shape (RegisterSpot place shape) = shape
spot_shape (ElementSpot place index shape) = shape
spot_shape (OutSpot stage field shape) = shape

-- it gets a value at the width of its type, and nothing else changes
abbrev pub set_spot : Spot → Given → Moment → Moment
set_spot (LocalSpot n shape) given m = with_locals (local_put m.locals n (typed shape.kind shape.width (bits_for shape given))) m
set_spot (RegisterSpot place shape) given m = register_put place (bits_for shape given) m
set_spot (ElementSpot place index shape) given m = cell_put place index (bits_for shape given) m
set_spot (OutSpot stage field shape) given m = with_out stage field (bits_for shape given) m

-- it is there, with the width of its type: a local in scope, a register, an element of an array, or a field of a boundary
abbrev pub IsSpotOf : DescriptionTree → Scope → Spot → Type 0
IsSpotOf d scope (LocalSpot n shape) = (l : Local) × (local_named n scope ≡ Some l) × (l.shape ≡ shape)
IsSpotOf d scope (RegisterSpot place shape) = (i : Item) × (slice_get (registers_of d) place ≡ Some i) × (i.width ≡ shape.width)
IsSpotOf d scope (ElementSpot place index shape) = (a : ArrayItem) × (slice_get (arrays_of d) place ≡ Some a) × (a.width ≡ shape.width) × (index < a.depth)
IsSpotOf d scope (OutSpot stage field shape) = (shape_at d field ≡ Some shape) × (stage + 1 < length (stages d))

-- with these locals in scope, an assignment to an expression of this type sets one spot of the type, at a moment
pub record SetsSpot (d : DescriptionTree) (scope : Scope) (type : Option Shape) (m : Moment) (assign : Given → Moment) : Type 0 where
  pub spot : Spot
  pub stands : IsSpotOf d scope spot
  pub typed : type ≡ Some (spot_shape spot)
  pub sets : (given : Given) → assign given ≡ set_spot spot given m

-- what the grammar lets stand to the left of `=`
abbrev pub IsTarget : ExprTree → Type 0
IsTarget (exprs.Named n) = Unit {0}
IsTarget (exprs.Element n index) = Unit {0}
IsTarget (exprs.Output field) = Unit {0}
IsTarget _ = ⊥

-- a value is no wider than the place of this type
abbrev pub IsNotCut : Shape → Given → Type 0
IsNotCut shape given = (given shape.kind).width ≤ shape.width
