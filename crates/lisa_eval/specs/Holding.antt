-- When a store holds a moment of a description.
use Rattle.std.specs.Prelude.{ℕ, ◌≡◌, ◌<◌, ◌^◌, false, List, [], length, map, take, Option, None, Some, is_some, slice_get, slice_index, slice_index_or}
use Rattle.lisa_tree.specs.declared.tokens.Shape.{Shape}
use Rattle.lisa_tree.specs.Descriptions as trees
use Rattle.lisa_tree.specs.Descriptions.{ResourceTree, DescriptionTree}
use Rattle.graph_paths.specs.Paths.{is_in}
use Rattle.description_places.specs.Scopes.{Scope}
use Rattle.typed_values.specs.Words.{TypedWord}
use Rattle.typed_values.specs.Effects.{Locals}
use Rattle.machine_parts.specs.Parts.{registers_of}
use Rattle.lisa_meaning.specs.Scenes.{Scene}
use Rattle.lisa_meaning.specs.Moments.{Moment, field_at, written}
use Rattle.lisa_meaning.specs.Values.{Array, register_place, pin_place, array_of, shape_at, shaped}
use Rattle.behavior_plans.specs.Holdings.{Holdings, word_at}
use Rattle.lisa_eval.specs.Resolving.{boundary_place}

-- the type of a register that is no array, clocked or not
abbrev pub register_shape : Option ResourceTree → Option Shape
register_shape None = None
register_shape (Some (trees.Register word shape name None)) = Some shape
register_shape (Some (trees.Register word shape name (Some depth))) = None
register_shape (Some (trees.Clocked word shape name)) = Some shape
register_shape (Some (trees.Memory word shape name depth)) = None
register_shape (Some (trees.Pin shape name)) = None
register_shape (Some (trees.Pipeline name stages)) = None
register_shape (Some (trees.Fields pipe fields)) = None

abbrev pub pin_shape : Option ResourceTree → Option Shape
pin_shape None = None
pin_shape (Some (trees.Register word shape name depth)) = None
pin_shape (Some (trees.Clocked word shape name)) = None
pin_shape (Some (trees.Memory word shape name depth)) = None
pin_shape (Some (trees.Pin shape name)) = Some shape
pin_shape (Some (trees.Pipeline name stages)) = None
pin_shape (Some (trees.Fields pipe fields)) = None

-- the words of resources have their types, and these bits at these places
abbrev pub HoldsWords : DescriptionTree → (Option ResourceTree → Option Shape) → (ℕ → ℕ) → List ℕ → List TypedWord → Type 0
HoldsWords d shape_of place bits words =
    (k : ℕ) (shape : Shape) → shape_of (slice_get d.resources k) ≡ Some shape → word_at words (place k) ≡ shaped shape (slice_index_or bits (place k) 0)

-- the locals are those of the scope, in its order, and the first slots have their values
pub record HoldsLocals (scope : Scope) (locals : Locals) (slots : List TypedWord) : Type 0 where
  pub names : map (λ local. local.0) locals ≡ map (λ entry. entry.0) scope
  pub values : take (length locals) slots ≡ map (λ local. local.1) locals

-- Registers and pins by their numbers among the resources, fields by boundary and place. Bits of cells and of fields are within their types.
pub record Holds (d : DescriptionTree) (scene : Scene) (m : Moment) (scope : Scope) (h : Holdings) : Type 0 where
  -- there are as many registers as the description has
  pub stored : length m.memory.registers ≡ length (registers_of d)
  pub room : length h.registers ≡ length (registers_of d)
  pub registers : HoldsWords d register_shape (register_place d) m.memory.registers h.registers
  pub kept : HoldsWords d register_shape (register_place d) m.kept h.kept
  pub pins : HoldsWords d pin_shape (pin_place d) m.pins h.pins
  pub locals : HoldsLocals scope m.locals h.slots
  pub cells : h.cells ≡ m.memory.cells
  pub cells_fit : (k : ℕ) (a : Array) (index : ℕ) → array_of d k (slice_get d.resources k) ≡ Some a → slice_index (slice_index_or m.memory.cells a.place []) index < 2 ^ a.shape.width
  pub decoded : h.decoded ≡ is_some scene.form
  pub fields : (s f : ℕ) (shape : Shape) → shape_at d f ≡ Some shape → slice_index h.fields (boundary_place d s f) ≡ field_at m.memory.fields s f
  pub fields_fit : (s f : ℕ) (shape : Shape) → shape_at d f ≡ Some shape → field_at m.memory.fields s f < 2 ^ shape.width
  -- what fields got in this edge, and the levels that were stalled or flushed
  pub outs : (s f : ℕ) (shape : Shape) → shape_at d f ≡ Some shape → slice_index_or h.outs (boundary_place d s f) None ≡ written m.outs s f
  pub stalled : (level : ℕ) → slice_index_or h.stalled level false ≡ is_in level m.stalled
  pub flushed : (level : ℕ) → slice_index_or h.flushed level false ≡ is_in level m.flushed
