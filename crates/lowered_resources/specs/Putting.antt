-- What assignments, stalls and flushes of an operation become. On the way to the program: nothing here needs to be trusted.
use Rattle.std.specs.Prelude.{ℕ, suc, List, [], ◌∷◌, Option, None, Some, slice_get}
use Rattle.std.specs.Map.{lookup}
use Rattle.lisa_words.specs.declared.words.Kind.{Kind}
use Rattle.lisa_tree.specs.declared.tokens.Shape.{Shape}
use Rattle.lisa_tree.specs.Expressions as exprs
use Rattle.lisa_tree.specs.Expressions.{ExprTree}
use Rattle.lisa_tree.specs.Descriptions as trees
use Rattle.lisa_tree.specs.Descriptions.{ResourceTree, DescriptionTree}
use Rattle.lisa_tree.specs.declared.declared.Meaning.{Meaning}
use Rattle.lisa_tree.specs.declared.declared.Meaning.TheVariants as meanings
use Rattle.lisa_tree.specs.Same.{same_name}
use Rattle.lisa_tree.specs.Resources.{stage_at}
use Rattle.lisa_tree.specs.Operations.{own_stage}
use Rattle.lisa_tree.specs.Meanings.{meaning}
use Rattle.step_program.specs.Programs.{Expr, Aim, ToItem, ToTemp, ToCell, Move}
use Rattle.scene_paths.specs.lisa_meaning.Values.{Array, register_place, named_array, field_place, shape_at}
use Rattle.step_pieces.specs.Pieces.{Piece, nothing, behind, always}
use Rattle.lowered_values.specs.Operands.{Operand}
use Rattle.lowered_values.specs.Templates.{fitted}
use Rattle.lowered_values.specs.Sources.{bare}
use Rattle.lowered_values.specs.Computed.{Computed}
use Rattle.lowered_statements.specs.Scopes.{Local, Scope}
use Rattle.lowered_resources.specs.Places.{Places, Lasting, Written, Out, Stall, Flush}
use Rattle.lowered_resources.specs.Reading.{index_width}

-- what is assigned, by the kind of its place
abbrev pub Given : Type 0
Given = Kind → Operand

-- what an assignment to a declared name becomes
abbrev pub Stores : Type 0
Stores = List ℕ → (guard : Expr) → ℕ → Given → Piece

abbrev pub Reads : Type 0
Reads = Scope → ℕ → ExprTree → Computed

-- steps that take no temps
abbrev pub moving : List Move → Piece
moving moves = record { widths = []; moves = moves }

abbrev pub move_to : (guard : Expr) → Aim → Expr → Move
move_to guard aim value = record { guard = guard; aim = aim; value = value }

-- under a guard a place of a type takes what it is given
abbrev pub assigned : (guard : Expr) → Aim → Shape → Given → Piece
assigned guard aim shape x = moving (move_to guard aim (fitted (x shape.kind) shape.width) ∷ [])

-- ---- resources

-- a register that is no array, clocked or not, by its number among the resources
abbrev pub resource_put : DescriptionTree → ℕ → Option ResourceTree → (guard : Expr) → Given → Piece
resource_put d k None guard x = nothing
resource_put d k (Some (trees.Register word shape name None)) guard x = assigned guard (ToItem (register_place d k)) shape x
resource_put d k (Some (trees.Register word shape name (Some depth))) guard x = nothing
resource_put d k (Some (trees.Clocked word shape name)) guard x = assigned guard (ToItem (register_place d k)) shape x
resource_put d k (Some (trees.Memory word shape name depth)) guard x = nothing
resource_put d k (Some (trees.Pin shape name)) guard x = nothing
resource_put d k (Some (trees.Pipeline name stages)) guard x = nothing
resource_put d k (Some (trees.Fields pipe fields)) guard x = nothing

-- an element, at the index's lowest bits
abbrev pub element_put : Option Array → (guard : Expr) → Computed → Given → Piece
element_put None guard index x = nothing
element_put (Some a) guard index x = behind index.piece (assigned guard (ToCell a.place (fitted (bare index.out) (index_width a.depth))) a.shape x)

-- ---- the boundary behind the own stage

-- the bits, and that there are some
abbrev pub field_put : Places → ℕ → ℕ → Option Shape → (guard : Expr) → Given → Piece
field_put places s f None guard x = nothing
field_put places s f (Some shape) guard x =
    behind (assigned guard (ToTemp (places.temp (Out s f))) shape x) (moving (move_to guard (ToTemp (places.temp (Written s f))) always ∷ []))

abbrev pub out_put : DescriptionTree → Places → Option ℕ → Option ℕ → (guard : Expr) → Given → Piece
out_put d places (Some s) (Some f) guard x = field_put places s f (shape_at d f) guard x
out_put d places _ _ guard x = nothing

-- ---- places

abbrev pub local_put : Local → (guard : Expr) → Given → Piece
local_put l guard x = assigned guard (ToTemp l.temp) (record { kind = l.kind; width = l.width }) x

abbrev pub meant_put : DescriptionTree → Stores → List ℕ → Meaning → (guard : Expr) → ℕ → Given → Piece
meant_put d stores n meanings.Nothing guard from x = nothing
meant_put d stores n (meanings.Resource k) guard from x = resource_put d k (slice_get d.resources k) guard x
meant_put d stores n (meanings.Declared i) guard from x = stores n guard from x

-- a local goes before all else
abbrev pub name_put : Option Local → (guard : Expr) → Given → Piece → Piece
name_put None guard x other = other
name_put (Some l) guard x other = local_put l guard x

abbrev pub puts : DescriptionTree → Places → Reads → Stores → ℕ → Scope → (guard : Expr) → ℕ → ExprTree → Given → Piece
puts d places reads stores o scope guard from (exprs.Number v base) x = nothing
puts d places reads stores o scope guard from (exprs.Named n) x = name_put (lookup (same_name n) scope) guard x (meant_put d stores n (meaning d o n) guard from x)
puts d places reads stores o scope guard from (exprs.Element n index) x = element_put (named_array d o n) guard (reads scope from index) x
puts d places reads stores o scope guard from (exprs.Input field) x = nothing
puts d places reads stores o scope guard from (exprs.Output field) x = out_put d places (own_stage d o) (field_place d field) guard x
puts d places reads stores o scope guard from (exprs.Boundary pipe before after field) x = nothing
puts d places reads stores o scope guard from exprs.Decoded x = nothing
puts d places reads stores o scope guard from (exprs.Cast shape a) x = nothing
puts d places reads stores o scope guard from (exprs.Complement a) x = nothing
puts d places reads stores o scope guard from (exprs.Negate a) x = nothing
puts d places reads stores o scope guard from (exprs.Two operator a b) x = nothing
puts d places reads stores o scope guard from (exprs.Choose c a b) x = nothing

-- ---- stalls and flushes

-- a stage by its name tells its level, which is one more than its number
abbrev pub told : Places → (ℕ → Lasting) → Option ℕ → (guard : Expr) → Piece
told places what None guard = nothing
told places what (Some s) guard = moving (move_to guard (ToTemp (places.temp (what (suc s)))) always ∷ [])

abbrev pub stalls : DescriptionTree → Places → (guard : Expr) → List ℕ → Piece
stalls d places guard stage = told places Stall (stage_at d stage) guard

abbrev pub flushes : DescriptionTree → Places → (guard : Expr) → List ℕ → Piece
flushes d places guard stage = told places Flush (stage_at d stage) guard
