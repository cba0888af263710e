-- Names that stand for nothing.
use Rattle.std.specs.Prelude.{ℕ, Bool, true, false, List, [], ◌∷◌, length, codes, Option, None, Some, cond, nat_eq, not, ◌&&◌, ◌||◌}
use Rattle.std.specs.List.{list_any}
use Rattle.std.specs.Option.{option_or, is_some}
use Rattle.lisa_tree.specs.declared.tokens.Shape.{Shape}
use Rattle.lisa_tree.specs.declared.faults.DescFault.{DescFault}
use Rattle.lisa_tree.specs.declared.faults.DescFault.TheVariants as faults
use Rattle.lisa_tree.specs.Expressions as exprs
use Rattle.lisa_tree.specs.Expressions.{ExprTree}
use Rattle.lisa_tree.specs.Descriptions as trees
use Rattle.lisa_tree.specs.Descriptions.{ResourceTree, DescriptionTree}
use Rattle.description_places.specs.Scopes.{Scope, local_named}
use Rattle.description_places.specs.Places as places
use Rattle.description_places.specs.Places.{Condition}
use Rattle.lisa_tree.specs.declared.declared.What.{What}
use Rattle.lisa_tree.specs.declared.declared.Meaning.{Meaning}
use Rattle.lisa_tree.specs.declared.declared.Meaning.TheVariants as meanings
use Rattle.lisa_tree.specs.Same.{same_name}
use Rattle.lisa_tree.specs.Resources.{resource_at, stage_at, field_shape, is_pipeline}
use Rattle.lisa_tree.specs.Operations.{number_of, name_at}
use Rattle.lisa_tree.specs.Declarations.{declared_at, what_at, is_reference, above}
use Rattle.lisa_tree.specs.Meanings.{meaning}

abbrev pub unknown_fault : (operation : List ℕ) → Bool → List ℕ → Option DescFault
unknown_fault operation found n = cond found None (Some (faults.Unknown operation n))

-- ---- look-ups

abbrev pub is_something : Meaning → Bool
is_something meanings.Nothing = false
is_something (meanings.Resource k) = true
is_something (meanings.Declared i) = true

-- the name is a resource's or one that the operation declares
abbrev pub stands : DescriptionTree → ℕ → List ℕ → Bool
stands d o n = is_something (meaning d o n)

-- the same, or a local's
abbrev pub is_known : DescriptionTree → ℕ → Scope → List ℕ → Bool
is_known d o scope n = is_some (local_named n scope) || stands d o n

abbrev pub is_field : DescriptionTree → List ℕ → Bool
is_field d n = is_some (field_shape d n)

-- the name is that of a stage of the pipeline that is named
abbrev pub is_stage : DescriptionTree → (pipe stage : List ℕ) → Bool
is_stage d pipe stage = is_pipeline d pipe && is_some (stage_at d stage)

-- ---- resources and heads

abbrev pub pipe_unknown : DescriptionTree → List ℕ → Option DescFault
pipe_unknown d n = unknown_fault [] (is_some (resource_at d n)) n

-- fields of boundaries of what is no resource
abbrev pub resource_unknown : DescriptionTree → ResourceTree → Option DescFault
resource_unknown d (trees.Fields pipe fields) = pipe_unknown d pipe
resource_unknown d _ = None

abbrev pub head_unknown : DescriptionTree → List ℕ → Option (List ℕ × List ℕ) → Option DescFault
head_unknown d operation None = None
head_unknown d operation (Some stage) =
    option_or (unknown_fault operation (is_some (resource_at d stage.0)) stage.0)
    (unknown_fault operation (is_stage d stage.0 stage.1) stage.1)

-- ---- declarations

abbrev pub operation_unknown : DescriptionTree → ℕ → List ℕ → Option DescFault
operation_unknown d o n = unknown_fault (name_at d o) (is_some (number_of d n)) n

-- the first alternative that is no operation
abbrev pub alternatives_unknown : DescriptionTree → ℕ → List (List ℕ) → Option DescFault
alternatives_unknown d o [] = None
alternatives_unknown d o (n ∷ rest) = option_or (operation_unknown d o n) (alternatives_unknown d o rest)

abbrev pub is_main : DescriptionTree → ℕ → Bool
is_main d o = same_name (name_at d o) (codes "main")

-- an operation neither declares nor references the name
abbrev pub lacks : DescriptionTree → List ℕ → ℕ → Bool
lacks d n p = not (is_some (declared_at d p n))

-- No operation lists that of a reference, or one that does lacks the name. Nothing stands above `main`.
abbrev pub is_loose : DescriptionTree → ℕ → List ℕ → Bool
is_loose d o n = is_main d o || nat_eq (length (above d o)) 0 || list_any (lacks d n) (above d o)

abbrev pub what_of : DescriptionTree → Option ℕ → Option What
what_of d None = None
what_of d (Some i) = what_at d i

abbrev pub reference_unknown : DescriptionTree → ℕ → List ℕ → Option DescFault
reference_unknown d o n = unknown_fault (name_at d o) (not (is_reference (what_of d (declared_at d o n)) && is_loose d o n)) n

-- ---- codings and syntaxes

abbrev pub part_unknown : DescriptionTree → ℕ → List ℕ → Option DescFault
part_unknown d o n = unknown_fault (name_at d o) (stands d o n) n

abbrev pub field_unknown : DescriptionTree → ℕ → List ℕ → Option DescFault
field_unknown d o field = unknown_fault (name_at d o) (is_field d field) field

abbrev pub register_unknown : DescriptionTree → ℕ → ExprTree → Option DescFault
register_unknown d o (exprs.Named n) = part_unknown d o n
register_unknown d o (exprs.Input field) = field_unknown d o field
register_unknown d o _ = None

abbrev pub root_unknown : DescriptionTree → ℕ → ExprTree → List ℕ → Option DescFault
root_unknown d o register group = option_or (register_unknown d o register) (part_unknown d o group)

-- ---- behaviours

abbrev pub name_unknown : DescriptionTree → ℕ → Scope → List ℕ → Option DescFault
name_unknown d o scope n = unknown_fault (name_at d o) (is_known d o scope n) n

abbrev pub stage_unknown : DescriptionTree → ℕ → (pipe stage : List ℕ) → Option DescFault
stage_unknown d o pipe stage = unknown_fault (name_at d o) (is_stage d pipe stage) stage

abbrev pub control_unknown : DescriptionTree → ℕ → Scope → (pipe stage : List ℕ) → Option DescFault
control_unknown d o scope pipe stage = option_or (name_unknown d o scope pipe) (stage_unknown d o pipe stage)

abbrev pub behind_unknown : DescriptionTree → ℕ → (pipe after field : List ℕ) → Option DescFault
behind_unknown d o pipe after field = option_or (stage_unknown d o pipe after) (field_unknown d o field)

abbrev pub boundary_unknown : DescriptionTree → ℕ → Scope → (pipe before after field : List ℕ) → Option DescFault
boundary_unknown d o scope pipe before after field = option_or (control_unknown d o scope pipe before) (behind_unknown d o pipe after field)

-- the variable of a loop is looked up where the head gives it no type
abbrev pub counter_unknown : DescriptionTree → ℕ → Scope → Option Shape → List ℕ → Option DescFault
counter_unknown d o scope None n = name_unknown d o scope n
counter_unknown d o scope (Some shape) n = None

-- a name stands for nothing there, or a reference has not its name in each operation above
abbrev pub unknown : DescriptionTree → Condition DescFault
unknown d o region scope (places.Resource k r) = resource_unknown d r
unknown d o region scope (places.Head operation) = head_unknown d operation.name operation.stage
unknown d o region scope (places.Section all k) = None
unknown d o region scope (places.Declared k n) = reference_unknown d o n
unknown d o region scope (places.Alternatives all) = alternatives_unknown d o all
unknown d o region scope (places.Stands n) = operation_unknown d o n
unknown d o region scope (places.Root register group) = root_unknown d o register group
unknown d o region scope (places.Field n pattern) = part_unknown d o n
unknown d o region scope (places.Operand n) = part_unknown d o n
unknown d o region scope (places.Number n format) = part_unknown d o n
unknown d o region scope (places.Shown n) = part_unknown d o n
unknown d o region scope (places.Reads n) = name_unknown d o scope n
unknown d o region scope (places.ReadsElement n) = name_unknown d o scope n
unknown d o region scope (places.ReadsInput field) = field_unknown d o field
unknown d o region scope (places.ReadsOutput field) = field_unknown d o field
unknown d o region scope (places.ReadsBoundary pipe before after field) = boundary_unknown d o scope pipe before after field
unknown d o region scope places.ReadsDecoded = None
unknown d o region scope (places.Casts shape) = None
unknown d o region scope (places.Writes n) = name_unknown d o scope n
unknown d o region scope (places.WritesElement n) = name_unknown d o scope n
unknown d o region scope (places.WritesOutput field) = field_unknown d o field
unknown d o region scope (places.Local shape n value) = None
unknown d o region scope (places.Assigns target value) = None
unknown d o region scope places.Loops = None
unknown d o region scope (places.Counts head) = counter_unknown d o scope head.shape head.name
unknown d o region scope (places.Steps n) = name_unknown d o scope n
unknown d o region scope (places.Calls n) = name_unknown d o scope n
unknown d o region scope (places.Stalls pipe stage) = control_unknown d o scope pipe stage
unknown d o region scope (places.Flushes pipe stage) = control_unknown d o scope pipe stage
unknown d o region scope (places.Executes pipe) = name_unknown d o scope pipe
unknown d o region scope (places.Shifts pipe) = name_unknown d o scope pipe
unknown d o region scope (places.Starts n) = name_unknown d o scope n
