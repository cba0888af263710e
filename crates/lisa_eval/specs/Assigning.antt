-- Places that are assigned to, with their names resolved, where they name nothing that an operation declares.
use Rattle.std.specs.Prelude.{ℕ, ◌-◌, Option, None, Some, option_map, slice_get}
use Rattle.lisa_tree.specs.declared.tokens.Shape.{Shape}
use Rattle.lisa_tree.specs.Expressions as exprs
use Rattle.lisa_tree.specs.Expressions.{ExprTree}
use Rattle.lisa_tree.specs.Descriptions as trees
use Rattle.lisa_tree.specs.Descriptions.{ResourceTree, DescriptionTree}
use Rattle.lisa_tree.specs.declared.declared.Meaning.{Meaning}
use Rattle.lisa_tree.specs.declared.declared.Meaning.TheVariants as meanings
use Rattle.lisa_tree.specs.Operations.{own_stage}
use Rattle.lisa_tree.specs.Meanings.{meaning}
use Rattle.description_places.specs.Scopes.{Scope}
use Rattle.lisa_meaning.specs.Values.{Array, register_place, named_array, field_place, shape_at}
use Rattle.behavior_plans.specs.Terms.{TermTree}
use Rattle.behavior_plans.specs.Spots as spots
use Rattle.behavior_plans.specs.Spots.{SpotTree}
use Rattle.lisa_eval.specs.Resolving.{local_slot, boundary_place, resolved_term}

-- a register by its number among the resources
abbrev pub resource_spot : DescriptionTree → ℕ → Option ResourceTree → Option SpotTree
resource_spot d k None = None
resource_spot d k (Some (trees.Register word shape name None)) = Some (spots.Register (register_place d k))
resource_spot d k (Some (trees.Register word shape name (Some depth))) = None
resource_spot d k (Some (trees.Clocked word shape name)) = Some (spots.Register (register_place d k))
resource_spot d k (Some (trees.Memory word shape name depth)) = None
resource_spot d k (Some (trees.Pin shape name)) = None
resource_spot d k (Some (trees.Pipeline name stages)) = None
resource_spot d k (Some (trees.Fields pipe fields)) = None

abbrev pub meant_spot : DescriptionTree → Meaning → Option SpotTree
meant_spot d meanings.Nothing = None
meant_spot d (meanings.Resource k) = resource_spot d k (slice_get d.resources k)
meant_spot d (meanings.Declared i) = None

-- a local goes before all else
abbrev pub local_spot : Option ℕ → Option SpotTree → Option SpotTree
local_spot None other = other
local_spot (Some slot) other = Some (spots.Local slot)

abbrev pub element_spot : Option Array → Option TermTree → Option SpotTree
element_spot None index = None
element_spot (Some a) index = option_map (λ (t : TermTree). spots.Element a.shape a.place (a.depth - 1) t) index

abbrev pub field_spot : DescriptionTree → ℕ → ℕ → Option Shape → Option SpotTree
field_spot d s f None = None
field_spot d s f (Some shape) = Some (spots.Output shape (boundary_place d s f))

-- the boundary behind the own stage
abbrev pub output_spot : DescriptionTree → Option ℕ → Option ℕ → Option SpotTree
output_spot d None f = None
output_spot d (Some s) None = None
output_spot d (Some s) (Some f) = field_spot d s f (shape_at d f)

-- what is assigned to; no other expression is a place
abbrev pub resolved_spot : DescriptionTree → ℕ → Scope → ExprTree → Option SpotTree
resolved_spot d o scope (exprs.Number v base) = None
resolved_spot d o scope (exprs.Named n) = local_spot (local_slot n scope) (meant_spot d (meaning d o n))
resolved_spot d o scope (exprs.Element n index) = element_spot (named_array d o n) (resolved_term d o scope index)
resolved_spot d o scope (exprs.Input field) = None
resolved_spot d o scope (exprs.Output field) = output_spot d (own_stage d o) (field_place d field)
resolved_spot d o scope (exprs.Boundary pipe before after field) = None
resolved_spot d o scope exprs.Decoded = None
resolved_spot d o scope (exprs.Cast shape a) = None
resolved_spot d o scope (exprs.Complement a) = None
resolved_spot d o scope (exprs.Negate a) = None
resolved_spot d o scope (exprs.Two operator a b) = None
resolved_spot d o scope (exprs.Choose c a b) = None
