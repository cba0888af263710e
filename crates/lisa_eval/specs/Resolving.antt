-- Expressions with their names resolved to places, where they name nothing that an operation declares.
use Rattle.std.specs.Prelude.{ℕ, suc, ◌+◌, ◌-◌, ◌*◌, List, [], ◌∷◌, length, Option, None, Some, option_map, cond, slice_get}
use Rattle.lisa_tree.specs.declared.tokens.Shape.{Shape}
use Rattle.lisa_tree.specs.Expressions as exprs
use Rattle.lisa_tree.specs.Expressions.{ExprTree}
use Rattle.lisa_tree.specs.Descriptions as trees
use Rattle.lisa_tree.specs.Descriptions.{ResourceTree, DescriptionTree}
use Rattle.lisa_tree.specs.declared.declared.Meaning.{Meaning}
use Rattle.lisa_tree.specs.declared.declared.Meaning.TheVariants as meanings
use Rattle.lisa_tree.specs.Same.{same_name}
use Rattle.lisa_tree.specs.Resources.{fields, stage_at}
use Rattle.lisa_tree.specs.Operations.{own_stage}
use Rattle.lisa_tree.specs.Meanings.{meaning}
use Rattle.description_places.specs.Scopes.{Scope}
use Rattle.lisa_meaning.specs.Values.{Array, register_place, pin_place, named_array, field_place, shape_at, stage_before}
use Rattle.behavior_plans.specs.Terms.{TermTree, Number, Register, Kept, Pin, Decoded, Local, Element, Input, Cast, Complement, Negate, Two, Choose}

-- ---- names

-- the slot of a local is its place in the scope
abbrev pub local_slot : List ℕ → Scope → Option ℕ
local_slot n [] = None
local_slot n (entry ∷ rest) = cond (same_name n entry.0) (Some 0) (option_map (λ (slot : ℕ). suc slot) (local_slot n rest))

-- a register or a pin by its number among the resources; a clocked register is read as the edge began
abbrev pub resource_term : DescriptionTree → ℕ → Option ResourceTree → Option TermTree
resource_term d k None = None
resource_term d k (Some (trees.Register word shape name None)) = Some (Register (register_place d k))
resource_term d k (Some (trees.Register word shape name (Some depth))) = None
resource_term d k (Some (trees.Clocked word shape name)) = Some (Kept (register_place d k))
resource_term d k (Some (trees.Memory word shape name depth)) = None
resource_term d k (Some (trees.Pin shape name)) = Some (Pin (pin_place d k))
resource_term d k (Some (trees.Pipeline name stages)) = None
resource_term d k (Some (trees.Fields pipe fields)) = None

abbrev pub meant_term : DescriptionTree → Meaning → Option TermTree
meant_term d meanings.Nothing = None
meant_term d (meanings.Resource k) = resource_term d k (slice_get d.resources k)
meant_term d (meanings.Declared i) = None

-- a local goes before all else
abbrev pub local_term : Option ℕ → Option TermTree → Option TermTree
local_term None other = other
local_term (Some slot) other = Some (Local slot)

abbrev pub name_term : DescriptionTree → ℕ → Scope → List ℕ → Option TermTree
name_term d o scope n = local_term (local_slot n scope) (meant_term d (meaning d o n))

-- ---- elements

abbrev pub element_term : Option Array → Option TermTree → Option TermTree
element_term None index = None
element_term (Some a) index = option_map (λ (t : TermTree). Element a.shape a.place (a.depth - 1) t) index

-- ---- boundaries

-- the place of a field among those of all boundaries; given is the stage before the boundary
abbrev pub boundary_place : DescriptionTree → ℕ → ℕ → ℕ
boundary_place d s f = s * length (fields d) + f

abbrev pub field_term : DescriptionTree → ℕ → ℕ → Option Shape → Option TermTree
field_term d s f None = None
field_term d s f (Some shape) = Some (Input shape (boundary_place d s f))

abbrev pub boundary_term : DescriptionTree → Option ℕ → Option ℕ → Option TermTree
boundary_term d None f = None
boundary_term d (Some s) None = None
boundary_term d (Some s) (Some f) = field_term d s f (shape_at d f)

-- ---- expressions

abbrev pub two_terms : (TermTree → TermTree → TermTree) → Option TermTree → Option TermTree → Option TermTree
two_terms make None b = None
two_terms make (Some a) None = None
two_terms make (Some a) (Some b) = Some (make a b)

abbrev pub choice_term : Option TermTree → Option TermTree → Option TermTree → Option TermTree
choice_term None a b = None
choice_term (Some c) a b = two_terms (λ (x y : TermTree). Choose c x y) a b

-- An expression of an operation, with these locals in scope. None where it names what an operation declares, or what there isn't.
abbrev pub resolved_term : DescriptionTree → ℕ → Scope → ExprTree → Option TermTree
resolved_term d o scope (exprs.Number v base) = Some (Number v)
resolved_term d o scope (exprs.Named n) = name_term d o scope n
resolved_term d o scope (exprs.Element n index) = element_term (named_array d o n) (resolved_term d o scope index)
resolved_term d o scope (exprs.Input field) = boundary_term d (stage_before (own_stage d o)) (field_place d field)
resolved_term d o scope (exprs.Output field) = boundary_term d (stage_before (own_stage d o)) (field_place d field)
resolved_term d o scope (exprs.Boundary pipe before after field) = boundary_term d (stage_at d before) (field_place d field)
resolved_term d o scope exprs.Decoded = Some Decoded
resolved_term d o scope (exprs.Cast shape a) = option_map (λ (t : TermTree). Cast shape t) (resolved_term d o scope a)
resolved_term d o scope (exprs.Complement a) = option_map (λ (t : TermTree). Complement t) (resolved_term d o scope a)
resolved_term d o scope (exprs.Negate a) = option_map (λ (t : TermTree). Negate t) (resolved_term d o scope a)
resolved_term d o scope (exprs.Two operator a b) = two_terms (λ (x y : TermTree). Two operator x y) (resolved_term d o scope a) (resolved_term d o scope b)
resolved_term d o scope (exprs.Choose c a b) = choice_term (resolved_term d o scope c) (resolved_term d o scope a) (resolved_term d o scope b)
