-- Names that two things of one class share, and what stands twice.
use Rattle.std.specs.Prelude.{ℕ, ◌+◌, Bool, true, false, List, [], ◌∷◌, ◌++◌, map, take, Option, None, Some, cond, nat_lt, ◌||◌, option_map}
use Rattle.std.specs.List.{list_any}
use Rattle.std.specs.Option.{option_or, is_some}
use Rattle.lisa_tree.specs.declared.tokens.Shape.{Shape}
use Rattle.lisa_tree.specs.declared.faults.DescFault.{DescFault}
use Rattle.lisa_tree.specs.declared.faults.DescFault.TheVariants as faults
use Rattle.lisa_tree.specs.Descriptions as trees
use Rattle.lisa_tree.specs.Descriptions.{ResourceTree, SectionTree, DescriptionTree}
use Rattle.description_places.specs.declared.sites.Region.{Region}
use Rattle.description_places.specs.declared.sites.Region.TheVariants as regions
use Rattle.description_places.specs.Scopes.{Scope, local_named}
use Rattle.description_places.specs.Places.{Condition, Resource, Head, Section, Declared, Alternatives, Local, Counts}
use Rattle.lisa_tree.specs.Same.{same_name}
use Rattle.lisa_tree.specs.Resources.{resource_at, is_pipe}
use Rattle.lisa_tree.specs.Operations.{number_of, name_at}
use Rattle.lisa_tree.specs.Declarations.{declared_at, entries_before}

abbrev pub duplicate_fault : Bool → List ℕ → Option DescFault
duplicate_fault doubled n = cond doubled (Some (faults.Duplicate n)) None

-- of where a name stands first: it stands before the number
abbrev pub earlier : Option ℕ → ℕ → Bool
earlier None k = false
earlier (Some i) k = nat_lt i k

-- the first of the names that an earlier one equals, also one of those before them
abbrev pub again_in : (before names : List (List ℕ)) → Option (List ℕ)
again_in before [] = None
again_in before (n ∷ rest) = cond (list_any (same_name n) before) (Some n) (again_in (before ++ n ∷ []) rest)

abbrev pub list_fault : List (List ℕ) → Option DescFault
list_fault names = option_map faults.Duplicate (again_in [] names)

-- ---- resources

abbrev pub is_fields : ResourceTree → Bool
is_fields (trees.Fields pipe fields) = true
is_fields _ = false

abbrev pub field_names : List (Shape × List ℕ) → List (List ℕ)
field_names fields = map (λ field. field.1) fields

-- an earlier resource has the name
abbrev pub named_fault : DescriptionTree → ℕ → List ℕ → Option DescFault
named_fault d k n = duplicate_fault (earlier (resource_at d n) k) n

-- an earlier resource has the pipeline's name or is a pipeline too, or two stages share a name; of the fields of boundaries likewise
abbrev pub resource_fault : DescriptionTree → ℕ → ResourceTree → Option DescFault
resource_fault d k (trees.Register word shape n depth) = named_fault d k n
resource_fault d k (trees.Clocked word shape n) = named_fault d k n
resource_fault d k (trees.Memory word shape n depth) = named_fault d k n
resource_fault d k (trees.Pin shape n) = named_fault d k n
resource_fault d k (trees.Pipeline n stages) = option_or (duplicate_fault (earlier (resource_at d n) k || list_any is_pipe (take k d.resources)) n) (list_fault stages)
resource_fault d k (trees.Fields pipe fields) = option_or (duplicate_fault (list_any is_fields (take k d.resources)) pipe) (list_fault (field_names fields))

-- ---- operations

-- a resource or an earlier operation has the name
abbrev pub is_head_taken : DescriptionTree → ℕ → List ℕ → Bool
is_head_taken d o n = is_some (resource_at d n) || earlier (number_of d n) o

abbrev pub head_fault : DescriptionTree → ℕ → List ℕ → Option DescFault
head_fault d o n = duplicate_fault (is_head_taken d o n) n

-- a section is of this kind
abbrev pub is_of : Region → SectionTree → Bool
is_of regions.Declares (trees.Declares all) = true
is_of regions.Coding (trees.Coding part) = true
is_of regions.Syntax (trees.Syntax all) = true
is_of regions.Behavior (trees.Behavior all) = true
is_of regions.Expression (trees.Expression e) = true
is_of regions.Activation (trees.Activation all) = true
is_of _ _ = false

-- an earlier section of the operation is of the same kind
abbrev pub section_fault : DescriptionTree → ℕ → Region → List SectionTree → ℕ → Option DescFault
section_fault d o region all k = duplicate_fault (list_any (is_of region) (take k all)) (name_at d o)

-- a resource has the name, or an earlier declaration of the operation
abbrev pub is_declared_before : DescriptionTree → ℕ → ℕ → List ℕ → Bool
is_declared_before d o k n = is_some (resource_at d n) || earlier (declared_at d o n) (entries_before d o + k)

abbrev pub declared_fault : DescriptionTree → ℕ → ℕ → List ℕ → Option DescFault
declared_fault d o k n = duplicate_fault (is_declared_before d o k n) n

-- a local in scope, a declared name of the operation or a resource has the name
abbrev pub is_taken : DescriptionTree → ℕ → Scope → List ℕ → Bool
is_taken d o scope n = is_some (local_named n scope) || is_some (declared_at d o n) || is_some (resource_at d n)

abbrev pub local_fault : DescriptionTree → ℕ → Scope → List ℕ → Option DescFault
local_fault d o scope n = duplicate_fault (is_taken d o scope n) n

-- the variable of a loop is a local where the head gives it a type
abbrev pub counter_fault : DescriptionTree → ℕ → Scope → Option Shape → List ℕ → Option DescFault
counter_fault d o scope None n = None
counter_fault d o scope (Some shape) n = local_fault d o scope n

-- two things of one class share a name, or something stands twice
abbrev pub duplicate : DescriptionTree → Condition DescFault
duplicate d o region scope (Resource k r) = resource_fault d k r
duplicate d o region scope (Head operation) = head_fault d o operation.name
duplicate d o region scope (Section all k) = section_fault d o region all k
duplicate d o region scope (Declared k n) = declared_fault d o k n
duplicate d o region scope (Alternatives all) = list_fault all
duplicate d o region scope (Local shape n value) = local_fault d o scope n
duplicate d o region scope (Counts head) = counter_fault d o scope head.shape head.name
duplicate d o region scope _ = None
