-- Names that are different.
use Rattle.std.specs.Prelude.{◌≡◌, ◌≢◌, ℕ, List, map, filter_map, AllPairs, nat_eq, cond, Option, None, Some}
use Rattle.lisa_tree.specs.Descriptions as trees
use Rattle.lisa_tree.specs.Descriptions.{ResourceTree, DescriptionTree}
use Rattle.description_places.specs.Scopes.{Scope, local_named}
use Rattle.lisa_tree.specs.Resources.{resource_at, fields}
use Rattle.lisa_tree.specs.Declarations.{Entry, entries, declared_at}

-- no two of these names are the same
abbrev pub AreDistinct : List (List ℕ) → Type 0
AreDistinct names = AllPairs (λ n m. n ≢ m) names

-- a resource's name; the fields of boundaries have none of their own
abbrev pub name_of : ResourceTree → Option (List ℕ)
name_of (trees.Register word shape n depth) = Some n
name_of (trees.Clocked word shape n) = Some n
name_of (trees.Memory word shape n depth) = Some n
name_of (trees.Pin shape n) = Some n
name_of (trees.Pipeline n stages) = Some n
name_of (trees.Fields pipe fields) = None

abbrev pub resource_names : DescriptionTree → List (List ℕ)
resource_names d = filter_map name_of d.resources

abbrev pub operation_names : DescriptionTree → List (List ℕ)
operation_names d = map (λ operation. operation.name) d.operations

abbrev pub own_name : ℕ → Entry → Option (List ℕ)
own_name o e = cond (nat_eq e.operation o) (Some e.name) None

-- the names that an operation declares
abbrev pub declared_names : DescriptionTree → ℕ → List (List ℕ)
declared_names d o = filter_map (own_name o) (entries d)

-- the fields of the pipeline's boundaries
abbrev pub field_names : DescriptionTree → List (List ℕ)
field_names d = map (λ field. field.1) (fields d)

-- nothing else that is in scope has this name
pub record IsFresh (d : DescriptionTree) (o : ℕ) (scope : Scope) (n : List ℕ) : Type 0 where
  pub no_local : local_named n scope ≡ None
  pub no_declared : declared_at d o n ≡ None
  pub no_resource : resource_at d n ≡ None
