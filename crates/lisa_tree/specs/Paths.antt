-- What leads where: operations to what they list and to their references, and these to what they may mean.
use Rattle.std.specs.Prelude.{ℕ, ◌+◌, ◌-◌, Bool, true, false, length, Option, None, Some, cond, nat_eq, nat_lt, ◌&&◌, slice_get}
use Rattle.std.specs.List.{list_any}
use Rattle.lisa_tree.specs.Descriptions.{DescriptionTree}
use Rattle.lisa_tree.specs.declared.declared.What.{What}
use Rattle.lisa_tree.specs.declared.declared.What.TheVariants as whats
use Rattle.lisa_tree.specs.Declarations.{Entry, Choice, entries, choices, declared_at, alternatives_at, above}

-- an operation, a choice or a declared name
pub data Node : Type 0 where
  Operation : ℕ → Node
  Choosing : ℕ → Node
  Declaring : ℕ → Node

-- Nodes are numbered: first the operations, then the choices, then the declared names.
abbrev pub node_at : DescriptionTree → ℕ → Node
node_at d a =
    cond (nat_lt a (length d.operations)) (Operation a)
    (cond (nat_lt (a - length d.operations) (length (choices d))) (Choosing (a - length d.operations))
    (Declaring (a - length d.operations - length (choices d))))

abbrev pub choice_node : DescriptionTree → ℕ → ℕ
choice_node d c = length d.operations + c

abbrev pub entry_node : DescriptionTree → ℕ → ℕ
entry_node d i = length d.operations + length (choices d) + i

abbrev pub node_count : DescriptionTree → ℕ
node_count d = length d.operations + length (choices d) + length (entries d)

abbrev owns_choice : ℕ → Option Choice → Bool
owns_choice o None = false
owns_choice o (Some c) = nat_eq c.operation o

abbrev pub refers : What → Bool
refers whats.Reference = true
refers _ = false

abbrev owns_reference : ℕ → Option Entry → Bool
owns_reference o None = false
owns_reference o (Some e) = nat_eq e.operation o && refers e.what

abbrev pub chooses : What → ℕ → Bool
chooses (whats.Group k) c = nat_eq k c
chooses (whats.Instance k) c = nat_eq k c
chooses _ c = false

abbrev entry_chooses : Option Entry → ℕ → Bool
entry_chooses None c = false
entry_chooses (Some e) c = chooses e.what c

abbrev is_entry : Option ℕ → ℕ → Bool
is_entry None j = false
is_entry (Some i) j = nat_eq i j

-- the reference may mean the declared name by an operation above its own
abbrev means_next : DescriptionTree → Option Entry → ℕ → Bool
means_next d None j = false
means_next d (Some e) j = refers e.what && list_any (λ p. is_entry (declared_at d p e.name) j) (above d e.operation)

-- An operation leads to its groups and instances and to its references, these to their alternatives, a declared group or instance to
-- what it chooses among, and a reference to what each operation above declares or references by its name.
abbrev pub leads : DescriptionTree → Node → Node → Bool
leads d (Operation o) (Choosing c) = owns_choice o (slice_get (choices d) c)
leads d (Operation o) (Declaring i) = owns_reference o (slice_get (entries d) i)
leads d (Choosing c) (Operation o) = list_any (nat_eq o) (alternatives_at d c)
leads d (Declaring i) (Choosing c) = entry_chooses (slice_get (entries d) i) c
leads d (Declaring i) (Declaring j) = means_next d (slice_get (entries d) i) j
leads d _ _ = false
