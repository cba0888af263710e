-- The graph of nodes, and what its edges are made of.
use Rattle.std.specs.Prelude.{ℕ, ◌+◌, ◌-◌, ◌<◌, ◌≡◌, Bool, false, true, not, ◌&&◌, ◌||◌, nat_eq, nat_lt, List, length, map, Option, None, Some}
use Rattle.std.specs.List.{list_any}
use Rattle.std.specs.Global.{Vec}
use Rattle.lisa_tree.specs.Descriptions.{DescriptionTree}
use Rattle.graph_paths.specs.Paths.{targets, is_in, Leads, Reaches, AreNodes}
use Rattle.lisa_tree.specs.Declarations.{Choice, choices, entries, what_at, is_reference, owner_at, entry_name_at, declared_at, alternatives_at, above}
use Rattle.lisa_tree.specs.Paths.{Operation, Choosing, Declaring, node_at, node_count, entry_node, leads}

-- next has the edges between all nodes, by their numbers
pub record IsGraph (d : DescriptionTree) (next : List (Vec ℕ)) : Type 0 where
  pub count : length next ≡ node_count d
  pub exact : (a b : ℕ) → a < node_count d → b < node_count d → is_in b (targets next a) ≡ leads d (node_at d a) (node_at d b)
  pub nodes : AreNodes next

-- a path of edges between declared names
pub data Hands (d : DescriptionTree) (next : List (Vec ℕ)) : ℕ → ℕ → Type 0 where
  directly : {i j : ℕ} → Leads next (entry_node d i) (entry_node d j) → Hands d next i j
  further : {i k j : ℕ} → Hands d next i k → Leads next (entry_node d k) (entry_node d j) → Hands d next i j

-- next has edges between nodes, by their numbers, by which all that they lead to is reached, and no other ones
pub record IsOutline (d : DescriptionTree) (next : List (Vec ℕ)) : Type 0 where
  pub count : length next ≡ node_count d
  pub edges : (a b : ℕ) → Leads next a b → leads d (node_at d a) (node_at d b) ≡ true
  pub reached : (a b : ℕ) → a < node_count d → b < node_count d → leads d (node_at d a) (node_at d b) ≡ true → Reaches next a b
  pub handed : (i j : ℕ) → leads d (Declaring i) (Declaring j) ≡ true → Hands d next i j
  pub nodes : AreNodes next

-- a number is one of so many that begin at a base, and what it stands for passes the test
abbrev pub ranged : ℕ → ℕ → (ℕ → Bool) → ℕ → Bool
ranged base count test a = not (nat_lt a base) && (nat_lt (a - base) count && test (a - base))

-- a number stands in a list that is counted from a base
abbrev pub shifted : ℕ → List ℕ → ℕ → Bool
shifted base numbers b = not (nat_lt b base) && is_in (b - base) numbers

-- the numbers where choices and declared names begin
abbrev pub first_choice : DescriptionTree → ℕ
first_choice d = length d.operations

abbrev pub first_entry : DescriptionTree → ℕ
first_entry d = length d.operations + length (choices d)

-- ---- edges by their sorts, as far as the first so many choices or declared names make them

-- from an operation to its choices
abbrev pub to_choices : DescriptionTree → ℕ → ℕ → ℕ → Bool
to_choices d k a b = ranged (first_choice d) k (λ c. leads d (Operation a) (Choosing c)) b

-- from an operation to its references
abbrev pub to_references : DescriptionTree → ℕ → ℕ → ℕ → Bool
to_references d k a b = ranged (first_entry d) k (λ i. leads d (Operation a) (Declaring i)) b

-- from a choice to its alternatives
abbrev pub to_alternatives : DescriptionTree → ℕ → ℕ → ℕ → Bool
to_alternatives d k a b = ranged (first_choice d) k (λ c. is_in b (alternatives_at d c)) a

-- from a declared name to what it chooses among
abbrev pub to_chosen_by : DescriptionTree → ℕ → ℕ → Bool
to_chosen_by d i b = ranged (first_choice d) (length (choices d)) (λ c. leads d (Declaring i) (Choosing c)) b

abbrev pub to_chosen : DescriptionTree → ℕ → ℕ → ℕ → Bool
to_chosen d k a b = ranged (first_entry d) k (λ i. to_chosen_by d i b) a

-- from a reference to what it may mean
abbrev pub to_meanings_of : DescriptionTree → ℕ → ℕ → Bool
to_meanings_of d i b = ranged (first_entry d) (length (entries d)) (λ j. leads d (Declaring i) (Declaring j)) b

abbrev pub to_meanings : DescriptionTree → ℕ → ℕ → ℕ → Bool
to_meanings d k a b = ranged (first_entry d) k (λ i. to_meanings_of d i b) a

-- those of all other sorts
abbrev pub plain_edges : DescriptionTree → ℕ → ℕ → Bool
plain_edges d a b = ((to_choices d (length (choices d)) a b || to_references d (length (entries d)) a b) || to_alternatives d (length (choices d)) a b) || to_chosen d (length (entries d)) a b

-- from a declared name to those of its row
abbrev pub to_row : DescriptionTree → List (Vec ℕ) → ℕ → ℕ → Bool
to_row d rows i b = shifted (first_entry d) (targets rows i) b

abbrev pub to_rows : DescriptionTree → List (Vec ℕ) → ℕ → ℕ → ℕ → Bool
to_rows d rows k a b = ranged (first_entry d) k (λ i. to_row d rows i b) a

-- ---- declared names by their numbers

abbrev pub is_reference_at : DescriptionTree → ℕ → Bool
is_reference_at d i = is_reference (what_at d i)

abbrev pub is_at : Option ℕ → ℕ → Bool
is_at None i = false
is_at (Some k) i = nat_eq k i

abbrev pub first_named : DescriptionTree → ℕ → Option (List ℕ) → Bool
first_named d i None = false
first_named d i (Some n) = is_at (declared_at d (owner_at d i) n) i

-- the operation declares the name here first
abbrev pub is_first : DescriptionTree → ℕ → Bool
is_first d i = first_named d i (entry_name_at d i)

abbrev pub first_in : DescriptionTree → ℕ → ℕ → Bool
first_in d o i = nat_eq (owner_at d i) o && is_first d i

abbrev pub hit_named : DescriptionTree → ℕ → Option (List ℕ) → ℕ → Bool
hit_named d p None j = false
hit_named d p (Some n) j = is_at (declared_at d p n) j

-- the name of one entry is declared by an operation with another
abbrev pub hits : DescriptionTree → ℕ → ℕ → ℕ → Bool
hits d p i j = hit_named d p (entry_name_at d i) j

-- what a name means in the operations above its own, where it is declared first
abbrev pub means : DescriptionTree → ℕ → ℕ → Bool
means d i j = is_first d i && list_any (λ p. hits d p i j) (above d (owner_at d i))

-- the operations that declare choices
abbrev pub owners : List Choice → List ℕ
owners cs = map (λ (c : Choice). c.operation) cs
