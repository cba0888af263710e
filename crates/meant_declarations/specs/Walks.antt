-- A walk along the edges of a graph from all marked nodes at once.
use Rattle.std.specs.Prelude.{◌≡◌, ◌<◌, ℕ, Bool, true, false, List, Option, None, Some, cond, not, length}
use Rattle.std.specs.Option.{is_some}
use Rattle.std.specs.Global.{Vec}
use Rattle.lisa_tree.specs.declared.declared.What.{What}
use Rattle.lisa_tree.specs.declared.declared.What.TheVariants as whats
use Rattle.graph_paths.specs.Paths.{Leads, is_in, saw}
use Rattle.least_fixed_points.specs.Settles.{entry}

-- a path of any number of edges from a node
pub data Comes (next : List (Vec ℕ)) : ℕ → ℕ → Type 0 where
  here : {a b : ℕ} → a < length next → a ≡ b → Comes next a b
  onward : {a b c : ℕ} → Comes next a b → Leads next b c → Comes next a c

-- a marked node from which a node is come to, or none where there is none
abbrev pub IsOrigin : List (Vec ℕ) → List Bool → ℕ → Option ℕ → Type 0
IsOrigin next starts b None = (a : ℕ) → saw starts a ≡ true → Comes next a b → ⊥
IsOrigin next starts b (Some a) = (saw starts a ≡ true) × Comes next a b

-- what a node has already is kept
abbrev pub kept : Option ℕ → Bool → ℕ → Option ℕ
kept (Some a) comes origin = Some a
kept None comes origin = cond comes (Some origin) None

-- what a walk keeps: for each node where it was come from, and from which nodes it still goes on
pub record Walked (next : List (Vec ℕ)) (starts : List Bool) (found : List (Option ℕ)) (work : List ℕ) : Type 0 where
  pub count : length found ≡ length next
  pub sound : (b a : ℕ) → entry found b ≡ Some a → (saw starts a ≡ true) × Comes next a b
  pub works : (b : ℕ) → is_in b work ≡ true → is_some (entry found b) ≡ true
  pub begun : (b : ℕ) → b < length next → saw starts b ≡ true → is_some (entry found b) ≡ true
  pub closed : (b c : ℕ) → is_some (entry found b) ≡ true → is_in b work ≡ false → Leads next b c → is_some (entry found c) ≡ true

-- a declared name that is no reference
abbrev pub is_declaration : Option What → Bool
is_declaration None = false
is_declaration (Some whats.Reference) = false
is_declaration (Some _) = true

-- the value of what was found
abbrev pub found_value : {T : Type 0} → (ℕ → Option T) → Option ℕ → Option T
found_value value None = None
found_value value (Some a) = value a

-- both have values, and these aren't the same
abbrev pub are_other : {T : Type 0} → (T → T → Bool) → Option T → Option T → Bool
are_other same (Some t) (Some u) = not (same t u)
are_other same _ _ = false
