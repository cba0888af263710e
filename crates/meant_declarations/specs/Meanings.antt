-- What references directly mean, as a graph of declared names.
use Rattle.std.specs.Prelude.{◌≡◌, ◌<◌, ℕ, true, List, [], ◌∷◌, ◌++◌, Option, None, Some, cond, length}
use Rattle.std.specs.Option.{option_to_list}
use Rattle.std.specs.Global.{Vec}
use Rattle.lisa_tree.specs.Descriptions.{DescriptionTree}
use Rattle.lisa_tree.specs.Declarations.{entries, declared_at, what_at, is_reference, owner_at, entry_name_at, above}
use Rattle.graph_paths.specs.Paths.{targets, is_in, Leads, Reaches}

-- what operations declare by a name, as far as they do
abbrev pub declared_by : DescriptionTree → List ℕ → List ℕ → List ℕ
declared_by d n [] = []
declared_by d n (p ∷ rest) = option_to_list (declared_at d p n) ++ declared_by d n rest

abbrev declared_above : DescriptionTree → ℕ → Option (List ℕ) → List ℕ
declared_above d o None = []
declared_above d o (Some n) = declared_by d n (above d o)

-- what a reference directly means: what the operations above its own declare by its name; other declared names mean nothing else
abbrev pub direct_meanings : DescriptionTree → ℕ → List ℕ
direct_meanings d i = cond (is_reference (what_at d i)) (declared_above d (owner_at d i) (entry_name_at d i)) []

-- edges from references to some of what they directly mean, from which the rest of it is reached
pub record AreSources (d : DescriptionTree) (next : List (Vec ℕ)) : Type 0 where
  pub count : length next ≡ length (entries d)
  pub direct : (i j : ℕ) → Leads next i j → is_in j (direct_meanings d i) ≡ true
  pub reached : (i j : ℕ) → is_in j (direct_meanings d i) ≡ true → Reaches next i j

-- such edges, and these edges the other way round
pub record Meant : Type 0 where
  pub next : List (Vec ℕ)
  pub back : List (Vec ℕ)

pub record AreMeanings (d : DescriptionTree) (m : Meant) : Type 0 where
  pub sources : AreSources d m.next
  pub back_count : length m.back ≡ length (entries d)
  pub back : (i j : ℕ) → is_in i (targets m.back j) ≡ is_in j (targets m.next i)

-- A declared name leads to itself, and a reference to all that its direct meanings lead to.
pub data LeadsTo (d : DescriptionTree) : ℕ → ℕ → Type 0 where
  here : {i j : ℕ} → i < length (entries d) → i ≡ j → LeadsTo d i j
  onward : {i k j : ℕ} → is_in k (direct_meanings d i) ≡ true → LeadsTo d k j → LeadsTo d i j

-- it holds of some declared name that this one leads to
abbrev pub SomeLedTo : DescriptionTree → (ℕ → Type 0) → ℕ → Type 0
SomeLedTo d P i = (j : ℕ) × (LeadsTo d i j × P j)
