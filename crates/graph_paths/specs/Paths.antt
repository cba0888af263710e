-- Paths in a graph whose nodes are numbers.
use Rattle.std.specs.Prelude.{Option, None, Some, ℕ, zero, suc, ◌≡◌, ◌<◌, List, [], ◌∷◌, Bool, true, false, cond, nat_eq, length, sum_by}
use Rattle.std.specs.List.{list_any}
use Rattle.std.specs.Global.{Vec}

-- where a node leads to
abbrev pub targets : List (Vec ℕ) → ℕ → List ℕ
targets [] a = []
targets (v ∷ next) zero = v.items
targets (v ∷ next) (suc a) = targets next a

abbrev pub is_in : ℕ → List ℕ → Bool
is_in b bs = list_any (nat_eq b) bs

abbrev pub Leads : List (Vec ℕ) → ℕ → ℕ → Type 0
Leads next a b = is_in b (targets next a) ≡ true

-- a path of one edge or more
pub data Reaches (next : List (Vec ℕ)) : ℕ → ℕ → Type 0 where
  edge : {a b : ℕ} → Leads next a b → Reaches next a b
  more : {a b c : ℕ} → Reaches next a b → Leads next b c → Reaches next a c

-- whether a node was seen
abbrev pub saw : List Bool → ℕ → Bool
saw [] b = false
saw (s ∷ seen) zero = s
saw (s ∷ seen) (suc b) = saw seen b

-- how many nodes were not seen
abbrev pub unseen : List Bool → ℕ
unseen seen = sum_by (λ s. cond s 0 1) seen

-- each edge leads to a node
abbrev pub AreNodes : List (Vec ℕ) → Type 0
AreNodes next = (a b : ℕ) → Leads next a b → b < length next

-- no node reaches itself
abbrev pub IsAcyclic : List (Vec ℕ) → Type 0
IsAcyclic next = (a : ℕ) → Reaches next a a → ⊥

-- a path of so many edges begins at a node
pub data Long (next : List (Vec ℕ)) : ℕ → ℕ → Type 0 where
  still : {a : ℕ} → Long next 0 a
  onward : {k a b : ℕ} → Leads next a b → Long next k b → Long next (suc k) a

-- the first node that reaches itself, or none
abbrev pub IsFirstCircular : List (Vec ℕ) → Option ℕ → Type 0
IsFirstCircular next None = IsAcyclic next
IsFirstCircular next (Some a) = Reaches next a a × ((b : ℕ) → b < a → Reaches next b b → ⊥)
