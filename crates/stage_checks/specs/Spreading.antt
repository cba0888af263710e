-- Numbers that spread along the edges of a graph from the nodes that have them, and the greatest one that comes to each node.
use Rattle.std.specs.Prelude.{ℕ, zero, suc, ◌≡◌, ◌≤◌, List, [], ◌∷◌, Bool, true, false, Option, None, Some, cond, length, sum_by}
use Rattle.std.specs.Option.{is_some, option_or}
use Rattle.std.specs.Global.{Vec}
use Rattle.graph_paths.specs.Paths.{is_in, Leads}

-- Row `t` of the sources has the nodes that the number `t` starts from.
pub data Spreads (next sources : List (Vec ℕ)) : ℕ → ℕ → Type 0 where
  source : {b t : ℕ} → Leads sources t b → Spreads next sources b t
  along : {a b t : ℕ} → Spreads next sources a t → Leads next a b → Spreads next sources b t

-- the greatest number that comes to a node, or none where none does
abbrev pub IsGreatest : List (Vec ℕ) → List (Vec ℕ) → ℕ → Option ℕ → Type 0
IsGreatest next sources b None = (t : ℕ) → Spreads next sources b t → ⊥
IsGreatest next sources b (Some t) = Spreads next sources b t × ((u : ℕ) → Spreads next sources b u → u ≤ t)

-- ---- a table of numbers, and how far it is filled

abbrev pub entry : List (Option ℕ) → ℕ → Option ℕ
entry [] b = None
entry (x ∷ xs) zero = x
entry (x ∷ xs) (suc b) = entry xs b

-- a number, unless there is one already
abbrev pub given : Option ℕ → Bool → ℕ → Option ℕ
given x b rank = option_or x (cond b (Some rank) None)

abbrev pub unset : List (Option ℕ) → ℕ
unset table = sum_by (λ x. cond (is_some x) 0 1) table

abbrev pub AtLeast : ℕ → Option ℕ → Type 0
AtLeast t None = ⊥
AtLeast t (Some u) = t ≤ u

-- Each entry came to its node. What leads on from a node with an entry, but for those that are still to be followed, has one that is no less.
pub record Spreading (next sources : List (Vec ℕ)) (rank : ℕ) (table : List (Option ℕ)) (work : List ℕ) : Type 0 where
  pub len : length table ≡ length next
  pub sound : (b t : ℕ) → entry table b ≡ Some t → Spreads next sources b t
  pub high : (b t : ℕ) → entry table b ≡ Some t → rank ≤ t
  pub works : (b : ℕ) → is_in b work ≡ true → entry table b ≡ Some rank
  pub closed : (b c t : ℕ) → entry table b ≡ Some t → is_in b work ≡ false → Leads next b c → AtLeast t (entry table c)

-- each source of a number from the rank on has an entry that is no less
abbrev pub AreSourced : List (Vec ℕ) → ℕ → List (Option ℕ) → Type 0
AreSourced sources rank table = (b t : ℕ) → rank ≤ t → Leads sources t b → AtLeast t (entry table b)
