-- What follows from rules that rest on each other.
use Rattle.std.specs.Prelude.{ℕ, zero, suc, ◌≡◌, List, [], ◌∷◌, Option, None, Some, sum_by, cond}
use Rattle.std.specs.Option.{is_some}

-- a table's entry
abbrev pub entry : {T : Type 0} → List (Option T) → ℕ → Option T
entry [] a = None
entry (x ∷ xs) zero = x
entry (x ∷ xs) (suc a) = entry xs a

-- A node has a value where it follows from a table of values that nodes have. Where none follows, the node is open.
pub data Settles {T : Type 0} (step : (ℕ → Option T) → ℕ → Option T) : ℕ → T → Type 0 where
  settled : {a : ℕ} {t : T} (known : ℕ → Option T) → ((b : ℕ) (u : T) → known b ≡ Some u → Settles step b u) → step known a ≡ Some t → Settles step a t

-- one table has all that another has
abbrev pub IsWithin : {T : Type 0} → (ℕ → Option T) → (ℕ → Option T) → Type 0
IsWithin {T = T} known table = (b : ℕ) (u : T) → known b ≡ Some u → table b ≡ Some u

-- what follows from a table follows from a larger one
abbrev pub IsMonotone : {T : Type 0} → ((ℕ → Option T) → ℕ → Option T) → Type 0
IsMonotone {T = T} step = (known table : ℕ → Option T) → IsWithin known table → (a : ℕ) (t : T) → step known a ≡ Some t → step table a ≡ Some t

-- how many entries are missing
abbrev pub missing : {T : Type 0} → List (Option T) → ℕ
missing table = sum_by (λ x. cond (is_some x) 0 1) table

-- each entry follows from the table, and is what the node has
pub record IsSound {T : Type 0} (step : (ℕ → Option T) → ℕ → Option T) (table : List (Option T)) : Type 0 where
  pub has : (a : ℕ) (t : T) → entry table a ≡ Some t → Settles step a t
  pub follows : (a : ℕ) (t : T) → entry table a ≡ Some t → step (entry table) a ≡ Some t
