-- Ranks that no edge lowers.
use Rattle.std.proofs.Common.{◌≡◌, ◌<◌, ◌≤◌, ◌+◌, ℕ, List, [], true, nat_lt, nat_le, length, arith, ⊎_elim, subst, sym}
use Rattle.std.specs.Global.{Vec}
use Rattle.std.specs.List.{list_all}
use Rattle.std.proofs.lemmas.Bool.{cases_eq, ltb-true, leb-true}
use Rattle.graph_paths.specs.Paths.{targets, Leads, Reaches, edge, more}
use Rattle.graph_paths.specs.Ranks.{rank, AreRanks}
use Rattle.graph_paths.proofs.Long.{within}
use Rattle.graph_paths.proofs.Listed.{all_of}

rises : (next : List (Vec ℕ)) (ranks : List ℕ) → AreRanks next ranks → (a c : ℕ) → ((b : ℕ) → Leads next a b → rank ranks a < rank ranks b) → Reaches next a c → rank ranks a < rank ranks c
rises next ranks keep a c first (edge e) = first c e
rises next ranks keep a c first (more {b = m} r e) =
    let l : rank ranks a < rank ranks m = rises next ranks keep a m first r in
    let k : rank ranks m ≤ rank ranks c = keep m c e in
    omega (arith, l, k)

-- a node each of whose edges raises the rank doesn't reach itself
pub not_circular : (next : List (Vec ℕ)) (ranks : List ℕ) (a : ℕ) → AreRanks next ranks → list_all (λ b. nat_lt (rank ranks a) (rank ranks b)) (targets next a) ≡ true → Reaches next a a → ⊥
not_circular next ranks a keep raised r =
    let above : (b : ℕ) → Leads next a b → rank ranks a < rank ranks b =
    λ b e. ltb-true (rank ranks a) (rank ranks b) (all_of (λ c. nat_lt (rank ranks a) (rank ranks c)) b (targets next a) raised e) in
    let l : rank ranks a < rank ranks a = rises next ranks keep a a above r in
    omega (arith, l)

-- the edges of one more node
pub one_more_row : (next : List (Vec ℕ)) (ranks : List ℕ) (k : ℕ) → ((a b : ℕ) → a < k → Leads next a b → rank ranks a ≤ rank ranks b)
    → list_all (λ b. nat_le (rank ranks k) (rank ranks b)) (targets next k) ≡ true → (a b : ℕ) → a < k + 1 → Leads next a b → rank ranks a ≤ rank ranks b
one_more_row next ranks k old row a b h e = ⊎_elim
    (λ (same : a ≡ k). subst (λ (z : ℕ). rank ranks z ≤ rank ranks b) (sym same)
    (leb-true (rank ranks k) (rank ranks b) (all_of (λ c. nat_le (rank ranks k) (rank ranks c)) b (targets next k) row (subst (λ (z : ℕ). Leads next z b) same e))))
    (λ other. old a b (omega (arith, h, other)) e)
    (cases_eq a k)

pub each_row : (next : List (Vec ℕ)) (ranks : List ℕ) (k : ℕ) → length next ≤ k → ((a b : ℕ) → a < k → Leads next a b → rank ranks a ≤ rank ranks b) → AreRanks next ranks
each_row next ranks k h old = λ a b e. let l : a < length next = within next a b e in old a b (omega (arith, h, l)) e

pub no_ranks : (next : List (Vec ℕ)) → AreRanks next []
no_ranks next = λ a b e. omega arith
