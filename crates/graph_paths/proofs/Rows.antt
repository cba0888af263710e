-- Rows whose nodes are all below the number of nodes.
use Rattle.std.proofs.Common.{◌≡◌, ℕ, zero, suc, ◌<◌, List, [], ◌∷◌, true, nat_lt, length}
use Rattle.std.specs.List.{list_all}
use Rattle.std.specs.Global.{Vec}
use Rattle.std.proofs.lemmas.Bool.{ltb-true}
use Rattle.graph_paths.specs.Paths.{targets, is_in, AreNodes}
use Rattle.graph_paths.proofs.Listed.{all_of, on_left, on_right}

row_below : (n : ℕ) (next : List (Vec ℕ)) → list_all (λ (v : Vec ℕ). list_all (λ b. nat_lt b n) v.items) next ≡ true → (a b : ℕ) → is_in b (targets next a) ≡ true → b < n
row_below n [] all a b e = absurd (cc e)
row_below n (v ∷ next) all zero b e = ltb-true b n (all_of (λ b. nat_lt b n) b v.items (on_left _ _ all) e)
row_below n (v ∷ next) all (suc a) b e = row_below n next (on_right (list_all (λ b. nat_lt b n) v.items) _ all) a b e

pub rows_below : (next : List (Vec ℕ)) → list_all (λ (v : Vec ℕ). list_all (λ b. nat_lt b (length next)) v.items) next ≡ true → AreNodes next
rows_below next all = λ a b e. row_below (length next) next all a b e
