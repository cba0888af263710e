-- Counts that are known or not. From 2^64 - 1 on they stay there.
use Rattle.std.specs.Prelude.{ℕ, ◌+◌, ◌-◌, ◌*◌, ◌^◌, min, List, [], ◌∷◌, Option, None, Some}

-- what is known of the counts of nodes
abbrev pub Counts : Type 0
Counts = ℕ → Option ℕ

abbrev pub capped : ℕ → ℕ
capped n = min n (2 ^ 64 - 1)

-- two counts together, where both are known
abbrev pub plus : Option ℕ → Option ℕ → Option ℕ
plus None y = None
plus (Some m) None = None
plus (Some m) (Some n) = Some (capped (m + n))

abbrev pub one_more : Option ℕ → Option ℕ
one_more x = plus (Some 1) x

-- a count, so many times
abbrev pub times : ℕ → Option ℕ → Option ℕ
times k None = None
times k (Some n) = Some (capped (k * n))

-- the counts of some operations together, each with so much more
abbrev pub sum_of : ℕ → Counts → List ℕ → Option ℕ
sum_of more known [] = Some 0
sum_of more known (a ∷ rest) = plus (plus (Some more) (known a)) (sum_of more known rest)
