-- The values of a tree in preorder: its own in coding order, then those of its children.
use Rattle.std.specs.Prelude.{◌<◌, ◌≤◌, ℕ, zero, suc, ◌+◌, ◌*◌, ◌^◌, List, [], ◌∷◌, ◌++◌}
use Rattle.instruction_trees.specs.Trees.{Tree, Done, Pass, Value, Choose, relabel}

abbrev pub own_values : {V : Type 0} → Tree V → List V
own_values Done = []
own_values (Pass t) = own_values t
own_values (Value v t) = v ∷ own_values t
own_values (Choose k own t) = own_values t

abbrev pub inner_values : {V : Type 0} → Tree V → List V
inner_values Done = []
inner_values (Pass t) = inner_values t
inner_values (Value v t) = inner_values t
inner_values (Choose k own t) = (own_values own ++ inner_values own) ++ inner_values t

abbrev pub values : {V : Type 0} → Tree V → List V
values t = own_values t ++ inner_values t

-- how many there are
abbrev pub owns : {V : Type 0} → Tree V → ℕ
owns Done = 0
owns (Pass t) = owns t
owns (Value v t) = suc (owns t)
owns (Choose k own t) = owns t

abbrev pub inners : {V : Type 0} → Tree V → ℕ
inners Done = 0
inners (Pass t) = inners t
inners (Value v t) = inners t
inners (Choose k own t) = (owns own + inners own) + inners t

-- each field with its number in preorder: `a` is that of its next own field, `b` that of its children's next one
abbrev pub numbered : {V : Type 0} → ℕ → ℕ → Tree V → Tree ℕ
numbered a b Done = Done
numbered a b (Pass t) = Pass (numbered a b t)
numbered a b (Value v t) = Value a (numbered (suc a) b t)
numbered a b (Choose k own t) = Choose k (numbered b (b + owns own) own) (numbered a (b + (owns own + inners own)) t)

-- the tree of a form with these values by number
abbrev pub filled : {V U : Type 0} → (ℕ → V) → Tree U → Tree V
filled f t = relabel f (numbered 0 (owns t) t)

abbrev pub upto : ℕ → ℕ → List ℕ
upto a zero = []
upto a (suc n) = a ∷ upto (suc a) n

abbrev pub sum_of : List ℕ → ℕ
sum_of [] = 0
sum_of (x ∷ xs) = x + sum_of xs

-- each value at its place
abbrev pub weigh : List ℕ → List (ℕ × ℕ) → List ℕ
weigh (v ∷ vs) (p ∷ ps) = v * 2 ^ p.0 ∷ weigh vs ps
weigh _ _ = []

-- one value for each place, which it doesn't exceed
pub data AreWithin : List ℕ → List (ℕ × ℕ) → Type 0 where
  none : AreWithin [] []
  more : {v : ℕ} {p : ℕ × ℕ} {vs : List ℕ} {ps : List (ℕ × ℕ)} → v < 2 ^ p.1 → AreWithin vs ps → AreWithin (v ∷ vs) (p ∷ ps)

-- the field stands below this bit
abbrev pub StandsBelow : ℕ → ℕ × ℕ → Type 0
StandsBelow width p = p.0 + p.1 ≤ width
