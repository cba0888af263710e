-- The operations above one stand in source order.
use Rattle.std.proofs.Common.{◌≡◌, ◌≤◌, ◌+◌, ℕ, zero, suc, List, [], ◌∷◌, ◌++◌, Bool, true, false, cond, map, refl, ap, sym, ◌∙◌, subst, arith, append_assoc, Less, Equal, Greater}
use Rattle.std.specs.Prelude.{⊤, nat_eq, ◌==◌, slice_index_or}
use Rattle.std.specs.Ordering.{nat_cmp, is_lt}
use Rattle.std.specs.List.Sorted.{IsSorted, IsStrictlyIncreasing}
use Rattle.std.proofs.lemmas.Bool.{le-ltb}
use Rattle.std.proofs.lemmas.Map.Keys.{IsStrictlyIncreasing-dedup}
use Rattle.lisa_tree.specs.Descriptions as trees
use Rattle.lisa_tree.specs.Descriptions.{DeclareTree, OperationTree, DescriptionTree}
use Rattle.lisa_tree.specs.Operations.{numbers_of, is_alias, declares_in}
use Rattle.lisa_tree.specs.Declarations.{Choice, choice, choices_of, choices_in, choices_from, choices, listings, above_in, above}

-- ---- choices, by their operations

abbrev Ordered : ℕ → List Choice → Type 0
Ordered p [] = ⊤
Ordered p (c ∷ cs) = (p ≤ c.operation) × Ordered c.operation cs

from_lower : (p q : ℕ) (cs : List Choice) → p ≤ q → Ordered q cs → Ordered p cs
from_lower p q [] h r = tt
from_lower p q (c ∷ cs) h r = (let k = r.0 in omega (arith, h, k), r.1)

instances_ordered : (o : ℕ) (pairs : List (List ℕ × List ℕ)) (cs : List Choice) → Ordered o cs → Ordered o (map (λ pair. choice o (pair.1 ∷ [])) pairs ++ cs)
instances_ordered o [] cs r = r
instances_ordered o (pair ∷ rest) cs r = (omega arith, instances_ordered o rest cs r)

declared_ordered : (o : ℕ) (x : DeclareTree) (cs : List Choice) → Ordered o cs → Ordered o (choices_of o x ++ cs)
declared_ordered o (trees.Group names alternatives) cs r = (omega arith, r)
declared_ordered o (trees.Instance pairs) cs r = instances_ordered o pairs cs r
declared_ordered o (trees.Label names) cs r = r
declared_ordered o (trees.Reference names) cs r = r

operation_ordered : (o : ℕ) (ds : List DeclareTree) (cs : List Choice) → Ordered o cs → Ordered o (choices_in o ds ++ cs)
operation_ordered o [] cs r = r
operation_ordered o (x ∷ ds) cs r =
    subst (Ordered o) (sym (append_assoc (choices_of o x) (choices_in o ds) cs)) (declared_ordered o x (choices_in o ds ++ cs) (operation_ordered o ds cs r))

all_ordered : (o : ℕ) (all : List OperationTree) → Ordered o (choices_from o all)
all_ordered o [] = tt
all_ordered o (x ∷ rest) = operation_ordered o (declares_in x.sections) (choices_from (o + 1) rest) (from_lower o (o + 1) (choices_from (o + 1) rest) (omega arith) (all_ordered (o + 1) rest))

-- ---- numbers that don't fall, from one on

abbrev Rises : ℕ → List ℕ → Type 0
Rises p [] = ⊤
Rises p (x ∷ xs) = (p ≤ x) × Rises x xs

lower : (p q : ℕ) (xs : List ℕ) → p ≤ q → Rises q xs → Rises p xs
lower p q [] h r = tt
lower p q (x ∷ xs) h r = (let k = r.0 in omega (arith, h, k), r.1)

listings_rise : (p o : ℕ) (xs ys : List ℕ) → Rises p ys → Rises p (listings p o xs ++ ys)
listings_rise p o [] ys r = r
listings_rise p o (x ∷ xs) ys r = by (nat_eq x o) (listings_rise p o xs ys r)
  where
    by : (b : Bool) → Rises p (listings p o xs ++ ys) → Rises p (cond b (p ∷ listings p o xs) (listings p o xs) ++ ys)
    by true more = (omega arith, more)
    by false more = more

above_rise : (d : DescriptionTree) (o p : ℕ) (cs : List Choice) → Ordered p cs → Rises p (above_in d o cs)
above_rise d o p [] r = tt
above_rise d o p (c ∷ cs) r = by (is_alias d c.operation) (above_rise d o c.operation cs r.1)
  where
    by : (b : Bool) → Rises c.operation (above_in d o cs) → Rises p (cond b (above_in d o cs) (listings c.operation o (numbers_of d c.alternatives) ++ above_in d o cs))
    by true more = lower p c.operation (above_in d o cs) r.0 more
    by false more =
        lower p c.operation (listings c.operation o (numbers_of d c.alternatives) ++ above_in d o cs) r.0
        (listings_rise c.operation o (numbers_of d c.alternatives) (above_in d o cs) more)

not_less : (y x : ℕ) → x ≤ y → is_lt (nat_cmp y x) ≡ false
not_less y x h = ap (λ (b : Bool). is_lt (cond b Less (cond (y == x) Equal Greater))) (le-ltb y x h) ∙ by (y == x)
  where
    by : (b : Bool) → is_lt (cond b Equal Greater) ≡ false
    by true = refl
    by false = refl

sorted : (p : ℕ) (xs : List ℕ) → Rises p xs → IsSorted nat_cmp xs
sorted p [] r k e low h = absurd (omega (arith, h))
sorted p (x ∷ []) r k e low h = absurd (omega (arith, h))
sorted p (x ∷ y ∷ ys) r zero e low h = not_less y x r.1.0
sorted p (x ∷ y ∷ ys) r (suc k) e low h =
    let next : suc (k + 1) ≡ suc k + 1 = omega arith in
    ap (λ (i : ℕ). is_lt (nat_cmp (slice_index_or (x ∷ y ∷ ys) i e) (slice_index_or (y ∷ ys) k e))) (sym next)
    ∙ sorted x (y ∷ ys) r.1 k e (omega arith) (omega (arith, h))

pub rises : (d : DescriptionTree) (o : ℕ) → IsStrictlyIncreasing (above d o)
rises d o = IsStrictlyIncreasing-dedup (above_in d o (choices d)) (sorted 0 (above_in d o (choices d)) (above_rise d o 0 (choices d) (all_ordered 0 d.operations)))
