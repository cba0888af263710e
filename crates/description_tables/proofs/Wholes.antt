-- What holds of all entries and choices of a description.
use Rattle.std.proofs.Common.{◌≡◌, ◌<◌, ◌≤◌, ◌+◌, ℕ, List, [], ◌∷◌, ◌++◌, Option, None, Some, Bool, true, false, cond, nat_eq, nat_lt, length, map, refl, ap, sym, ◌∙◌, arith}
use Rattle.std.specs.List.{list_all, dedup}
use Rattle.std.proofs.lemmas.Bool.{lt-ltb, and_from}
use Rattle.std.proofs.lemmas.List.Folds.{list_all-append}
use Rattle.std.proofs.lemmas.List.{length-map}
use Rattle.lisa_tree.specs.declared.descriptions.Operation.{Operation}
use Rattle.lisa_tree.specs.declared.descriptions.Description.{Description}
use Rattle.lisa_tree.specs.Descriptions as trees
use Rattle.lisa_tree.specs.Descriptions.{DescriptionTree, DeclareTree, OperationTree, description_tree, operation_tree}
use Rattle.lisa_tree.specs.declared.declared.What.{What}
use Rattle.lisa_tree.specs.declared.declared.What.TheVariants as whats
use Rattle.lisa_tree.specs.Same.{same_name}
use Rattle.lisa_tree.specs.Operations.{number_of, numbers_of, is_alias, declares_in}
use Rattle.lisa_tree.specs.Declarations.{Choice, entry, instances, choices, entries, choices_of, choices_in, entries_of, entries_in, entries_from, listings, above_in, above}
use Rattle.description_tables.specs.Laws.{chosen, is_owned_below, are_below, chooses_below, above_chosen}
use Rattle.description_tables.proofs.Positions.{position_below}

-- ---- operations that declare names are operations

both : {X : Type 0} (p : X → Bool) (xs ys : List X) → list_all p xs ≡ true → list_all p ys ≡ true → list_all p (xs ++ ys) ≡ true
both p xs ys a b = list_all-append p xs ys ∙ and_from (list_all p xs) (list_all p ys) a b

named_below : (n o : ℕ) (what : What) (names : List (List ℕ)) → o < n → list_all (is_owned_below n) (map (entry o what) names) ≡ true
named_below n o what [] h = refl
named_below n o what (x ∷ names) h = and_from (nat_lt o n) (list_all (is_owned_below n) (map (entry o what) names)) (lt-ltb o n h) (named_below n o what names h)

instances_below : (n o c : ℕ) (pairs : List (List ℕ × List ℕ)) → o < n → list_all (is_owned_below n) (instances o c pairs) ≡ true
instances_below n o c [] h = refl
instances_below n o c (pair ∷ rest) h = and_from (nat_lt o n) (list_all (is_owned_below n) (instances o (c + 1) rest)) (lt-ltb o n h) (instances_below n o (c + 1) rest h)

declared_below : (n o c : ℕ) (d : DeclareTree) → o < n → list_all (is_owned_below n) (entries_of o c d) ≡ true
declared_below n o c (trees.Group names alternatives) h = named_below n o (whats.Group c) names h
declared_below n o c (trees.Instance pairs) h = instances_below n o c pairs h
declared_below n o c (trees.Label names) h = named_below n o whats.Label names h
declared_below n o c (trees.Reference names) h = named_below n o whats.Reference names h

in_below : (n o : ℕ) (c : ℕ) (ds : List DeclareTree) → o < n → list_all (is_owned_below n) (entries_in o c ds) ≡ true
in_below n o c [] h = refl
in_below n o c (d ∷ ds) h = both (is_owned_below n) (entries_of o c d) _ (declared_below n o c d h) (in_below n o (c + length (choices_of o d)) ds h)

from_below : (n o c : ℕ) (operations : List OperationTree) → o + length operations ≤ n → list_all (is_owned_below n) (entries_from o c operations) ≡ true
from_below n o c [] h = refl
from_below n o c (x ∷ operations) h =
    both (is_owned_below n) (entries_in o c (declares_in x.sections)) _ (in_below n o c (declares_in x.sections) (omega arith))
    (from_below n (o + 1) (c + length (choices_in o (declares_in x.sections))) operations (omega arith))

pub owners_below : (d : DescriptionTree) → list_all (is_owned_below (length d.operations)) (entries d) ≡ true
owners_below d = from_below (length d.operations) 0 0 d.operations (omega arith)

-- ---- alternatives are operations

found_below : (d : DescriptionTree) (n : List ℕ) (rest : List (List ℕ)) (found : Option ℕ) → number_of d n ≡ found → are_below (length d.operations) (numbers_of d rest) ≡ true
    → are_below (length d.operations) (numbers_of d (n ∷ rest)) ≡ true
found_below d n rest None e more = grind (arith)
found_below d n rest (Some o) e more =
    let h : nat_lt o (length d.operations) ≡ true = lt-ltb o (length d.operations) (position_below (λ (x : OperationTree). same_name n x.name) d.operations o e) in
    grind (arith)

numbers_below : (d : DescriptionTree) (names : List (List ℕ)) → are_below (length d.operations) (numbers_of d names) ≡ true
numbers_below d [] = refl
numbers_below d (n ∷ rest) = found_below d n rest (number_of d n) refl (numbers_below d rest)

all_below : (d : DescriptionTree) (cs : List Choice) → list_all (chooses_below (length d.operations)) (map (chosen d) cs) ≡ true
all_below d [] = refl
all_below d (c ∷ cs) = and_from (are_below (length d.operations) (numbers_of d c.alternatives)) _ (numbers_below d c.alternatives) (all_below d cs)

pub choices_below : (d : DescriptionTree) → list_all (chooses_below (length d.operations)) (map (chosen d) (choices d)) ≡ true
choices_below d = all_below d (choices d)

-- ---- the operations above one

unless : (b : Bool) (here rest rest' : List ℕ) → rest ≡ rest' → cond b [] here ++ rest ≡ cond b rest' (here ++ rest')
unless true here rest rest' e = e
unless false here rest rest' e = ap (λ (zs : List ℕ). here ++ zs) e

above_all : (d : DescriptionTree) (o : ℕ) (cs : List Choice) → above_chosen d o (map (chosen d) cs) ≡ above_in d o cs
above_all d o [] = refl
above_all d o (c ∷ cs) = unless (is_alias d c.operation) (listings c.operation o (numbers_of d c.alternatives)) _ _ (above_all d o cs)

pub above_is : (d : DescriptionTree) (o : ℕ) → dedup nat_eq (above_chosen d o (map (chosen d) (choices d))) ≡ above d o
above_is d o = ap (dedup nat_eq) (above_all d o (choices d))

-- ---- the operations of two descriptions that are one

pub same_operations : (x g : Description) (all : List Operation) → g ≡ x → all ≡ x.operations.items → map operation_tree all ≡ (description_tree g).operations
same_operations x g all same is = ap (map operation_tree) is ∙ ap (λ (y : Description). map operation_tree y.operations.items) (sym same)

pub same_count : (x g : Description) → g ≡ x → length x.operations.items ≡ length (description_tree g).operations
same_count x g same = sym (length-map x.operations.items operation_tree) ∙ ap (λ (y : Description). length (map operation_tree y.operations.items)) (sym same)
