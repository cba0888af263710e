-- What a declared group or instance chooses among belongs to the operation that declares it.
use Rattle.std.proofs.Common.{◌≡◌, ◌+◌, ◌++◌, ◌&&◌, ℕ, zero, suc, List, [], ◌∷◌, Option, None, Some, true, nat_eq, length, map, get_or, refl, sym, ap, ◌∙◌, arith, subst, append_assoc}
use Rattle.std.specs.Prelude.{slice_get}
use Rattle.std.specs.List.{AllByRecursion}
use Rattle.std.proofs.lemmas.Bool.{and_parts, eqb-true}
use Rattle.std.proofs.lemmas.Option.{same_Some, slice_get-get_or}
use Rattle.std.proofs.lemmas.List.{length-append}
use Rattle.std.proofs.lemmas.List.Quantifiers.{position-Some}
use Rattle.lisa_tree.specs.Descriptions as trees
use Rattle.lisa_tree.specs.Descriptions.{DeclareTree, OperationTree, DescriptionTree}
use Rattle.lisa_tree.specs.declared.declared.What.{What}
use Rattle.lisa_tree.specs.declared.declared.What.TheVariants as whats
use Rattle.lisa_tree.specs.Same.{same_name}
use Rattle.lisa_tree.specs.Operations.{declares_in}
use Rattle.lisa_tree.specs.Declarations.{Entry, Choice, entry, choice, instances, choices_of, entries_of, choices_in, entries_in, choices_from, entries_from, choices, entries, declared_at}
use Rattle.coding_checks.specs.Widths.{choice_of, choice_named}

-- there is a choice of this number, and it belongs to the operation
pub record Owned (cs : List Choice) (o c : ℕ) : Type 0 where
  pub chosen : Choice
  pub is : slice_get cs c ≡ Some chosen
  pub owner : chosen.operation ≡ o

-- what a declared name chooses among belongs to the operation
abbrev pub Belongs : List Choice → Entry → Type 0
Belongs cs e = (c : ℕ) → choice_of (Some e.what) ≡ Some c → Owned cs e.operation c

-- ---- elements of lists

all_both : (P : Entry → Type 0) (xs ys : List Entry) → AllByRecursion P xs → AllByRecursion P ys → AllByRecursion P (xs ++ ys)
all_both P [] ys a b = b
all_both P (x ∷ xs) ys a b = (a.0, all_both P xs ys a.1 b)

all_get : (P : Entry → Type 0) (xs : List Entry) (i : ℕ) (x : Entry) → AllByRecursion P xs → slice_get xs i ≡ Some x → P x
all_get P [] i x a e = absurd (cc e)
all_get P (y ∷ xs) zero x a e = let same : y ≡ x = cc e in subst P same a.0
all_get P (y ∷ xs) (suc i) x a e = all_get P xs i x a.1 e

get_behind : (front : List Choice) (x : Choice) (rest : List Choice) → slice_get (front ++ (x ∷ rest)) (length front) ≡ Some x
get_behind [] x rest = refl
get_behind (y ∷ front) x rest = get_behind front x rest

-- ---- by recursion on the declarations

owned_here : (cs front : List Choice) (x : Choice) (rest : List Choice) (o c : ℕ) → x.operation ≡ o → c ≡ length front → cs ≡ front ++ (x ∷ rest) → Owned cs o c
owned_here cs front x rest o c e n is = record {
  chosen = x;
  is = ap (slice_get cs) n ∙ ap (λ (z : List Choice). slice_get z (length front)) is ∙ get_behind front x rest;
  owner = e;
}

named_belong : (cs : List Choice) (o : ℕ) (w : What) (names : List (List ℕ)) → ((k : ℕ) → choice_of (Some w) ≡ Some k → Owned cs o k) → AllByRecursion (Belongs cs) (map (entry o w) names)
named_belong cs o w [] f = tt
named_belong cs o w (n ∷ rest) f = (f, named_belong cs o w rest f)

instances_belong : (cs front : List Choice) (o c : ℕ) (pairs : List (List ℕ × List ℕ)) (rest : List Choice) → c ≡ length front → cs ≡ front ++ (map (λ (pair : List ℕ × List ℕ). choice o (pair.1 ∷ [])) pairs ++ rest)
    → AllByRecursion (Belongs cs) (instances o c pairs)
instances_belong cs front o c [] rest n is = tt
instances_belong cs front o c (pair ∷ pairs) rest n is =
    let here : Choice = choice o (pair.1 ∷ []) in
    let others : List Choice = map (λ (pair : List ℕ × List ℕ). choice o (pair.1 ∷ [])) pairs in
    let count = length-append front (here ∷ []) in
    let next : c + 1 ≡ length (front ++ here ∷ []) = omega (arith, n, count) in (
      (λ k e. subst (λ (z : ℕ). Owned cs o z) (same_Some c k e) (owned_here cs front here (others ++ rest) o c refl n is)),
      instances_belong cs (front ++ here ∷ []) o (c + 1) pairs rest next (is ∙ sym (append_assoc front (here ∷ []) (others ++ rest))),
    )

of_belong : (cs front : List Choice) (o c : ℕ) (x : DeclareTree) (rest : List Choice) → c ≡ length front → cs ≡ front ++ (choices_of o x ++ rest) → AllByRecursion (Belongs cs) (entries_of o c x)
of_belong cs front o c (trees.Group names alternatives) rest n is =
    named_belong cs o (whats.Group c) names (λ k e. subst (λ (z : ℕ). Owned cs o z) (same_Some c k e) (owned_here cs front (choice o alternatives) rest o c refl n is))
of_belong cs front o c (trees.Instance pairs) rest n is = instances_belong cs front o c pairs rest n is
of_belong cs front o c (trees.Label names) rest n is = named_belong cs o whats.Label names (λ k e. absurd (cc e))
of_belong cs front o c (trees.Reference names) rest n is = named_belong cs o whats.Reference names (λ k e. absurd (cc e))

in_belong : (cs front : List Choice) (o c : ℕ) (xs : List DeclareTree) (rest : List Choice) → c ≡ length front → cs ≡ front ++ (choices_in o xs ++ rest) → AllByRecursion (Belongs cs) (entries_in o c xs)
in_belong cs front o c [] rest n is = tt
in_belong cs front o c (x ∷ xs) rest n is =
    let count = length-append front (choices_of o x) in
    let regroup : front ++ (choices_in o (x ∷ xs) ++ rest) ≡ front ++ (choices_of o x ++ (choices_in o xs ++ rest)) = ap (λ (z : List Choice). front ++ z) (append_assoc (choices_of o x) (choices_in o xs) rest) in
    all_both (Belongs cs) (entries_of o c x) (entries_in o (c + length (choices_of o x)) xs)
    (of_belong cs front o c x (choices_in o xs ++ rest) n (is ∙ regroup))
    (in_belong cs (front ++ choices_of o x) o (c + length (choices_of o x)) xs rest (omega (arith, n, count)) (is ∙ regroup ∙ sym (append_assoc front (choices_of o x) (choices_in o xs ++ rest))))

from_belong : (cs front : List Choice) (o c : ℕ) (all : List OperationTree) → c ≡ length front → cs ≡ front ++ choices_from o all → AllByRecursion (Belongs cs) (entries_from o c all)
from_belong cs front o c [] n is = tt
from_belong cs front o c (x ∷ all) n is =
    let own : List Choice = choices_in o (declares_in x.sections) in
    let count = length-append front own in
    all_both (Belongs cs) (entries_in o c (declares_in x.sections)) (entries_from (o + 1) (c + length own) all)
    (in_belong cs front o c (declares_in x.sections) (choices_from (o + 1) all) n is)
    (from_belong cs (front ++ own) (o + 1) (c + length own) all (omega (arith, n, count)) (is ∙ sym (append_assoc front own (choices_from (o + 1) all))))

-- ---- by the name

module _ (d : DescriptionTree) (o : ℕ) (n : List ℕ) where
  owner_is : (i : ℕ) (x : Entry) → declared_at d o n ≡ Some i → slice_get (entries d) i ≡ Some x → x.operation ≡ o
  owner_is i x at is =
      let found = position-Some (λ (e : Entry). nat_eq e.operation o && same_name n e.name) (entries d) i x at in
      let same : x ≡ get_or (entries d) i x = same_Some x (get_or (entries d) i x) (sym is ∙ slice_get-get_or (entries d) i x found.0) in
      let passes : (nat_eq x.operation o && same_name n x.name) ≡ true = ap (λ (e : Entry). nat_eq e.operation o && same_name n e.name) same ∙ found.1 in
      eqb-true x.operation o (and_parts (nat_eq x.operation o) (same_name n x.name) passes).0

  chosen_by : (c i : ℕ) (x : Entry) → declared_at d o n ≡ Some i → slice_get (entries d) i ≡ Some x → choice_named d o n ≡ Some c → Owned (choices d) o c
  chosen_by c i x at is h =
      let what : choice_of (Some x.what) ≡ choice_named d o n = cc (at, is) in
      let own = all_get (Belongs (choices d)) (entries d) i x (from_belong (choices d) [] 0 0 d.operations refl refl) is in
      subst (λ (z : ℕ). Owned (choices d) z c) (owner_is i x at is) (own c (what ∙ h))

  pub owned : (c : ℕ) → choice_named d o n ≡ Some c → Owned (choices d) o c
  owned c h = by (declared_at d o n) refl
    where
      by : (m : Option ℕ) → declared_at d o n ≡ m → Owned (choices d) o c
      by None at = absurd (cc (at, h))
      by (Some i) at = entry_is (slice_get (entries d) i) refl
        where
          entry_is : (r : Option Entry) → slice_get (entries d) i ≡ r → Owned (choices d) o c
          entry_is None is = absurd (cc (at, is, h))
          entry_is (Some x) is = chosen_by c i x at is h
