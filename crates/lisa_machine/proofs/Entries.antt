-- Declared names by their numbers: the places where they stand, and what groups and instances choose among.
use Rattle.std.proofs.Common.{◌≡◌, ◌⊎◌, ◌+◌, ◌++◌, ℕ, zero, suc, List, [], ◌∷◌, Some, length, map, take, refl, sym, ap, ◌∙◌, arith, subst, inl, inr, ⊎_elim, append_assoc}
use Rattle.std.specs.Prelude.{slice_get}
use Rattle.std.specs.List.{AllByRecursion}
use Rattle.std.proofs.lemmas.List.{length-append, length-map}
use Rattle.lisa_tree.specs.Descriptions as trees
use Rattle.lisa_tree.specs.Descriptions.{DeclareTree, OperationTree, DescriptionTree}
use Rattle.description_places.specs.declared.sites.Region.TheVariants as regions
use Rattle.description_places.specs.Places.{At, Declared, Alternatives, Stands, at, names_places, instances_places, declare_places, declares_places, name_count}
use Rattle.lisa_tree.specs.declared.declared.What.{What}
use Rattle.lisa_tree.specs.declared.declared.What.TheVariants as whats
use Rattle.lisa_tree.specs.Operations.{declares_in, sections_at}
use Rattle.lisa_tree.specs.Declarations.{Entry, Choice, entry, choice, instances, choices_of, entries_of, choices_in, entries_in, choices_from, entries_from, choices, entries, entries_before}
use Rattle.lisa_machine.specs.Freedom.{IsAmong}
use Rattle.lisa_machine.specs.Freedom as freedom
use Rattle.lisa_machine.specs.Declaring.{Chooses}
use Rattle.lisa_machine.proofs.Among.{among_left, among_right}
use Rattle.lisa_machine.proofs.Standing.{declares_stand}

-- ---- elements of two lists behind each other

pub get_left : {X : Type 0} (xs ys : List X) (i : ℕ) (x : X) → slice_get xs i ≡ Some x → slice_get (xs ++ ys) i ≡ Some x
get_left [] ys i x e = absurd (cc e)
get_left (y ∷ xs) ys zero x e = e
get_left (y ∷ xs) ys (suc i) x e = get_left xs ys i x e

pub get_right : {X : Type 0} (xs ys : List X) (i : ℕ) (x : X) → slice_get ys i ≡ Some x → slice_get (xs ++ ys) (length xs + i) ≡ Some x
get_right [] ys i x e = let n : 0 + i ≡ i = omega arith in ap (slice_get ys) n ∙ e
get_right (y ∷ xs) ys i x e = let n : suc (length xs) + i ≡ suc (length xs + i) = omega arith in ap (slice_get (y ∷ (xs ++ ys))) n ∙ get_right xs ys i x e

-- an element of two lists is one of the first, or one of the second
pub data Split {X : Type 0} (xs ys : List X) (i : ℕ) (x : X) : Type 0 where
  in_first : slice_get xs i ≡ Some x → Split xs ys i x
  in_second : (j : ℕ) → length xs + j ≡ i → slice_get ys j ≡ Some x → Split xs ys i x

further : {X : Type 0} (y : X) (xs ys : List X) (i : ℕ) (x : X) → Split xs ys i x → Split (y ∷ xs) ys (suc i) x
further y xs ys i x (in_first e) = in_first e
further y xs ys i x (in_second j n e) = in_second j (omega (arith, n)) e

pub split : {X : Type 0} (xs ys : List X) (i : ℕ) (x : X) → slice_get (xs ++ ys) i ≡ Some x → Split xs ys i x
split [] ys i x e = in_second i (omega arith) e
split (y ∷ xs) ys zero x e = in_first e
split (y ∷ xs) ys (suc i) x e = further y xs ys i x (split xs ys i x e)

-- ---- the place of a declared name

-- the entry of this number is a name that stands so many places behind a number
record Placed (o k : ℕ) (all : List At) (e : Entry) : Type 0 where
  pub owner : e.operation ≡ o
  pub stands : IsAmong (at o regions.Declares [] (Declared k e.name)) all

more_left : (o k : ℕ) (xs ys : List At) (e : Entry) → Placed o k xs e → Placed o k (xs ++ ys) e
more_left o k xs ys e p = record { owner = p.owner; stands = among_left _ xs ys p.stands }

more_right : (o k : ℕ) (xs ys : List At) (e : Entry) → Placed o k ys e → Placed o k (xs ++ ys) e
more_right o k xs ys e p = record { owner = p.owner; stands = among_right _ xs ys p.stands }

renumbered : (o k m : ℕ) (all : List At) (e : Entry) → k ≡ m → Placed o k all e → Placed o m all e
renumbered o k m all e n p = subst (λ (z : ℕ). Placed o z all e) n p

names_placed : (o b : ℕ) (w : What) (names : List (List ℕ)) (k : ℕ) (e : Entry) → slice_get (map (entry o w) names) k ≡ Some e → Placed o (b + k) (names_places o b names) e
names_placed o b w [] k e is = absurd (cc is)
names_placed o b w (n ∷ rest) zero e is =
    let same : entry o w n ≡ e = cc is in
    let number : b + 0 ≡ b = omega arith in
    subst (λ (z : Entry). Placed o (b + 0) (names_places o b (n ∷ rest)) z) same
    (record { owner = refl; stands = inl (ap (λ (m : ℕ). at o regions.Declares [] (Declared m n)) number) })
names_placed o b w (n ∷ rest) (suc k) e is =
    let p = names_placed o (b + 1) w rest k e is in
    let number : b + 1 + k ≡ b + suc k = omega arith in
    renumbered o (b + 1 + k) (b + suc k) _ e number (record { owner = p.owner; stands = inr p.stands })

instances_placed : (o b c : ℕ) (pairs : List (List ℕ × List ℕ)) (k : ℕ) (e : Entry) → slice_get (instances o c pairs) k ≡ Some e → Placed o (b + k) (instances_places o b pairs) e
instances_placed o b c [] k e is = absurd (cc is)
instances_placed o b c (pair ∷ rest) zero e is =
    let same : entry o (whats.Instance c) pair.0 ≡ e = cc is in
    let number : b + 0 ≡ b = omega arith in
    subst (λ (z : Entry). Placed o (b + 0) (instances_places o b (pair ∷ rest)) z) same
    (record { owner = refl; stands = inl (ap (λ (m : ℕ). at o regions.Declares [] (Declared m pair.0)) number) })
instances_placed o b c (pair ∷ rest) (suc k) e is =
    let p = instances_placed o (b + 1) (c + 1) rest k e is in
    let number : b + 1 + k ≡ b + suc k = omega arith in
    renumbered o (b + 1 + k) (b + suc k) _ e number (record { owner = p.owner; stands = inr (inr p.stands) })

declare_placed : (o b c : ℕ) (x : DeclareTree) (k : ℕ) (e : Entry) → slice_get (entries_of o c x) k ≡ Some e → Placed o (b + k) (declare_places o b x) e
declare_placed o b c (trees.Group names alternatives) k e is = more_left o (b + k) (names_places o b names) _ e (names_placed o b (whats.Group c) names k e is)
declare_placed o b c (trees.Instance pairs) k e is = instances_placed o b c pairs k e is
declare_placed o b c (trees.Label names) k e is = names_placed o b whats.Label names k e is
declare_placed o b c (trees.Reference names) k e is = names_placed o b whats.Reference names k e is

instances_counted : (o c : ℕ) (pairs : List (List ℕ × List ℕ)) → length (instances o c pairs) ≡ length pairs
instances_counted o c [] = refl
instances_counted o c (pair ∷ rest) = ap suc (instances_counted o (c + 1) rest)

counted : (o c : ℕ) (x : DeclareTree) → length (entries_of o c x) ≡ name_count x
counted o c (trees.Group names alternatives) = length-map names _
counted o c (trees.Instance pairs) = instances_counted o c pairs
counted o c (trees.Label names) = length-map names _
counted o c (trees.Reference names) = length-map names _

in_placed : (o b c : ℕ) (xs : List DeclareTree) (k : ℕ) (e : Entry) → slice_get (entries_in o c xs) k ≡ Some e → Placed o (b + k) (declares_places o b xs) e
in_placed o b c [] k e is = absurd (cc is)
in_placed o b c (x ∷ rest) k e is = by (split (entries_of o c x) (entries_in o (c + length (choices_of o x)) rest) k e is) (in_placed o (b + name_count x) (c + length (choices_of o x)) rest)
  where
    by : Split (entries_of o c x) (entries_in o (c + length (choices_of o x)) rest) k e
        → ((j : ℕ) (e : Entry) → slice_get (entries_in o (c + length (choices_of o x)) rest) j ≡ Some e → Placed o (b + name_count x + j) (declares_places o (b + name_count x) rest) e)
        → Placed o (b + k) (declares_places o b (x ∷ rest)) e
    by (in_first f) later = more_left o (b + k) (declare_places o b x) (declares_places o (b + name_count x) rest) e (declare_placed o b c x k e f)
    by (in_second j n f) later =
        let count = counted o c x in
        let number : b + name_count x + j ≡ b + k = omega (arith, n, count) in
        renumbered o (b + name_count x + j) (b + k) _ e number (more_right o _ (declare_places o b x) (declares_places o (b + name_count x) rest) e (later j e f))

-- the operation of an entry, and the place of its name in it
record Owned (o c : ℕ) (all : List OperationTree) (i : ℕ) (e : Entry) : Type 0 where
  pub which : ℕ
  pub operation : OperationTree
  pub is : slice_get all which ≡ Some operation
  pub number : ℕ
  pub placed : Placed (o + which) number (declares_places (o + which) 0 (declares_in operation.sections)) e
  pub sum : length (entries_from o c (take which all)) + number ≡ i

owned : (o c : ℕ) (all : List OperationTree) (i : ℕ) (e : Entry) → slice_get (entries_from o c all) i ≡ Some e → Owned o c all i e
owned o c [] i e is = absurd (cc is)
owned o c (x ∷ rest) i e is =
    by (split (entries_in o c (declares_in x.sections)) (entries_from (o + 1) (c + length (choices_in o (declares_in x.sections))) rest) i e is) (owned (o + 1) (c + length (choices_in o (declares_in x.sections))) rest)
  where
    by : Split (entries_in o c (declares_in x.sections)) (entries_from (o + 1) (c + length (choices_in o (declares_in x.sections))) rest) i e
        → ((j : ℕ) (e : Entry) → slice_get (entries_from (o + 1) (c + length (choices_in o (declares_in x.sections))) rest) j ≡ Some e → Owned (o + 1) (c + length (choices_in o (declares_in x.sections))) rest j e)
        → Owned o c (x ∷ rest) i e
    by (in_first f) later =
        let p = in_placed o 0 c (declares_in x.sections) i e f in
        let base : o ≡ o + 0 = omega arith in
        let none : 0 + i ≡ i = omega arith in
        record {
          which = 0;
          operation = x;
          is = refl;
          number = 0 + i;
          placed = subst (λ (z : ℕ). Placed z (0 + i) (declares_places z 0 (declares_in x.sections)) e) base p;
          sum = omega arith;
        }
    by (in_second j n f) later =
        let r = later j e f in
        let base : o + 1 + r.which ≡ o + suc r.which = omega arith in
        let total = length-append (entries_in o c (declares_in x.sections)) (entries_from (o + 1) (c + length (choices_in o (declares_in x.sections))) (take r.which rest)) in
        let s = r.sum in
        record {
          which = suc r.which;
          operation = r.operation;
          is = r.is;
          number = r.number;
          placed = subst (λ (z : ℕ). Placed z r.number (declares_places z 0 (declares_in r.operation.sections)) e) base r.placed;
          sum = ap (λ (z : ℕ). z + r.number) total ∙ omega (arith, n, s);
        }

-- a declared name stands at its place in its operation
pub record Stood (d : DescriptionTree) (i : ℕ) (e : Entry) : Type 0 where
  pub number : ℕ
  pub stands : freedom.Stands d (at e.operation regions.Declares [] (Declared number e.name))
  pub sum : entries_before d e.operation + number ≡ i

pub entry_stands : (d : DescriptionTree) (i : ℕ) (e : Entry) → slice_get (entries d) i ≡ Some e → Stood d i e
entry_stands d i e is =
    let w = owned 0 0 d.operations i e is in
    let base : 0 + w.which ≡ w.which = omega arith in
    let o : w.which ≡ e.operation = sym base ∙ sym w.placed.owner in
    let sections : sections_at d w.which ≡ w.operation.sections = of_number w.which w.operation w.is in
    let p : IsAmong (at w.which regions.Declares [] (Declared w.number e.name)) (declares_places w.which 0 (declares_in (sections_at d w.which)))
    = subst (λ z. IsAmong (at w.which regions.Declares [] (Declared w.number e.name)) (declares_places w.which 0 (declares_in z))) (sym sections)
    (subst (λ (z : ℕ). IsAmong (at z regions.Declares [] (Declared w.number e.name)) (declares_places z 0 (declares_in w.operation.sections))) base w.placed.stands) in
    record {
      number = w.number;
      stands = subst (λ (z : ℕ). freedom.Stands d (at z regions.Declares [] (Declared w.number e.name))) o (declares_stand d w.which _ p);
      sum = subst (λ (z : ℕ). entries_before d z + w.number ≡ i) o w.sum;
    }
  where
    of_number : (k : ℕ) (operation : OperationTree) → slice_get d.operations k ≡ Some operation → sections_at d k ≡ operation.sections
    of_number k operation e = cc e

-- ---- what a declared group or instance chooses among

abbrev Chosen : List Choice → Entry → Type 0
Chosen cs e = Chooses cs e e.what

all_both : (P : Entry → Type 0) (xs ys : List Entry) → AllByRecursion P xs → AllByRecursion P ys → AllByRecursion P (xs ++ ys)
all_both P [] ys a b = b
all_both P (x ∷ xs) ys a b = (a.0, all_both P xs ys a.1 b)

all_get : {X : Type 0} (P : X → Type 0) (xs : List X) (i : ℕ) (x : X) → AllByRecursion P xs → slice_get xs i ≡ Some x → P x
all_get P [] i x a e = absurd (cc e)
all_get P (y ∷ xs) zero x a e = let same : y ≡ x = cc e in subst P same a.0
all_get P (y ∷ xs) (suc i) x a e = all_get P xs i x a.1 e

named_choose : (cs : List Choice) (o : ℕ) (w : What) (names : List (List ℕ)) → ((n : List ℕ) → Chooses cs (entry o w n) w) → AllByRecursion (Chosen cs) (map (entry o w) names)
named_choose cs o w [] f = tt
named_choose cs o w (n ∷ rest) f = (f n, named_choose cs o w rest f)

instances_choose : (cs front : List Choice) (o c : ℕ) (pairs : List (List ℕ × List ℕ)) (rest : List Choice) → c ≡ length front → cs ≡ front ++ (map (λ (pair : List ℕ × List ℕ). choice o (pair.1 ∷ [])) pairs ++ rest)
    → AllByRecursion (Chosen cs) (instances o c pairs)
instances_choose cs front o c [] rest n is = tt
instances_choose cs front o c (pair ∷ pairs) rest n is =
    let here : Choice = choice o (pair.1 ∷ []) in
    let others : List Choice = map (λ (pair : List ℕ × List ℕ). choice o (pair.1 ∷ [])) pairs in
    let place : length front + 0 ≡ c = omega (arith, n) in
    let count = length-append front (here ∷ []) in
    let next : c + 1 ≡ length (front ++ here ∷ []) = omega (arith, n, count) in (
      (pair.1, ap (λ (z : List Choice). slice_get z c) is ∙ ap (slice_get (front ++ (here ∷ (others ++ rest)))) (sym place) ∙ get_right front (here ∷ (others ++ rest)) 0 here refl),
      instances_choose cs (front ++ here ∷ []) o (c + 1) pairs rest next (is ∙ sym (append_assoc front (here ∷ []) (others ++ rest))),
    )

of_choose : (cs front : List Choice) (o c : ℕ) (x : DeclareTree) (rest : List Choice) → c ≡ length front → cs ≡ front ++ (choices_of o x ++ rest) → AllByRecursion (Chosen cs) (entries_of o c x)
of_choose cs front o c (trees.Group names alternatives) rest n is =
    let here : Choice = choice o alternatives in
    let place : length front + 0 ≡ c = omega (arith, n) in
    named_choose cs o (whats.Group c) names
    (λ m. (here, ap (λ (z : List Choice). slice_get z c) is ∙ ap (slice_get (front ++ (here ∷ rest))) (sym place) ∙ get_right front (here ∷ rest) 0 here refl, refl))
of_choose cs front o c (trees.Instance pairs) rest n is = instances_choose cs front o c pairs rest n is
of_choose cs front o c (trees.Label names) rest n is = named_choose cs o whats.Label names (λ m. tt)
of_choose cs front o c (trees.Reference names) rest n is = named_choose cs o whats.Reference names (λ m. tt)

in_choose : (cs front : List Choice) (o c : ℕ) (xs : List DeclareTree) (rest : List Choice) → c ≡ length front → cs ≡ front ++ (choices_in o xs ++ rest) → AllByRecursion (Chosen cs) (entries_in o c xs)
in_choose cs front o c [] rest n is = tt
in_choose cs front o c (x ∷ xs) rest n is =
    let count = length-append front (choices_of o x) in
    all_both (Chosen cs) (entries_of o c x) (entries_in o (c + length (choices_of o x)) xs)
    (of_choose cs front o c x (choices_in o xs ++ rest) n (is ∙ ap (λ (z : List Choice). front ++ z) (append_assoc (choices_of o x) (choices_in o xs) rest)))
    (in_choose cs (front ++ choices_of o x) o (c + length (choices_of o x)) xs rest (omega (arith, n, count))
    (is ∙ ap (λ (z : List Choice). front ++ z) (append_assoc (choices_of o x) (choices_in o xs) rest) ∙ sym (append_assoc front (choices_of o x) (choices_in o xs ++ rest))))

from_choose : (cs front : List Choice) (o c : ℕ) (all : List OperationTree) → c ≡ length front → cs ≡ front ++ choices_from o all → AllByRecursion (Chosen cs) (entries_from o c all)
from_choose cs front o c [] n is = tt
from_choose cs front o c (x ∷ all) n is =
    let own : List Choice = choices_in o (declares_in x.sections) in
    let count = length-append front own in
    all_both (Chosen cs) (entries_in o c (declares_in x.sections)) (entries_from (o + 1) (c + length own) all)
    (in_choose cs front o c (declares_in x.sections) (choices_from (o + 1) all) n is)
    (from_choose cs (front ++ own) (o + 1) (c + length own) all (omega (arith, n, count)) (is ∙ sym (append_assoc front own (choices_from (o + 1) all))))

pub entry_chooses : (d : DescriptionTree) (i : ℕ) (e : Entry) → slice_get (entries d) i ≡ Some e → Chooses (choices d) e e.what
entry_chooses d i e is = all_get (Chosen (choices d)) (entries d) i e (from_choose (choices d) [] 0 0 d.operations refl refl) is

-- ---- the place of a choice's alternatives

-- where a choice's alternatives stand: together, or the one of an instance
pub data Listed (d : DescriptionTree) (x : Choice) : Type 0 where
  together : freedom.Stands d (at x.operation regions.Declares [] (Alternatives x.alternatives)) → Listed d x
  alone : (n : List ℕ) → x.alternatives ≡ n ∷ [] → freedom.Stands d (at x.operation regions.Declares [] (Stands n)) → Listed d x

abbrev AmongListed : List At → ℕ → Choice → Type 0
AmongListed all o x = (x.operation ≡ o) × (IsAmong (at o regions.Declares [] (Alternatives x.alternatives)) all ⊎ ((n : List ℕ) × (x.alternatives ≡ n ∷ []) × IsAmong (at o regions.Declares [] (Stands n)) all))

listed_left : (xs ys : List At) (o : ℕ) (x : Choice) → AmongListed xs o x → AmongListed (xs ++ ys) o x
listed_left xs ys o x l = (l.0, ⊎_elim (λ h. inl (among_left _ xs ys h)) (λ h. inr (h.0, h.1, among_left _ xs ys h.2)) l.1)

listed_right : (xs ys : List At) (o : ℕ) (x : Choice) → AmongListed ys o x → AmongListed (xs ++ ys) o x
listed_right xs ys o x l = (l.0, ⊎_elim (λ h. inl (among_right _ xs ys h)) (λ h. inr (h.0, h.1, among_right _ xs ys h.2)) l.1)

instance_listed : (o b : ℕ) (pairs : List (List ℕ × List ℕ)) (c : ℕ) (x : Choice) → slice_get (map (λ (pair : List ℕ × List ℕ). choice o (pair.1 ∷ [])) pairs) c ≡ Some x → AmongListed (instances_places o b pairs) o x
instance_listed o b [] c x is = absurd (cc is)
instance_listed o b (pair ∷ pairs) zero x is =
    let same : choice o (pair.1 ∷ []) ≡ x = cc is in
    subst (λ (z : Choice). AmongListed (instances_places o b (pair ∷ pairs)) o z) same (refl, inr (pair.1, refl, inr (inl refl)))
instance_listed o b (pair ∷ pairs) (suc c) x is =
    let l = instance_listed o (b + 1) pairs c x is in
    (l.0, ⊎_elim (λ h. inl (inr (inr h))) (λ h. inr (h.0, h.1, inr (inr h.2))) l.1)

of_listed : (o b : ℕ) (y : DeclareTree) (c : ℕ) (x : Choice) → slice_get (choices_of o y) c ≡ Some x → AmongListed (declare_places o b y) o x
of_listed o b (trees.Group names alternatives) zero x is =
    let same : choice o alternatives ≡ x = cc is in
    subst (λ (z : Choice). AmongListed (declare_places o b (trees.Group names alternatives)) o z) same (refl, inl (among_right _ (names_places o b names) _ (inl refl)))
of_listed o b (trees.Group names alternatives) (suc c) x is = absurd (cc is)
of_listed o b (trees.Instance pairs) c x is = instance_listed o b pairs c x is
of_listed o b (trees.Label names) c x is = absurd (cc is)
of_listed o b (trees.Reference names) c x is = absurd (cc is)

in_listed : (o b : ℕ) (ys : List DeclareTree) (c : ℕ) (x : Choice) → slice_get (choices_in o ys) c ≡ Some x → AmongListed (declares_places o b ys) o x
in_listed o b [] c x is = absurd (cc is)
in_listed o b (y ∷ ys) c x is = by (split (choices_of o y) (choices_in o ys) c x is) (in_listed o (b + name_count y) ys)
  where
    by : Split (choices_of o y) (choices_in o ys) c x → ((j : ℕ) (x : Choice) → slice_get (choices_in o ys) j ≡ Some x → AmongListed (declares_places o (b + name_count y) ys) o x) → AmongListed (declares_places o b (y ∷ ys)) o x
    by (in_first f) later = listed_left (declare_places o b y) (declares_places o (b + name_count y) ys) o x (of_listed o b y c x f)
    by (in_second j n f) later = listed_right (declare_places o b y) (declares_places o (b + name_count y) ys) o x (later j x f)

record OwnedChoice (o : ℕ) (all : List OperationTree) (x : Choice) : Type 0 where
  pub which : ℕ
  pub operation : OperationTree
  pub is : slice_get all which ≡ Some operation
  pub listed : AmongListed (declares_places (o + which) 0 (declares_in operation.sections)) (o + which) x

owned_choice : (o : ℕ) (all : List OperationTree) (c : ℕ) (x : Choice) → slice_get (choices_from o all) c ≡ Some x → OwnedChoice o all x
owned_choice o [] c x is = absurd (cc is)
owned_choice o (y ∷ all) c x is = by (split (choices_in o (declares_in y.sections)) (choices_from (o + 1) all) c x is) (owned_choice (o + 1) all)
  where
    by : Split (choices_in o (declares_in y.sections)) (choices_from (o + 1) all) c x → ((j : ℕ) (x : Choice) → slice_get (choices_from (o + 1) all) j ≡ Some x → OwnedChoice (o + 1) all x) → OwnedChoice o (y ∷ all) x
    by (in_first f) later =
        let base : o ≡ o + 0 = omega arith in
        record {
          which = 0;
          operation = y;
          is = refl;
          listed = subst (λ (z : ℕ). AmongListed (declares_places z 0 (declares_in y.sections)) z x) base (in_listed o 0 (declares_in y.sections) c x f);
        }
    by (in_second j n f) later =
        let r = later j x f in
        let base : o + 1 + r.which ≡ o + suc r.which = omega arith in
        record {
          which = suc r.which;
          operation = r.operation;
          is = r.is;
          listed = subst (λ (z : ℕ). AmongListed (declares_places z 0 (declares_in r.operation.sections)) z x) base r.listed;
        }

pub choice_listed : (d : DescriptionTree) (c : ℕ) (x : Choice) → slice_get (choices d) c ≡ Some x → Listed d x
choice_listed d c x is =
    let w = owned_choice 0 d.operations c x is in
    let base : 0 + w.which ≡ w.which = omega arith in
    by w.which w.operation w.is (subst (λ (z : ℕ). AmongListed (declares_places z 0 (declares_in w.operation.sections)) z x) base w.listed)
  where
    by : (o : ℕ) (operation : OperationTree) → slice_get d.operations o ≡ Some operation → AmongListed (declares_places o 0 (declares_in operation.sections)) o x → Listed d x
    by o operation e l =
        let sections : operation.sections ≡ sections_at d o = cc e in
        let m : AmongListed (declares_places o 0 (declares_in (sections_at d o))) o x = subst (λ z. AmongListed (declares_places o 0 (declares_in z)) o x) sections l in
        ⊎_elim
        (λ h. together (subst (λ (z : ℕ). freedom.Stands d (at z regions.Declares [] (Alternatives x.alternatives))) (sym m.0) (declares_stand d o _ h)))
        (λ h. alone h.0 h.1 (subst (λ (z : ℕ). freedom.Stands d (at z regions.Declares [] (Stands h.0))) (sym m.0) (declares_stand d o _ h.2)))
        m.1
