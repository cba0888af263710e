-- What leads where, by numbers.
use Rattle.std.proofs.Common.{◌≡◌, ◌<◌, ◌≤◌, ◌+◌, ◌-◌, ◌&&◌, ◌||◌, ℕ, suc, zero, List, [], ◌∷◌, ◌++◌, Option, None, Some, Bool, true, false, nat_eq, nat_lt, length, map, refl, ap, sym, ◌∙◌, arith, ⊎_elim, subst}
use Rattle.std.specs.Prelude.{slice_get, slice_index}
use Rattle.std.specs.List.{list_all}
use Rattle.std.proofs.lemmas.Bool.{cases_eq, cases_Bool, ne_eqb, lt-ltb, le-ltb, ltb-true, ltb-false, and_from, and_parts, eqb-true}
use Rattle.std.proofs.lemmas.Option.{same_Some, slice_get_within}
use Rattle.std.proofs.lemmas.List.{length-append, length-map}
use Rattle.std.proofs.lemmas.Bool.Decides.{nat_tests}
use Rattle.std.proofs.lemmas.List.Folds.{list_all-append}
use Rattle.lisa_tree.specs.Descriptions as trees
use Rattle.lisa_tree.specs.Descriptions.{DescriptionTree, DeclareTree, OperationTree}
use Rattle.lisa_tree.specs.declared.declared.What.{What}
use Rattle.lisa_tree.specs.declared.declared.What.TheVariants as whats
use Rattle.lisa_tree.specs.Operations.{declares_in}
use Rattle.lisa_tree.specs.Declarations.{Choice, Entry, entry, choice, instances, choices, entries, choices_of, choices_in, choices_from, entries_of, entries_in, entries_from, what_at, owner_at}
use Rattle.lisa_tree.specs.Paths.{Operation, Choosing, Declaring, refers, chooses, leads}
use Rattle.description_graph.specs.Graph.{owners, ranged, to_choices, to_chosen_by, first_choice}

pub eq_swap : (a b : ℕ) → nat_eq a b ≡ nat_eq b a
eq_swap a b = grind (arith, nat_tests)

-- ---- numbers from a base on

pub ranged_step : (base k : ℕ) (test : ℕ → Bool) (a : ℕ) → ranged base (k + 1) test a ≡ (ranged base k test a || (test k && nat_eq a (base + k)))
ranged_step base k test a = ⊎_elim (λ e. here e) (λ ne. other ne) (cases_eq a (base + k))
  where
    here : a ≡ base + k → ranged base (k + 1) test a ≡ (ranged base k test a || (test k && nat_eq a (base + k)))
    here e =
        let s : a - base ≡ k = omega arith in
        let t : test (a - base) ≡ test k = ap test s in
        grind (arith, nat_tests)

    other : (a ≡ base + k → ⊥) → ranged base (k + 1) test a ≡ (ranged base k test a || (test k && nat_eq a (base + k)))
    other ne = let n : nat_eq a (base + k) ≡ false = ne_eqb a (base + k) ne in grind (arith, nat_tests)

pub ranged_low : (base n : ℕ) (test : ℕ → Bool) (a : ℕ) → a < base → ranged base n test a ≡ false
ranged_low base n test a h = let e : nat_lt a base ≡ true = lt-ltb a base h in grind arith

pub ranged_high : (base n : ℕ) (test : ℕ → Bool) (a : ℕ) → base + n ≤ a → ranged base n test a ≡ false
ranged_high base n test a h = let e : nat_lt (a - base) n ≡ false = le-ltb (a - base) n (omega arith) in grind arith

pub ranged_at : (base n : ℕ) (test : ℕ → Bool) (i : ℕ) → i < n → ranged base n test (base + i) ≡ test i
ranged_at base n test i h =
    let s : base + i - base ≡ i = omega arith in
    let t : test (base + i - base) ≡ test i = ap test s in
    let u : nat_lt (base + i) base ≡ false = le-ltb (base + i) base (omega arith) in
    let v : nat_lt (base + i - base) n ≡ true = lt-ltb (base + i - base) n (omega arith) in
    grind arith

pub ranged_off : (base n : ℕ) (test : ℕ → Bool) (a : ℕ) → ((i : ℕ) → test i ≡ false) → ranged base n test a ≡ false
ranged_off base n test a none = let t = none (a - base) in grind arith

-- ---- operations that declare

owns : ℕ → Option Choice → Bool
owns a None = false
owns a (Some c) = nat_eq c.operation a

read_owner : (cs : List Choice) (c : ℕ) → c < length cs → (x : Choice) × (slice_get cs c ≡ Some x) × (slice_index (owners cs) c ≡ x.operation)
read_owner [] c h = absurd (omega arith)
read_owner (x ∷ cs) zero h = (x, refl, refl)
read_owner (x ∷ cs) (suc c) h = read_owner cs c (omega arith)

pub choice_leads : (d : DescriptionTree) (a c : ℕ) → c < length (choices d) → leads d (Operation a) (Choosing c) ≡ nat_eq a (slice_index (owners (choices d)) c)
choice_leads d a c h =
    let r = read_owner (choices d) c h in
    by r.0 r.1 ∙ ap (λ (o : ℕ). nat_eq o a) (sym r.2) ∙ eq_swap (slice_index (owners (choices d)) c) a
  where
    by : (x : Choice) → slice_get (choices d) c ≡ Some x → leads d (Operation a) (Choosing c) ≡ nat_eq x.operation a
    by x e = cc e

both : {X : Type 0} (p : X → Bool) (xs ys : List X) → list_all p xs ≡ true → list_all p ys ≡ true → list_all p (xs ++ ys) ≡ true
both p xs ys a b = list_all-append p xs ys ∙ and_from (list_all p xs) (list_all p ys) a b

pub each : {X : Type 0} (p : X → Bool) (xs : List X) (i : ℕ) (x : X) → list_all p xs ≡ true → slice_get xs i ≡ Some x → p x ≡ true
each p [] i x all e = absurd (cc e)
each p (y ∷ xs) zero x all e = ap p (sym (same_Some y x e)) ∙ (and_parts (p y) (list_all p xs) all).0
each p (y ∷ xs) (suc i) x all e = each p xs i x ((and_parts (p y) (list_all p xs) all).1) e

instances_owned : (n o : ℕ) (pairs : List (List ℕ × List ℕ)) → o < n → list_all (λ (c : Choice). nat_lt c.operation n) (map (λ (pair : List ℕ × List ℕ). choice o (pair.1 ∷ [])) pairs) ≡ true
instances_owned n o [] h = refl
instances_owned n o (pair ∷ rest) h = and_from (nat_lt o n) _ (lt-ltb o n h) (instances_owned n o rest h)

of_owned : (n o : ℕ) (x : DeclareTree) → o < n → list_all (λ (c : Choice). nat_lt c.operation n) (choices_of o x) ≡ true
of_owned n o (trees.Group names alternatives) h = and_from (nat_lt o n) true (lt-ltb o n h) refl
of_owned n o (trees.Instance pairs) h = instances_owned n o pairs h
of_owned n o (trees.Label names) h = refl
of_owned n o (trees.Reference names) h = refl

in_owned : (n o : ℕ) (xs : List DeclareTree) → o < n → list_all (λ (c : Choice). nat_lt c.operation n) (choices_in o xs) ≡ true
in_owned n o [] h = refl
in_owned n o (x ∷ xs) h = both (λ (c : Choice). nat_lt c.operation n) (choices_of o x) (choices_in o xs) (of_owned n o x h) (in_owned n o xs h)

from_owned : (n : ℕ) (o : ℕ) (xs : List OperationTree) → o + length xs ≤ n → list_all (λ (c : Choice). nat_lt c.operation n) (choices_from o xs) ≡ true
from_owned n o [] h = refl
from_owned n o (x ∷ xs) h = both (λ (c : Choice). nat_lt c.operation n) (choices_in o (declares_in x.sections)) (choices_from (o + 1) xs) (in_owned n o (declares_in x.sections) (omega arith)) (from_owned n (o + 1) xs (omega arith))

-- the operation of a choice is one
pub choice_owner : (d : DescriptionTree) (c : ℕ) → c < length (choices d) → slice_index (owners (choices d)) c < length d.operations
choice_owner d c h =
    let r = read_owner (choices d) c h in
    let t = each (λ (x : Choice). nat_lt x.operation (length d.operations)) (choices d) c r.0 (from_owned (length d.operations) 0 d.operations (omega arith)) r.1 in
    subst (λ (o : ℕ). o < length d.operations) (sym r.2) (ltb-true r.0.operation (length d.operations) t)

-- ---- declared names: their operations, and what they choose among

abbrev is_within : ℕ → What → Bool
is_within n (whats.Group k) = nat_lt k n
is_within n (whats.Instance k) = nat_lt k n
is_within n whats.Label = true
is_within n whats.Reference = true

-- the operation is below a number, and the choice below another
abbrev fits : ℕ → ℕ → Entry → Bool
fits m n e = nat_lt e.operation m && is_within n e.what

named_fit : (m n o : ℕ) (what : What) (names : List (List ℕ)) → o < m → is_within n what ≡ true → list_all (fits m n) (map (entry o what) names) ≡ true
named_fit m n o what [] h w = refl
named_fit m n o what (x ∷ names) h w = and_from _ _ (and_from (nat_lt o m) (is_within n what) (lt-ltb o m h) w) (named_fit m n o what names h w)

instances_fit : (m n o : ℕ) (c : ℕ) (pairs : List (List ℕ × List ℕ)) → o < m → c + length pairs ≤ n → list_all (fits m n) (instances o c pairs) ≡ true
instances_fit m n o c [] h w = refl
instances_fit m n o c (pair ∷ rest) h w = and_from _ _ (and_from (nat_lt o m) (nat_lt c n) (lt-ltb o m h) (lt-ltb c n (omega arith))) (instances_fit m n o (c + 1) rest h (omega arith))

of_fit : (m n o c : ℕ) (x : DeclareTree) → o < m → c + length (choices_of o x) ≤ n → list_all (fits m n) (entries_of o c x) ≡ true
of_fit m n o c (trees.Group names alternatives) h w = named_fit m n o (whats.Group c) names h (lt-ltb c n (omega arith))
of_fit m n o c (trees.Instance pairs) h w = let l = length-map pairs (λ (pair : List ℕ × List ℕ). choice o (pair.1 ∷ [])) in instances_fit m n o c pairs h (omega (arith, l))
of_fit m n o c (trees.Label names) h w = named_fit m n o whats.Label names h refl
of_fit m n o c (trees.Reference names) h w = named_fit m n o whats.Reference names h refl

in_fit : (m n o : ℕ) (c : ℕ) (xs : List DeclareTree) → o < m → c + length (choices_in o xs) ≤ n → list_all (fits m n) (entries_in o c xs) ≡ true
in_fit m n o c [] h w = refl
in_fit m n o c (x ∷ xs) h w =
    let l = length-append (choices_of o x) (choices_in o xs) in
    both (fits m n) (entries_of o c x) (entries_in o (c + length (choices_of o x)) xs) (of_fit m n o c x h (omega (arith, l))) (in_fit m n o (c + length (choices_of o x)) xs h (omega (arith, l)))

from_fit : (m n : ℕ) (o : ℕ) (c : ℕ) (xs : List OperationTree) → o + length xs ≤ m → c + length (choices_from o xs) ≤ n → list_all (fits m n) (entries_from o c xs) ≡ true
from_fit m n o c [] h w = refl
from_fit m n o c (x ∷ xs) h w =
    let here = declares_in x.sections in
    let l = length-append (choices_in o here) (choices_from (o + 1) xs) in
    both (fits m n) (entries_in o c here) (entries_from (o + 1) (c + length (choices_in o here)) xs) (in_fit m n o c here (omega arith) (omega (arith, l)))
    (from_fit m n (o + 1) (c + length (choices_in o here)) xs (omega arith) (omega (arith, l)))

all_fit : (d : DescriptionTree) → list_all (fits (length d.operations) (length (choices d))) (entries d) ≡ true
all_fit d = from_fit (length d.operations) (length (choices d)) 0 0 d.operations (omega arith) (omega arith)

pub read_entry : {X : Type 0} (xs : List X) (i : ℕ) → i < length xs → (x : X) × (slice_get xs i ≡ Some x)
read_entry [] i h = absurd (omega arith)
read_entry (x ∷ xs) zero h = (x, refl)
read_entry (x ∷ xs) (suc i) h = read_entry xs i (omega arith)

fit_at : (d : DescriptionTree) (i : ℕ) (e : Entry) → slice_get (entries d) i ≡ Some e → (e.operation < length d.operations) × (is_within (length (choices d)) e.what ≡ true)
fit_at d i e at =
    let t = and_parts (nat_lt e.operation (length d.operations)) (is_within (length (choices d)) e.what) (each (fits (length d.operations) (length (choices d))) (entries d) i e (all_fit d) at) in
    (ltb-true e.operation (length d.operations) t.0, t.1)

-- the operation of a declared name is one
pub entry_owner : (d : DescriptionTree) (i : ℕ) → i < length (entries d) → owner_at d i < length d.operations
entry_owner d i h = let r = read_entry (entries d) i h in by r.0 r.1 (fit_at d i r.0 r.1).0
  where
    by : (e : Entry) → slice_get (entries d) i ≡ Some e → e.operation < length d.operations → owner_at d i < length d.operations
    by e at l = subst (λ (o : ℕ). o < length d.operations) {x = e.operation} {y = owner_at d i} (cc at) l

ranged_one : (base n k b : ℕ) (test : ℕ → Bool) → k < n → ((c : ℕ) → test c ≡ nat_eq k c) → ranged base n test b ≡ nat_eq b (base + k)
ranged_one base n k b test h is = let t = is (b - base) in let u : nat_lt k n ≡ true = lt-ltb k n h in grind (arith, nat_tests)

module _ (d : DescriptionTree) (i k b : ℕ) where
  group_at : (o : Option Entry) → slice_get (entries d) i ≡ o → what_at d i ≡ Some (whats.Group k) → (k < length (choices d)) × ((c : ℕ) → leads d (Declaring i) (Choosing c) ≡ nat_eq k c)
  group_at None at w = absurd (cc (at, w))
  group_at (Some e) at w =
      let is : e.what ≡ whats.Group k = cc (at, w) in
      let t : nat_lt k (length (choices d)) ≡ true = sym (ap (is_within (length (choices d))) is) ∙ (fit_at d i e at).1 in
      (ltb-true k (length (choices d)) t, λ c. cc (at, is))

  instance_at : (o : Option Entry) → slice_get (entries d) i ≡ o → what_at d i ≡ Some (whats.Instance k) → (k < length (choices d)) × ((c : ℕ) → leads d (Declaring i) (Choosing c) ≡ nat_eq k c)
  instance_at None at w = absurd (cc (at, w))
  instance_at (Some e) at w =
      let is : e.what ≡ whats.Instance k = cc (at, w) in
      let t : nat_lt k (length (choices d)) ≡ true = sym (ap (is_within (length (choices d))) is) ∙ (fit_at d i e at).1 in
      (ltb-true k (length (choices d)) t, λ c. cc (at, is))

  pub group_below : what_at d i ≡ Some (whats.Group k) → k < length (choices d)
  group_below w = (group_at (slice_get (entries d) i) refl w).0

  pub instance_below : what_at d i ≡ Some (whats.Instance k) → k < length (choices d)
  instance_below w = (instance_at (slice_get (entries d) i) refl w).0

  pub group_chooses : what_at d i ≡ Some (whats.Group k) → to_chosen_by d i b ≡ nat_eq b (first_choice d + k)
  group_chooses w = let g = group_at (slice_get (entries d) i) refl w in ranged_one (first_choice d) (length (choices d)) k b (λ c. leads d (Declaring i) (Choosing c)) g.0 g.1

  pub instance_chooses : what_at d i ≡ Some (whats.Instance k) → to_chosen_by d i b ≡ nat_eq b (first_choice d + k)
  instance_chooses w = let g = instance_at (slice_get (entries d) i) refl w in ranged_one (first_choice d) (length (choices d)) k b (λ c. leads d (Declaring i) (Choosing c)) g.0 g.1

abbrev refers_from : ℕ → Option Entry → Bool
refers_from a None = false
refers_from a (Some e) = nat_eq e.operation a && refers e.what

-- what is no operation leads to no choice and to no reference as one
pub each_owner : (d : DescriptionTree) (a c : ℕ) → length d.operations ≤ a → leads d (Operation a) (Choosing c) ≡ false
each_owner d a c h = ⊎_elim (λ on. known (ltb-true c (length (choices d)) on)) (λ off. past (slice_get (choices d) c) refl (ltb-false c (length (choices d)) off)) (cases_Bool (nat_lt c (length (choices d))))
  where
    known : c < length (choices d) → leads d (Operation a) (Choosing c) ≡ false
    known l = let o = choice_owner d c l in choice_leads d a c l ∙ ne_eqb a (slice_index (owners (choices d)) c) (λ e. absurd (omega (arith, o)))

    past : (r : Option Choice) → slice_get (choices d) c ≡ r → length (choices d) ≤ c → leads d (Operation a) (Choosing c) ≡ false
    past None e l = cc e
    past (Some x) e l = let k = slice_get_within (choices d) c x e in absurd (omega (arith, k))

pub each_reference : (d : DescriptionTree) (a i : ℕ) → length d.operations ≤ a → leads d (Operation a) (Declaring i) ≡ false
each_reference d a i h = by (slice_get (entries d) i) refl
  where
    at : (x : Entry) → slice_get (entries d) i ≡ Some x → nat_eq x.operation a ≡ false → leads d (Operation a) (Declaring i) ≡ false
    at x e n = ap (λ (r : Option Entry). refers_from a r) e ∙ ap (λ (t : Bool). t && refers x.what) n

    by : (r : Option Entry) → slice_get (entries d) i ≡ r → leads d (Operation a) (Declaring i) ≡ false
    by None e = cc e
    by (Some x) e =
        let o = (fit_at d i x e).0 in
        let n : nat_eq x.operation a ≡ false = ne_eqb x.operation a (λ f. absurd (omega (arith, o))) in
        at x e n

-- what a declared name chooses among is a choice
abbrev picked_by : Option Entry → ℕ → Bool
picked_by None c = false
picked_by (Some e) c = chooses e.what c

picked_within : (n c : ℕ) (w : What) → is_within n w ≡ true → chooses w c ≡ true → c < n
picked_within n c (whats.Group k) w t = subst (λ (x : ℕ). x < n) (eqb-true k c t) (ltb-true k n w)
picked_within n c (whats.Instance k) w t = subst (λ (x : ℕ). x < n) (eqb-true k c t) (ltb-true k n w)
picked_within n c whats.Label w t = absurd (cc t)
picked_within n c whats.Reference w t = absurd (cc t)

pub chosen_within : (d : DescriptionTree) (i c : ℕ) → leads d (Declaring i) (Choosing c) ≡ true → c < length (choices d)
chosen_within d i c t = by (slice_get (entries d) i) refl
  where
    by : (r : Option Entry) → slice_get (entries d) i ≡ r → c < length (choices d)
    by None e = absurd (cc (e, t))
    by (Some x) e = picked_within (length (choices d)) c x.what (fit_at d i x e).1 (sym (ap (λ (r : Option Entry). picked_by r c) e) ∙ t)

-- the edge to one more choice
pub choices_step : (d : DescriptionTree) (all : List ℕ) (first k a b : ℕ) (old before now : Bool) → all ≡ owners (choices d) → first ≡ first_choice d → k < length (choices d)
    → before ≡ (old || to_choices d k a b) → now ≡ (before || (nat_eq a (slice_index all k) && nat_eq b (first + k))) → now ≡ (old || to_choices d (k + 1) a b)
choices_step d all first k a b old before now is start h was added =
    let owner : nat_eq a (slice_index all k) ≡ leads d (Operation a) (Choosing k) = ap (λ (xs : List ℕ). nat_eq a (slice_index xs k)) is ∙ sym (choice_leads d a k h) in
    let place : nat_eq b (first + k) ≡ nat_eq b (first_choice d + k) = ap (λ (f : ℕ). nat_eq b (f + k)) start in
    let step = ranged_step (first_choice d) k (λ c. leads d (Operation a) (Choosing c)) b in
    grind (arith, owner, place, step)
