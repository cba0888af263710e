-- The edges of all sorts together are what leads where.
use Rattle.std.proofs.Common.{◌≡◌, ◌<◌, ◌≤◌, ◌+◌, ◌-◌, ◌&&◌, ◌||◌, ℕ, List, [], ◌∷◌, Option, None, Some, Bool, true, false, not, cond, nat_eq, nat_lt, length, refl, ap, sym, ◌∙◌, arith, inl, inr, subst, ⊎_elim}
use Rattle.std.specs.Prelude.{slice_get}
use Rattle.std.specs.List.{position_or_len}
use Rattle.std.specs.Global.{Vec}
use Rattle.std.proofs.lemmas.Bool.{or_cases, eqb-true, lt-ltb, le-ltb, ltb-true, ltb-false, and_parts, cases_Bool, cond-true, cond-false, false_from_ne_true}
use Rattle.std.proofs.lemmas.Bool.Decides.{nat_tests}
use Rattle.graph_paths.specs.Paths.{targets, is_in, AreNodes}
use Rattle.lisa_tree.specs.Descriptions.{DescriptionTree, OperationTree}
use Rattle.lisa_tree.specs.Same.{same_name}
use Rattle.lisa_tree.specs.Operations.{number_of, numbers_of}
use Rattle.lisa_tree.specs.Declarations.{Choice, entries, choices, alternatives_at}
use Rattle.lisa_tree.specs.Paths.{Node, Operation, Choosing, Declaring, node_at, node_count, leads}
use Rattle.description_graph.specs.Graph.{IsGraph, ranged, first_choice, first_entry, to_choices, to_references, to_alternatives, to_chosen, to_chosen_by, plain_edges, to_meanings, to_meanings_of}
use Rattle.description_graph.proofs.Numbered.{ranged_low, ranged_high, ranged_at, ranged_off, each_owner, each_reference}

-- ---- alternatives are operations

found_number : (d : DescriptionTree) (n : List ℕ) (o : ℕ) → number_of d n ≡ Some o → o < length d.operations
found_number d n o e = within (position_or_len (λ (x : OperationTree). same_name n x.name) d.operations) (length d.operations) o e
  where
    within : (k m i : ℕ) → ◌≡◌ {A = Option ℕ} (cond (nat_lt k m) (Some k) None) (Some i) → i < m
    within k m i e = grind (arith, nat_tests)

in_numbers : (d : DescriptionTree) (b : ℕ) (names : List (List ℕ)) → is_in b (numbers_of d names) ≡ true → b < length d.operations
in_numbers d b [] e = absurd (cc e)
in_numbers d b (n ∷ names) e = by (number_of d n) refl (λ more. in_numbers d b names more)
  where
    by : (r : Option ℕ) → number_of d n ≡ r → (is_in b (numbers_of d names) ≡ true → b < length d.operations) → b < length d.operations
    by None is more = more (grind arith)
    by (Some o) is more =
        let f : (nat_eq b o || is_in b (numbers_of d names)) ≡ true = grind arith in
        elim (or_cases (nat_eq b o) (is_in b (numbers_of d names)) f) [
          | inl here ↦ subst (λ (x : ℕ). x < length d.operations) (sym (eqb-true b o here)) (found_number d n o is)
          | inr there ↦ more there
        ]

pub alternatives_below : (d : DescriptionTree) (c b : ℕ) → is_in b (alternatives_at d c) ≡ true → b < length d.operations
alternatives_below d c b e = by (slice_get (choices d) c) refl
  where
    by : (r : Option Choice) → slice_get (choices d) c ≡ r → b < length d.operations
    by None is = absurd (cc (is, e))
    by (Some x) is = in_numbers d b x.alternatives (cc (is, e))

no_alternative : (d : DescriptionTree) (c b : ℕ) → length d.operations ≤ b → is_in b (alternatives_at d c) ≡ false
no_alternative d c b h = false_from_ne_true (is_in b (alternatives_at d c)) (λ e. let l = alternatives_below d c b e in absurd (omega (arith, l)))

-- ---- where a number stands

pub data Place (d : DescriptionTree) (a : ℕ) : Type 0 where
  operation : a < length d.operations → node_at d a ≡ Operation a → Place d a
  choosing : (c : ℕ) → c < length (choices d) → a ≡ first_choice d + c → node_at d a ≡ Choosing c → Place d a
  declaring : (i : ℕ) → i < length (entries d) → a ≡ first_entry d + i → node_at d a ≡ Declaring i → Place d a

pub at_operation : (d : DescriptionTree) (a : ℕ) → a < length d.operations → node_at d a ≡ Operation a
at_operation d a h = cond-true (nat_lt a (length d.operations)) _ _ (lt-ltb a (length d.operations) h)

pub at_choice : (d : DescriptionTree) (a c : ℕ) → c < length (choices d) → a ≡ first_choice d + c → node_at d a ≡ Choosing c
at_choice d a c h e =
    let s : a - length d.operations ≡ c = omega arith in
    cond-false (nat_lt a (length d.operations)) _ _ (le-ltb a (length d.operations) (omega arith))
    ∙ cond-true (nat_lt (a - length d.operations) (length (choices d))) _ _ (lt-ltb (a - length d.operations) (length (choices d)) (omega arith))
    ∙ ap Choosing s

pub at_entry : (d : DescriptionTree) (a i : ℕ) → a ≡ first_entry d + i → node_at d a ≡ Declaring i
at_entry d a i e =
    let s : a - length d.operations - length (choices d) ≡ i = omega arith in
    cond-false (nat_lt a (length d.operations)) _ _ (le-ltb a (length d.operations) (omega arith))
    ∙ cond-false (nat_lt (a - length d.operations) (length (choices d))) _ _ (le-ltb (a - length d.operations) (length (choices d)) (omega arith))
    ∙ ap Declaring s

pub place_of : (d : DescriptionTree) (a : ℕ) → a < node_count d → Place d a
place_of d a h = ⊎_elim (λ on. low (ltb-true a (length d.operations) on)) (λ off. high (ltb-false a (length d.operations) off)) (cases_Bool (nat_lt a (length d.operations)))
  where
    low : a < length d.operations → Place d a
    low l = operation l (at_operation d a l)

    high : length d.operations ≤ a → Place d a
    high l = ⊎_elim (λ on. middle (ltb-true a (first_entry d) on)) (λ off. last (ltb-false a (first_entry d) off)) (cases_Bool (nat_lt a (first_entry d)))
      where
        middle : a < first_entry d → Place d a
        middle m = let e : a ≡ first_choice d + (a - first_choice d) = omega arith in let k : a - first_choice d < length (choices d) = omega arith in choosing (a - first_choice d) k e (at_choice d a (a - first_choice d) k e)

        last : first_entry d ≤ a → Place d a
        last m = let e : a ≡ first_entry d + (a - first_entry d) = omega arith in let k : a - first_entry d < length (entries d) = omega arith in declaring (a - first_entry d) k e (at_entry d a (a - first_entry d) e)

-- ---- all edges

abbrev pub all_edges : DescriptionTree → ℕ → ℕ → Bool
all_edges d a b =
    (((to_choices d (length (choices d)) a b || to_references d (length (entries d)) a b) || to_alternatives d (length (choices d)) a b) || to_chosen d (length (entries d)) a b)
    || to_meanings d (length (entries d)) a b

five : (p q r s t p' q' r' s' t' : Bool) → p ≡ p' → q ≡ q' → r ≡ r' → s ≡ s' → t ≡ t' → ((((p || q) || r) || s) || t) ≡ ((((p' || q') || r') || s') || t')
five p q r s t p' q' r' s' t' e f g h i = cc

only_two : (p q : Bool) → ((((p || q) || false) || false) || false) ≡ (p || q)
only_two true q = refl
only_two false true = refl
only_two false false = refl

only_third : (r : Bool) → ((((false || false) || r) || false) || false) ≡ r
only_third true = refl
only_third false = refl

only_last : (s t : Bool) → ((((false || false) || false) || s) || t) ≡ (s || t)
only_last true t = refl
only_last false t = refl

module _ (d : DescriptionTree) where
  from_operation : (a b : ℕ) → a < length d.operations → all_edges d a b ≡ (to_choices d (length (choices d)) a b || to_references d (length (entries d)) a b)
  from_operation a b h =
      five _ _ _ _ _ (to_choices d (length (choices d)) a b) (to_references d (length (entries d)) a b) false false false refl refl
      (ranged_low (first_choice d) (length (choices d)) (λ c. is_in b (alternatives_at d c)) a h)
      (ranged_low (first_entry d) (length (entries d)) (λ i. to_chosen_by d i b) a (omega arith))
      (ranged_low (first_entry d) (length (entries d)) (λ i. to_meanings_of d i b) a (omega arith))
      ∙ only_two (to_choices d (length (choices d)) a b) (to_references d (length (entries d)) a b)

  not_operation : (a b : ℕ) → length d.operations ≤ a → (to_choices d (length (choices d)) a b ≡ false) × (to_references d (length (entries d)) a b ≡ false)
  not_operation a b h = (
    ranged_off (first_choice d) (length (choices d)) (λ c. leads d (Operation a) (Choosing c)) b (λ c. each_owner d a c h),
    ranged_off (first_entry d) (length (entries d)) (λ i. leads d (Operation a) (Declaring i)) b (λ i. each_reference d a i h),
  )

  from_choice : (a b c : ℕ) → c < length (choices d) → a ≡ first_choice d + c → all_edges d a b ≡ is_in b (alternatives_at d c)
  from_choice a b c h e =
      let none = not_operation a b (omega arith) in
      five _ _ _ _ _ false false (is_in b (alternatives_at d c)) false false none.0 none.1
      (ap (λ (x : ℕ). to_alternatives d (length (choices d)) x b) e ∙ ranged_at (first_choice d) (length (choices d)) (λ c. is_in b (alternatives_at d c)) c h)
      (ranged_low (first_entry d) (length (entries d)) (λ i. to_chosen_by d i b) a (omega arith))
      (ranged_low (first_entry d) (length (entries d)) (λ i. to_meanings_of d i b) a (omega arith))
      ∙ only_third (is_in b (alternatives_at d c))

  from_entry : (a b i : ℕ) → i < length (entries d) → a ≡ first_entry d + i → all_edges d a b ≡ (to_chosen_by d i b || to_meanings_of d i b)
  from_entry a b i h e =
      let none = not_operation a b (omega arith) in
      five _ _ _ _ _ false false false (to_chosen_by d i b) (to_meanings_of d i b) none.0 none.1
      (ranged_high (first_choice d) (length (choices d)) (λ c. is_in b (alternatives_at d c)) a (omega arith))
      (ap (λ (x : ℕ). to_chosen d (length (entries d)) x b) e ∙ ranged_at (first_entry d) (length (entries d)) (λ i. to_chosen_by d i b) i h)
      (ap (λ (x : ℕ). to_meanings d (length (entries d)) x b) e ∙ ranged_at (first_entry d) (length (entries d)) (λ i. to_meanings_of d i b) i h)
      ∙ only_last (to_chosen_by d i b) (to_meanings_of d i b)

  two : (p q p' q' : Bool) → p ≡ p' → q ≡ q' → (p || q) ≡ (p' || q')
  two p q p' q' e f = cc

  right : (q : Bool) → (false || q) ≡ q
  right q = refl

  left : (p : Bool) → (p || false) ≡ p
  left true = refl
  left false = refl

  -- the numbers of a sort in a row of a base
  seen_at : (base n b i : ℕ) (test : ℕ → Bool) → i < n → b ≡ base + i → ranged base n test b ≡ test i
  seen_at base n b i test h e = ap (ranged base n test) e ∙ ranged_at base n test i h

  operation_row : (a b : ℕ) → Place d b → (to_choices d (length (choices d)) a b || to_references d (length (entries d)) a b) ≡ leads d (Operation a) (node_at d b)
  operation_row a b (operation h is) =
      two _ _ false false (ranged_low (first_choice d) (length (choices d)) (λ c. leads d (Operation a) (Choosing c)) b h)
      (ranged_low (first_entry d) (length (entries d)) (λ i. leads d (Operation a) (Declaring i)) b (omega arith))
      ∙ ap (leads d (Operation a)) (sym is)
  operation_row a b (choosing c h e is) =
      two _ _ (leads d (Operation a) (Choosing c)) false (seen_at (first_choice d) (length (choices d)) b c (λ c. leads d (Operation a) (Choosing c)) h e)
      (ranged_low (first_entry d) (length (entries d)) (λ i. leads d (Operation a) (Declaring i)) b (omega arith))
      ∙ left (leads d (Operation a) (Choosing c))
      ∙ ap (leads d (Operation a)) (sym is)
  operation_row a b (declaring i h e is) =
      two _ _ false (leads d (Operation a) (Declaring i)) (ranged_high (first_choice d) (length (choices d)) (λ c. leads d (Operation a) (Choosing c)) b (omega arith))
      (seen_at (first_entry d) (length (entries d)) b i (λ i. leads d (Operation a) (Declaring i)) h e)
      ∙ ap (leads d (Operation a)) (sym is)

  choice_row : (c b : ℕ) → Place d b → is_in b (alternatives_at d c) ≡ leads d (Choosing c) (node_at d b)
  choice_row c b (operation h is) = ap (leads d (Choosing c)) (sym is)
  choice_row c b (choosing k h e is) = no_alternative d c b (omega arith) ∙ ap (leads d (Choosing c)) (sym is)
  choice_row c b (declaring i h e is) = no_alternative d c b (omega arith) ∙ ap (leads d (Choosing c)) (sym is)

  entry_row : (i b : ℕ) → Place d b → (to_chosen_by d i b || to_meanings_of d i b) ≡ leads d (Declaring i) (node_at d b)
  entry_row i b (operation h is) =
      two _ _ false false (ranged_low (first_choice d) (length (choices d)) (λ c. leads d (Declaring i) (Choosing c)) b h)
      (ranged_low (first_entry d) (length (entries d)) (λ j. leads d (Declaring i) (Declaring j)) b (omega arith))
      ∙ ap (leads d (Declaring i)) (sym is)
  entry_row i b (choosing c h e is) =
      two _ _ (leads d (Declaring i) (Choosing c)) false (seen_at (first_choice d) (length (choices d)) b c (λ c. leads d (Declaring i) (Choosing c)) h e)
      (ranged_low (first_entry d) (length (entries d)) (λ j. leads d (Declaring i) (Declaring j)) b (omega arith))
      ∙ left (leads d (Declaring i) (Choosing c))
      ∙ ap (leads d (Declaring i)) (sym is)
  entry_row i b (declaring j h e is) =
      two _ _ false (leads d (Declaring i) (Declaring j)) (ranged_high (first_choice d) (length (choices d)) (λ c. leads d (Declaring i) (Choosing c)) b (omega arith))
      (seen_at (first_entry d) (length (entries d)) b j (λ j. leads d (Declaring i) (Declaring j)) h e)
      ∙ ap (leads d (Declaring i)) (sym is)

  pub edges_are : (a b : ℕ) → Place d a → Place d b → all_edges d a b ≡ leads d (node_at d a) (node_at d b)
  edges_are a b (operation h is) at = from_operation a b h ∙ operation_row a b at ∙ ap (λ (x : Node). leads d x (node_at d b)) (sym is)
  edges_are a b (choosing c h e is) at = from_choice a b c h e ∙ choice_row c b at ∙ ap (λ (x : Node). leads d x (node_at d b)) (sym is)
  edges_are a b (declaring i h e is) at = from_entry a b i h e ∙ entry_row i b at ∙ ap (λ (x : Node). leads d x (node_at d b)) (sym is)

  -- ---- edges lead to nodes

  ranged_within : (base n : ℕ) (test : ℕ → Bool) (b : ℕ) → ranged base n test b ≡ true → (b < base + n) × (test (b - base) ≡ true)
  ranged_within base n test b e =
      let one = and_parts (not (nat_lt b base)) (nat_lt (b - base) n && test (b - base)) e in
      let more = and_parts (nat_lt (b - base) n) (test (b - base)) one.1 in
      let l = ltb-true (b - base) n more.0 in
      (omega (arith, l), more.1)

  pub edges_within : (a b : ℕ) → all_edges d a b ≡ true → b < node_count d
  edges_within a b e = elim (or_cases (((to_choices d (length (choices d)) a b || to_references d (length (entries d)) a b) || to_alternatives d (length (choices d)) a b) || to_chosen d (length (entries d)) a b) (to_meanings d (length (entries d)) a b) e) [
    | inr meaning ↦ (let m = ranged_within (first_entry d) (length (entries d)) (λ i. to_meanings_of d i b) a meaning in
        let k = ranged_within (first_entry d) (length (entries d)) (λ j. leads d (Declaring (a - first_entry d)) (Declaring j)) b m.1 in omega (arith, k.0))
    | inl others ↦ elim (or_cases ((to_choices d (length (choices d)) a b || to_references d (length (entries d)) a b) || to_alternatives d (length (choices d)) a b) (to_chosen d (length (entries d)) a b) others) [
      | inr chosen ↦ (let m = ranged_within (first_entry d) (length (entries d)) (λ i. to_chosen_by d i b) a chosen in
          let k = ranged_within (first_choice d) (length (choices d)) (λ c. leads d (Declaring (a - first_entry d)) (Choosing c)) b m.1 in omega (arith, k.0))
      | inl first ↦ elim (or_cases (to_choices d (length (choices d)) a b || to_references d (length (entries d)) a b) (to_alternatives d (length (choices d)) a b) first) [
        | inr alternative ↦ (let m = ranged_within (first_choice d) (length (choices d)) (λ c. is_in b (alternatives_at d c)) a alternative in
            let k = alternatives_below d (a - first_choice d) b m.1 in omega (arith, k))
        | inl own ↦ elim (or_cases (to_choices d (length (choices d)) a b) (to_references d (length (entries d)) a b) own) [
          | inl choice ↦ (let m = ranged_within (first_choice d) (length (choices d)) (λ c. leads d (Operation a) (Choosing c)) b choice in omega (arith, m.0))
          | inr reference ↦ (let m = ranged_within (first_entry d) (length (entries d)) (λ i. leads d (Operation a) (Declaring i)) b reference in omega (arith, m.0))
        ]
      ]
    ]
  ]

  pub is_graph : (next : List (Vec ℕ)) → length next ≡ node_count d → ((a b : ℕ) → is_in b (targets next a) ≡ all_edges d a b) → IsGraph d next
  is_graph next count are = record {
    count = count;
    exact = λ a b h k. are a b ∙ edges_are a b (place_of d a h) (place_of d b k);
    nodes = λ a b e. let l = edges_within a b (sym (are a b) ∙ e) in omega (arith, l, count);
  }

pub plain_nodes : (d : DescriptionTree) (next : List (Vec ℕ)) → length next ≡ node_count d → ((a b : ℕ) → is_in b (targets next a) ≡ plain_edges d a b) → AreNodes next
plain_nodes d next count are = λ a b l. (let k = edges_within d a b (ap (λ (t : Bool). t || to_meanings d (length (entries d)) a b) (sym (are a b) ∙ l)) in omega (arith, k, count))

-- edges that were added one sort after another
pub added_up : (none one two three four p q r s : Bool) → none ≡ false → one ≡ (none || p) → two ≡ (one || q) → three ≡ (two || r) → four ≡ (three || s) → four ≡ (((p || q) || r) || s)
added_up none one two three four p q r s t e f g h = grind arith
