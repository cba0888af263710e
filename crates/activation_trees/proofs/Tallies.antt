-- How many occurrences are below an operation, or how many of one operation, as sums.
use Rattle.std.proofs.Common.{◌≡◌, ◌<◌, ◌≤◌, ◌+◌, ◌-◌, ◌++◌, ◌^◌, ℕ, zero, suc, List, [], ◌∷◌, Option, None, Some, Bool, true, false, cond, nat_eq, nat_lt, length, map, min, filter, refl, sym, ap, ◌∙◌, arith, append-nil, ⊎_elim}
use Rattle.std.specs.List.{AllByRecursion}
use Rattle.std.specs.Prelude.{◌↔◌}
use Rattle.std.proofs.lemmas.Bool.{cases_lt}
use Rattle.lisa_tree.specs.Descriptions.{DescriptionTree}
use Rattle.lisa_tree.specs.Operations.{number_of}
use Rattle.lisa_tree.specs.Declarations.{choices, plain_at}
use Rattle.lisa_tree.specs.Paths.{Operation, Choosing, node_at, node_count, choice_node}
use Rattle.lisa_machine.proofs.description_graph_proofs.Nodes.{at_operation, at_choice}
use Rattle.stage_checks.specs.Controls.{main_name}
use Rattle.least_fixed_points.specs.Settles.{Settles, settled}
use Rattle.activation_trees.specs.declared.parts.Occurrence.{Occurrence}
use Rattle.activation_trees.specs.declared.parts.Start.{Start}
use Rattle.activation_trees.specs.Starting.{Activated, activation, alternatives, activated_by, activated, starts}
use Rattle.activation_trees.specs.Unfolding.{occurrence, child, children, in_turn, unfolded, whole, firsts, occurrences, counted, capped}
use Rattle.activation_trees.specs.Sums.{weight, added, summed, start_nodes, node_sum, sum_step}
use Rattle.activation_trees.proofs.Levels.{all_append, all_map, all_of_map, FallsBelow, Falling, IsLower, activated_fall, levels_same}

-- ---- sums over lists

abbrev pub total : {X : Type 0} → (X → ℕ) → List X → ℕ
total f [] = 0
total f (x ∷ xs) = f x + total f xs

total_append : {X : Type 0} (f : X → ℕ) (xs ys : List X) → total f (xs ++ ys) ≡ total f xs + total f ys
total_append f [] ys = omega arith
total_append f (x ∷ xs) ys = let l = total_append f xs ys in omega (arith, l)

total_map : {X Y : Type 0} (f : Y → ℕ) (g : X → Y) (xs : List X) → total f (map g xs) ≡ total (λ x. f (g x)) xs
total_map f g [] = refl
total_map f g (x ∷ xs) = ap (λ (n : ℕ). f (g x) + n) (total_map f g xs)

total_same : {X : Type 0} (f g : X → ℕ) (xs : List X) → AllByRecursion (λ x. f x ≡ g x) xs → total f xs ≡ total g xs
total_same f g [] h = refl
total_same f g (x ∷ xs) h = let l = total_same f g xs h.1 in let m = h.0 in omega (arith, l, m)

-- ---- below an operation, so many levels deep

module _ (w : ℕ → ℕ) (d : DescriptionTree) where
  abbrev pub tally : ℕ → ℕ → ℕ
  tally zero o = 0
  tally (suc k) o = w o + total (λ (a : Activated). tally k a.operation) (activated d o)

  abbrev pub mass : List Occurrence → ℕ
  mass xs = total (λ (x : Occurrence). w x.operation) xs

  in_turn_mass : (k : ℕ) → ((x : Occurrence) (n : ℕ) → mass (unfolded k d n x) ≡ tally k x.operation) → (n : ℕ) (x : Occurrence) (all : List Activated) (next : ℕ)
      → mass (in_turn (unfolded k d) next (map (child d n x) all)) ≡ total (λ (a : Activated). tally k a.operation) all
  in_turn_mass k each n x [] next = refl
  in_turn_mass k each n x (a ∷ all) next =
      let here = unfolded k d next (child d n x a) in
      let behind = in_turn (unfolded k d) (next + length here) (map (child d n x) all) in
      let l = total_append (λ (x : Occurrence). w x.operation) here behind in
      let m = each (child d n x a) next in
      let r = in_turn_mass k each n x all (next + length here) in
      omega (arith, l, m, r)

  pub unfolded_mass : (k : ℕ) (x : Occurrence) (n : ℕ) → mass (unfolded k d n x) ≡ tally k x.operation
  unfolded_mass zero x n = refl
  unfolded_mass (suc k) x n = ap (λ (m : ℕ). w x.operation + m) (in_turn_mass k (unfolded_mass k) n x (activated d x.operation) (suc n))

  alternatives_total : (t : ℕ → ℕ) (by_root : Bool) (xs : List ℕ) → total (λ (a : Activated). t a.operation) (map (activation by_root) xs) ≡ total t xs
  alternatives_total t by_root xs = total_map (λ (a : Activated). t a.operation) (activation by_root) xs

  activated_total : (t : ℕ → ℕ) (all : List Start) → total (λ (a : Activated). t a.operation) (activated_by d all) ≡ total (λ (s : Start). total t (plain_at d s.choice)) all
  activated_total t [] = refl
  activated_total t (s ∷ rest) =
      let l = total_append (λ (a : Activated). t a.operation) (alternatives d s) (activated_by d rest) in
      let m = alternatives_total t s.by_root (plain_at d s.choice) in
      let r = activated_total t rest in
      omega (arith, l, m, r)

  module _ (f : Falling d) where
    -- all that is below
    abbrev pub below : ℕ → ℕ
    below o = tally (suc (node_count d)) o

    tally_same : (k m o : ℕ) → f.rank o < k → f.rank o < m → tally k o ≡ tally m o
    tally_same k m o h i =
        let x = occurrence d None None false o in
        sym (unfolded_mass k x 0) ∙ ap mass (levels_same d f k m x h i 0) ∙ unfolded_mass m x 0

    below_is : (o : ℕ) → below o ≡ w o + total (λ (s : Start). total below (plain_at d s.choice)) (starts d o)
    below_is o =
        let top = f.low o in
        ap (λ (m : ℕ). w o + m) (total_same (λ (a : Activated). tally (node_count d) a.operation) (λ (a : Activated). below a.operation) (activated d o)
        (all_map (IsLower d f o) (λ (a : Activated). tally (node_count d) a.operation ≡ below a.operation)
        (λ a less. tally_same (node_count d) (suc (node_count d)) a.operation (omega (arith, less, top)) (omega (arith, less, top)))
        (activated d o) (activated_fall d f o))
        ∙ activated_total below (starts d o))

-- ---- what follows from a table of sums

capped_twice : (n m top : ℕ) → min (min n top + min m top) top ≡ min (n + m) top
capped_twice n m top = omega arith

module _ (d : DescriptionTree) (only : Option ℕ) (f : Falling d) (known : ℕ → Option ℕ) (exact : (a t : ℕ) → (known a ≡ Some t) ↔ Settles (sum_step d only) a t) where
  abbrev w : ℕ → ℕ
  w = weight only

  abbrev sum_below : ℕ → ℕ
  sum_below o = below w d f o

  weight_small : (o : ℕ) → capped (weight only o) ≡ weight only o
  weight_small o = by only
    where
      by : (x : Option ℕ) → capped (weight x o) ≡ weight x o
      by None = refl
      by (Some r) = at (nat_eq o r)
        where
          at : (b : Bool) → capped (cond b 1 0) ≡ cond b 1 0
          at true = refl
          at false = refl

  summed_is : (g : ℕ → ℕ) (xs : List ℕ) → AllByRecursion (λ a. known a ≡ Some (capped (g a))) xs → (n : ℕ) → summed known (Some (capped n)) xs ≡ Some (capped (n + total g xs))
  summed_is g [] h n = ap (λ (m : ℕ). Some (capped m)) (let e : n ≡ n + 0 = omega arith in e)
  summed_is g (a ∷ xs) h n =
      ap (λ (x : Option ℕ). summed known (added (Some (capped n)) x) xs) h.0
      ∙ ap (λ (m : ℕ). summed known (Some m) xs) (capped_twice n (g a) (2 ^ 64 - 1))
      ∙ summed_is g xs h.1 (n + g a)
      ∙ ap (λ (m : ℕ). Some (capped m)) (let e : n + g a + total g xs ≡ n + (g a + total g xs) = omega arith in e)

  follows : (a t : ℕ) → sum_step d only known a ≡ Some t → known a ≡ Some t
  follows a t e = (exact a t).1 (settled known (λ b u h. (exact b u).0 h) e)

  -- the sum over what a choice has
  abbrev chosen : ℕ → ℕ
  chosen a = total sum_below (plain_at d (a - length d.operations))

  choice_known : (c : ℕ) → c < length (choices d) → AllByRecursion (λ b. known b ≡ Some (capped (sum_below b))) (plain_at d c) → known (choice_node d c) ≡ Some (capped (chosen (choice_node d c)))
  choice_known c h all =
      let same : length d.operations + c - length d.operations ≡ c = omega arith in
      follows (choice_node d c) (capped (chosen (choice_node d c))) (
      ap (node_sum d only known) (at_choice d (choice_node d c) c h refl)
      ∙ summed_is sum_below (plain_at d c) all 0
      ∙ ap (λ (m : ℕ). Some (capped m)) (let e : 0 + total sum_below (plain_at d c) ≡ total sum_below (plain_at d c) = omega arith in e)
      ∙ ap (λ (m : ℕ). Some (capped (total sum_below (plain_at d m)))) (sym same))

  nodes_total : (all : List Start) → total chosen (start_nodes d all) ≡ total (λ (s : Start). total sum_below (plain_at d s.choice)) all
  nodes_total [] = refl
  nodes_total (s ∷ rest) =
      let same : length d.operations + s.choice - length d.operations ≡ s.choice = omega arith in
      let e : chosen (choice_node d s.choice) ≡ total sum_below (plain_at d s.choice) = ap (λ (m : ℕ). total sum_below (plain_at d m)) same in
      let r = nodes_total rest in
      omega (arith, e, r)

  operation_known : (n o : ℕ) → f.rank o < n → o < length d.operations → known o ≡ Some (capped (sum_below o))
  operation_known zero o less h = absurd (omega arith)
  operation_known (suc n) o less h =
      follows o (capped (sum_below o)) (
      ap (node_sum d only known) (at_operation d o h)
      ∙ ap (λ (m : ℕ). summed known (Some m) (start_nodes d (starts d o))) (sym (weight_small o))
      ∙ summed_is chosen (start_nodes d (starts d o)) (all_of_map (λ (a : ℕ). known a ≡ Some (capped (chosen a))) (λ (s : Start). choice_node d s.choice) (starts d o)
      (all_map (FallsBelow d f.rank o) (λ (s : Start). known (choice_node d s.choice) ≡ Some (capped (chosen (choice_node d s.choice))))
      (λ s falls. choice_known s.choice falls.0 (all_map (λ b. (b < length d.operations) × (f.rank b < f.rank o)) (λ b. known b ≡ Some (capped (sum_below b)))
      (λ b lower. operation_known n b (let l = lower.1 in omega (arith, l, less)) lower.0) (plain_at d s.choice) falls.1))
      (starts d o) (f.falls o))) (weight only o)
      ∙ ap (λ (m : ℕ). Some (capped (weight only o + m))) (nodes_total (starts d o))
      ∙ ap (λ (m : ℕ). Some (capped m)) (sym (below_is w d f o)))

  counted_mass : (xs : List Occurrence) → mass w d xs ≡ length (counted only xs)
  counted_mass xs = by only xs
    where
      by : (x : Option ℕ) (xs : List Occurrence) → total (λ (y : Occurrence). weight x y.operation) xs ≡ length (counted x xs)
      by None [] = refl
      by None (y ∷ ys) = let r = by None ys in omega (arith, r)
      by (Some r) [] = refl
      by (Some r) (y ∷ ys) = at (nat_eq y.operation r) (by (Some r) ys)
        where
          at : (b : Bool) → total (λ (y : Occurrence). weight (Some r) y.operation) ys ≡ length (counted (Some r) ys)
              → cond b 1 0 + total (λ (y : Occurrence). weight (Some r) y.operation) ys ≡ length (cond b (y ∷ filter (λ (x : Occurrence). nat_eq x.operation r) ys) (filter (λ (x : Occurrence). nat_eq x.operation r) ys))
          at true e = omega (arith, e)
          at false e = omega (arith, e)

  -- the sum over what `main` unfolds to
  pub main_known : (o : ℕ) → number_of d main_name ≡ Some o → o < length d.operations → known o ≡ Some (capped (length (counted only (occurrences d))))
  main_known o is h =
      let x = occurrence d None None false o in
      operation_known (suc (f.rank o)) o (omega arith) h
      ∙ ap (λ (m : ℕ). Some (capped m)) (
      sym (unfolded_mass w d (suc (node_count d)) x 0)
      ∙ ap (mass w d) (sym (append-nil (whole d 0 x)))
      ∙ ap (λ (m : Option ℕ). mass w d (in_turn (whole d) 0 (firsts d m))) (sym is)
      ∙ counted_mass (occurrences d))

pub none_counted : (d : DescriptionTree) (only : Option ℕ) → number_of d main_name ≡ None → length (counted only (occurrences d)) ≡ 0
none_counted d only is = ap (λ (m : Option ℕ). length (counted only (in_turn (whole d) 0 (firsts d m)))) is ∙ by only
  where
    by : (x : Option ℕ) → length (counted x []) ≡ 0
    by None = refl
    by (Some r) = refl
