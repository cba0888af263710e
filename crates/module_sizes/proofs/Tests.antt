-- What the conditions of activations are worth, occurrence by occurrence.
use Rattle.std.proofs.Common.{◌≡◌, ◌≤◌, ◌+◌, ◌++◌, ◌∙◌, ℕ, zero, suc, false, List, [], ◌∷◌, Option, None, Some, length, refl, ap, arith}
use Rattle.std.specs.Prelude.{slice_get, option_map, sum_by}
use Rattle.std.specs.Option.{option_and_then, option_to_list}
use Rattle.std.proofs.lemmas.List.{length-append}
use Rattle.std.proofs.lemmas.List.Sums.{sum_by-cons, sum_by-append}
use Rattle.lisa_tree.specs.Expressions.{ExprTree}
use Rattle.lisa_tree.specs.Activations as items
use Rattle.lisa_tree.specs.Activations.{ActTree, ActTrees}
use Rattle.lisa_tree.specs.Descriptions.{DescriptionTree}
use Rattle.lisa_tree.specs.Operations.{sections_at, activation_in}
use Rattle.lisa_machine.proofs.Entries.{get_left, get_right}
use Rattle.activation_trees.specs.declared.parts.Occurrence.{Occurrence}
use Rattle.activation_trees.specs.Starting.{Activated, start_of, activated_by}
use Rattle.activation_trees.specs.Unfolding.{occurrences, child}
use Rattle.pipeline_time.specs.Acts.{Acts, Done, Act, When, Node, nodes, size}
use Rattle.touch_promises.specs.lisa_meaning.Trees.{Activator, followed, item_tests, items_tests, row, item_acts, items_acts, activation_acts, acts_within}
use Rattle.touch_promises.specs.lisa_meaning.Cores.{item_conditions, items_conditions, conditions_in, core_of}
use Rattle.touch_promises.specs.lisa_meaning.Laws.{TreesAreOccurrences}
use Rattle.module_sizes.specs.Costs.{Rates}
use Rattle.module_sizes.specs.Worths.{value_worth}
use Rattle.module_sizes.specs.Standing.{read_worth}
use Rattle.module_sizes.specs.Unfolded.{names_of}
use Rattle.module_sizes.specs.Activating.{Activating, activating}
use Rattle.module_sizes.specs.Priced.{operation_of, prices_of}
use Rattle.module_sizes.specs.Summed.{tests_worth}
use Rattle.module_sizes.specs.Counted.{of_all}
use Rattle.module_sizes.proofs.Owning.{IsOwn, AreOwn, at_number, all_own, occurrences_summed}

-- ---- as many conditions as `if`s

mutual
  item_counted : (item : ActTree) → length (item_conditions item) ≡ item_tests item
  item_counted (items.Start n) = refl
  item_counted (items.Choose e chosen) = ap suc (items_counted chosen)
  item_counted (items.ChooseElse e chosen other) =
      let l = length-append (items_conditions chosen) (items_conditions other) in
      let i = items_counted chosen in
      let j = items_counted other in
      omega (arith, l, i, j)

  items_counted : (all : ActTrees) → length (items_conditions all) ≡ items_tests all
  items_counted items.End = refl
  items_counted (items.Then item rest) =
      let l = length-append (item_conditions item) (items_conditions rest) in
      let i = item_counted item in
      let j = items_counted rest in
      omega (arith, l, i, j)

-- ---- the conditions of one activation

module _ (w : Activating) where
  -- not those of the occurrences among its items
  abbrev pub own_tests : Acts → ℕ
  own_tests Done = 0
  own_tests (Act number level past own rest) = own_tests rest
  own_tests (When number test taken other rest) = (648 + w.test number test) + (own_tests taken + (own_tests other + own_tests rest))

  own_followed : (f g : Acts) → own_tests (followed f g) ≡ own_tests f + own_tests g
  own_followed Done g = omega arith
  own_followed (Act number level past own rest) g = own_followed rest g
  own_followed (When number test taken other rest) g = let more = own_followed rest g in omega (arith, more)

  module _ (a : Activator) (price : ExprTree → ℕ) where
    row_free : (from : ℕ) (ones : List Activated) → own_tests (row a from ones) ≡ 0
    row_free from [] = refl
    row_free from (one ∷ more) = row_free (suc (from + size (a.below from (child a.description a.number a.occurrence one)))) more

    -- the conditions stand there from a number on, each at its price
    abbrev StandFrom : ℕ → List ExprTree → Type 0
    StandFrom test es = (i : ℕ) (e : ExprTree) → slice_get es i ≡ Some e → w.test a.number (test + i) ≡ price e

    first_stands : (test : ℕ) (e : ExprTree) (es : List ExprTree) → StandFrom test (e ∷ es) → w.test a.number test ≡ price e
    first_stands test e es stand = ap (w.test a.number) (let same : test ≡ test + 0 = omega arith in same) ∙ stand 0 e refl

    later_stand : (test : ℕ) (e : ExprTree) (es : List ExprTree) → StandFrom test (e ∷ es) → StandFrom (suc test) es
    later_stand test e es stand = λ i f is. ap (w.test a.number) (let same : suc test + i ≡ test + suc i = omega arith in same) ∙ stand (suc i) f is

    left_stand : (test : ℕ) (es fs : List ExprTree) → StandFrom test (es ++ fs) → StandFrom test es
    left_stand test es fs stand = λ i e is. stand i e (get_left es fs i e is)

    right_stand : (test n : ℕ) (es fs : List ExprTree) → length es ≡ n → StandFrom test (es ++ fs) → StandFrom (test + n) fs
    right_stand test n es fs count stand =
        λ i e is. ap (w.test a.number) (let same : test + n + i ≡ test + (length es + i) = omega (arith, count) in same) ∙ stand (length es + i) e (get_right es fs i e is)

    abbrev worth : List ExprTree → ℕ
    worth es = sum_by (λ e. 648 + price e) es

    mutual
      item_worth : (from test : ℕ) (item : ActTree) → StandFrom test (item_conditions item) → own_tests (item_acts a from test item) ≡ worth (item_conditions item)
      item_worth from test (items.Start n) stand = row_free from (activated_by a.description (option_to_list (start_of a.description a.occurrence.operation n)))
      item_worth from test (items.Choose e chosen) stand =
          let one = first_stands test e (items_conditions chosen) stand in
          let more = items_worth from (suc test) chosen (later_stand test e (items_conditions chosen) stand) in
          let sum = sum_by-cons (λ f. 648 + price f) e (items_conditions chosen) in
          omega (arith, one, more, sum)
      item_worth from test (items.ChooseElse e chosen other) stand =
          let all = items_conditions chosen ++ items_conditions other in
          let later = later_stand test e all stand in
          let one = first_stands test e all stand in
          let f = items_acts a from (suc test) chosen in
          let i = items_worth from (suc test) chosen (left_stand (suc test) (items_conditions chosen) (items_conditions other) later) in
          let j = items_worth (from + size f) (suc test + items_tests chosen) other (right_stand (suc test) (items_tests chosen) (items_conditions chosen) (items_conditions other) (items_counted chosen) later) in
          let sum = sum_by-cons (λ f. 648 + price f) e all in
          let two = sum_by-append (λ f. 648 + price f) (items_conditions chosen) (items_conditions other) in
          omega (arith, one, i, j, sum, two)

      items_worth : (from test : ℕ) (all : ActTrees) → StandFrom test (items_conditions all) → own_tests (items_acts a from test all) ≡ worth (items_conditions all)
      items_worth from test items.End stand = refl
      items_worth from test (items.Then item rest) stand =
          let f = item_acts a from test item in
          let g = items_acts a (from + size f) (test + item_tests item) rest in
          let i = item_worth from test item (left_stand test (item_conditions item) (items_conditions rest) stand) in
          let j = items_worth (from + size f) (test + item_tests item) rest (right_stand test (item_tests item) (item_conditions item) (items_conditions rest) (item_counted item) stand) in
          let both = own_followed f g in
          let sum = sum_by-append (λ f. 648 + price f) (item_conditions item) (items_conditions rest) in
          omega (arith, i, j, both, sum)

    pub activation_worth : (all : Option ActTrees) → StandFrom 0 (conditions_in all) → own_tests (activation_acts a all) ≡ worth (conditions_in all)
    activation_worth None stand = refl
    activation_worth (Some all) stand = items_worth (suc a.number) 0 all stand

-- ---- of a description

module _ (d : DescriptionTree) (rates : Rates) where
  abbrev w : Activating
  w = activating (core_of d) (prices_of d rates)

  -- of the conditions in an operation's activation
  abbrev pub conditions_worth : ℕ → ℕ
  conditions_worth o = sum_by (λ e. 648 + (value_worth (names_of d rates o) e + 741)) (conditions_in (activation_in (sections_at d o)))

  abbrev worth_at : ℕ → ℕ
  worth_at k = at_number d conditions_worth k

  -- a condition by its number
  test_is : (k i : ℕ) (x : Occurrence) (e : ExprTree) → slice_get (occurrences d) k ≡ Some x → slice_get (conditions_in (activation_in (sections_at d x.operation))) i ≡ Some e
      → w.test k i ≡ value_worth (names_of d rates x.operation) e + 741
  test_is k i x e at is =
      ap (λ (r : Option Occurrence). read_worth (names_of d rates (operation_of r)) (option_and_then (λ o. slice_get (conditions_in (activation_in (sections_at d o))) i) (option_map (λ (y : Occurrence). y.operation) r)) + 741) at
      ∙ ap (λ (c : Option ExprTree). read_worth (names_of d rates x.operation) c + 741) is

  within_low : (levels k : ℕ) (x : Occurrence) → slice_get (occurrences d) k ≡ Some x → own_tests w (acts_within levels d k x) ≤ conditions_worth x.operation
  within_low zero k x at = omega arith
  within_low (suc levels) k x at =
      let a : Activator = record { description = d; number = k; occurrence = x; below = acts_within levels d } in
      let same = activation_worth w a (λ e. value_worth (names_of d rates x.operation) e + 741) (activation_in (sections_at d x.operation)) (λ i e is. ap (w.test k) (let t : 0 + i ≡ i = omega arith in t) ∙ test_is k i x e at is) in
      omega (arith, same)

  own_low : (k : ℕ) (own : Acts) → IsOwn d k own → own_tests w own ≤ worth_at k
  own_low k own h =
      let low = within_low h.levels k h.whose h.at in
      let acts = ap (own_tests w) h.is in
      let same = ap (λ (r : Option Occurrence). conditions_worth (operation_of r)) h.at in
      omega (arith, low, acts, same)

  -- all conditions, each with its own occurrence
  acts_low : (above : ℕ) (acts : Acts) → AreOwn d acts → tests_worth w acts ≤ own_tests w acts + sum_by (λ (node : Node). worth_at node.number) (nodes above acts)
  acts_low above Done h = omega arith
  acts_low above (Act number level past own rest) h =
      let head : Node = record { number = number; above = above; level = level; past = past; own = own } in
      let here = own_low number own h.0 in
      let a = acts_low level own h.1 in
      let b = acts_low above rest h.2 in
      let c = sum_by-cons (λ (node : Node). worth_at node.number) head (nodes level own ++ nodes above rest) in
      let e = sum_by-append (λ (node : Node). worth_at node.number) (nodes level own) (nodes above rest) in
      omega (arith, here, a, b, c, e)
  acts_low above (When number test taken other rest) h =
      let a = acts_low above taken h.0 in
      let b = acts_low above other h.1 in
      let c = acts_low above rest h.2 in
      let e = sum_by-append (λ (node : Node). worth_at node.number) (nodes above taken) (nodes above other ++ nodes above rest) in
      let f = sum_by-append (λ (node : Node). worth_at node.number) (nodes above other) (nodes above rest) in
      omega (arith, a, b, c, e, f)

  pub tests_summed : TreesAreOccurrences d → tests_worth w (core_of d).acts ≤ of_all d conditions_worth
  tests_summed trees =
      let whole = acts_low 0 (Act 0 0 false (core_of d).acts Done) (all_own d trees) in
      let sum = occurrences_summed d conditions_worth trees in
      omega (arith, whole, sum)
