-- What stands under an occurrence in the tree of activations is what its own operation's ACTIVATION unfolds to. So sums over the tree are sums
-- over occurrences.
use Rattle.std.proofs.Common.{◌≡◌, ◌≤◌, ◌+◌, ◌++◌, ◌∙◌, ℕ, zero, suc, false, List, [], ◌∷◌, Option, None, Some, map, length, refl, sym, ap, subst, arith, append-nil}
use Rattle.std.specs.Prelude.{slice_get, sum_by}
use Rattle.std.specs.List.{AllByRecursion}
use Rattle.std.proofs.lemmas.List.{map-append}
use Rattle.std.proofs.lemmas.List.Sums.{sum_by-cons}
use Rattle.lisa_tree.specs.Activations as items
use Rattle.lisa_tree.specs.Activations.{ActTree, ActTrees}
use Rattle.lisa_tree.specs.Descriptions.{DescriptionTree}
use Rattle.lisa_tree.specs.Operations.{number_of, sections_at, activation_in}
use Rattle.lisa_tree.specs.Paths.{node_count}
use Rattle.stage_checks.specs.Controls.{main_name}
use Rattle.stage_checks.specs.Running.{act_names, acts_names, activation_names}
use Rattle.lisa_machine.proofs.Entries.{get_left, get_right}
use Rattle.activation_trees.specs.declared.parts.Occurrence.{Occurrence}
use Rattle.activation_trees.specs.Starting.{Activated}
use Rattle.activation_trees.specs.Unfolding.{occurrences, occurrence, child, in_turn, whole, firsts}
use Rattle.activation_trees.proofs.Levels.{in_turn_append, all_append}
use Rattle.pipeline_time.specs.Acts.{Acts, Done, Act, When, Node, nodes, size}
use Rattle.pipeline_time.specs.Cores.{all_nodes}
use Rattle.touch_promises.specs.lisa_meaning.Trees.{Activator, level_of_stage, followed, items_tests, item_tests, row, item_acts, items_acts, activation_acts, acts_within, main_acts, acts_of}
use Rattle.touch_promises.specs.lisa_meaning.Cores.{core_of}
use Rattle.touch_promises.specs.lisa_meaning.Laws.{Listed, node_listed, occurrence_listed, listed_from, TreesAreOccurrences}
use Rattle.touch_promises.proofs.lisa_meaning_proofs.Nodes.{listed_size, named_one, named_two, Named, One, AreListed, items_listed, item_listed, Tree, below_listed}
use Rattle.module_sizes.specs.Priced.{operation_of}
use Rattle.module_sizes.specs.Activating.{items_worth}
use Rattle.module_sizes.specs.Counted.{spare, activation_spare, of_all}

module _ (d : DescriptionTree) where
  -- this is what the occurrence of a number activates, so many levels deep
  pub record IsOwn (number : ℕ) (own : Acts) : Type 0 where
    pub levels : ℕ
    pub whose : Occurrence
    pub at : slice_get (occurrences d) number ≡ Some whose
    pub is : own ≡ acts_within levels d number whose

  abbrev pub AreOwn : Acts → Type 0
  AreOwn Done = Unit {0}
  AreOwn (Act number level past own rest) = IsOwn number own × AreOwn own × AreOwn rest
  AreOwn (When number test taken other rest) = AreOwn taken × AreOwn other × AreOwn rest

  followed_own : (f g : Acts) → AreOwn f → AreOwn g → AreOwn (followed f g)
  followed_own Done g h k = k
  followed_own (Act number level past own rest) g h k = (h.0, h.1, followed_own rest g h.2 k)
  followed_own (When number test taken other rest) g h k = (h.0, h.1, followed_own rest g h.2 k)

  -- ---- occurrences by their numbers

  -- the occurrences from a number on
  abbrev LiesAt : ℕ → List Occurrence → Type 0
  LiesAt n xs = (i : ℕ) (z : Occurrence) → slice_get xs i ≡ Some z → slice_get (occurrences d) (n + i) ≡ Some z

  lies_left : (n : ℕ) (xs ys : List Occurrence) → LiesAt n (xs ++ ys) → LiesAt n xs
  lies_left n xs ys lies i z e = lies i z (get_left xs ys i z e)

  lies_right : (n : ℕ) (xs ys : List Occurrence) → LiesAt n (xs ++ ys) → LiesAt (n + length xs) ys
  lies_right n xs ys lies i z e = ap (slice_get (occurrences d)) (let k : n + length xs + i ≡ n + (length xs + i) = omega arith in k) ∙ lies (length xs + i) z (get_right xs ys i z e)

  lies_first : (n : ℕ) (x : Occurrence) (xs : List Occurrence) → LiesAt n (x ∷ xs) → slice_get (occurrences d) n ≡ Some x
  lies_first n x xs lies = ap (slice_get (occurrences d)) (let k : n ≡ n + 0 = omega arith in k) ∙ lies 0 x refl

  lies_behind : (n : ℕ) (x : Occurrence) (xs : List Occurrence) → LiesAt n (x ∷ xs) → LiesAt (suc n) xs
  lies_behind n x xs lies i z e = ap (slice_get (occurrences d)) (let k : suc n + i ≡ n + suc i = omega arith in k) ∙ lies (suc i) z e

  -- ---- what one occurrence activates

  module _ (levels n : ℕ) (x : Occurrence) (below : (number : ℕ) (y : Occurrence) → LiesAt number (y ∷ Tree d levels number y) → AreOwn (acts_within levels d number y)) where
    abbrev a : Activator
    a = record { description = d; number = n; occurrence = x; below = acts_within levels d }

    abbrev Mine : ℕ → Occurrence → List Occurrence
    Mine from y = y ∷ Tree d levels from y

    abbrev Ones : List Activated → List Occurrence
    Ones ones = map (child d n x) ones

    abbrev Names : List (List ℕ) → List Activated
    Names names = Named d x.operation names

    row_own : (from : ℕ) (ones : List Activated) → LiesAt from (in_turn Mine from (Ones ones)) → AreOwn (row a from ones)
    row_own from [] lies = tt
    row_own from (one ∷ more) lies =
        let y = child d n x one in
        let mine = Mine from y in
        let next = suc (from + size (acts_within levels d from y)) in
        let behind = in_turn Mine (from + length mine) (Ones more) in
        let here = lies_left from mine behind lies in
        let count : size (acts_within levels d from y) ≡ length (Tree d levels from y) = listed_size (level_of_stage y.stage) (suc from) (acts_within levels d from y) (Tree d levels from y) (below_listed d levels from y) in
        let later : LiesAt next (in_turn Mine next (Ones more)) = subst (λ (k : ℕ). LiesAt k (in_turn Mine k (Ones more))) (let e : from + suc (length (Tree d levels from y)) ≡ next = omega (arith, count) in e) (lies_right from mine behind lies) in (
          record { levels = levels; whose = y; at = lies_first from y (Tree d levels from y) here; is = refl },
          below from y here,
          row_own next more later,
        )

    lies_two : (from : ℕ) (f : Acts) (xs ys : List (List ℕ)) → AreListed (level_of_stage x.stage) from f (in_turn Mine from (Ones (Names xs))) → LiesAt from (in_turn Mine from (Ones (Names (xs ++ ys))))
        → LiesAt from (in_turn Mine from (Ones (Names xs))) × LiesAt (from + size f) (in_turn Mine (from + size f) (Ones (Names ys)))
    lies_two from f xs ys named lies =
        let first = in_turn Mine from (Ones (Names xs)) in
        let second = in_turn Mine (from + length first) (Ones (Names ys)) in
        let same : in_turn Mine from (Ones (Names (xs ++ ys))) ≡ first ++ second =
        ap (λ (l : List Activated). in_turn Mine from (Ones l)) (named_two d x.operation xs ys)
        ∙ ap (in_turn Mine from) (map-append (child d n x) (Names xs) (Names ys))
        ∙ in_turn_append Mine (Ones (Names xs)) (Ones (Names ys)) from
        in
        let both = subst (LiesAt from) same lies in
        let count : size f ≡ length first = listed_size (level_of_stage x.stage) from f first named in
        (lies_left from first second both, subst (λ (k : ℕ). LiesAt (from + k) (in_turn Mine (from + k) (Ones (Names ys)))) (sym count) (lies_right from first second both))

    mutual
      item_own : (from test : ℕ) (item : ActTree) → LiesAt from (in_turn Mine from (Ones (Names (act_names item)))) → AreOwn (item_acts a from test item)
      item_own from test (items.Start name) lies =
          let ones = One d x.operation name in
          row_own from ones (subst (λ (l : List Activated). LiesAt from (in_turn Mine from (Ones l))) (named_one d x.operation name [] ∙ append-nil ones) lies)
      item_own from test (items.Choose e chosen) lies = (items_own from (suc test) chosen lies, tt, tt)
      item_own from test (items.ChooseElse e chosen other) lies =
          let f = items_acts a from (suc test) chosen in
          let both = lies_two from f (acts_names chosen) (acts_names other) (items_listed a (Tree d levels) (below_listed d levels) from (suc test) chosen) lies in
          (items_own from (suc test) chosen both.0, items_own (from + size f) (suc test + items_tests chosen) other both.1, tt)

      items_own : (from test : ℕ) (all : ActTrees) → LiesAt from (in_turn Mine from (Ones (Names (acts_names all)))) → AreOwn (items_acts a from test all)
      items_own from test items.End lies = tt
      items_own from test (items.Then item rest) lies =
          let f = item_acts a from test item in
          let g = items_acts a (from + size f) (test + item_tests item) rest in
          let both = lies_two from f (act_names item) (acts_names rest) (item_listed a (Tree d levels) (below_listed d levels) from test item) lies in
          followed_own f g (item_own from test item both.0) (items_own (from + size f) (test + item_tests item) rest both.1)

    activation_own : (all : Option ActTrees) → LiesAt (suc n) (in_turn Mine (suc n) (Ones (Names (activation_names all)))) → AreOwn (activation_acts a all)
    activation_own None lies = tt
    activation_own (Some all) lies = items_own (suc n) 0 all lies

  below_own : (levels : ℕ) (number : ℕ) (x : Occurrence) → LiesAt number (x ∷ Tree d levels number x) → AreOwn (acts_within levels d number x)
  below_own zero number x lies = tt
  below_own (suc levels) number x lies =
      activation_own levels number x (below_own levels) (activation_in (sections_at d x.operation)) (lies_behind number x (Tree d (suc levels) number x) lies)

  -- ---- of `main`

  main_own : (o : ℕ) → number_of d main_name ≡ Some o → AreOwn (Act 0 0 false (acts_of d) Done)
  main_own o named =
      let main = occurrence d None None false o in
      let mine = main ∷ Tree d (node_count d) 0 main in
      let same : occurrences d ≡ mine = ap (λ (m : Option ℕ). in_turn (whole d) 0 (firsts d m)) named ∙ append-nil (whole d 0 main) in
      let lies : LiesAt 0 mine = λ i z e. ap (slice_get (occurrences d)) (let k : 0 + i ≡ i = omega arith in k) ∙ ap (λ (l : List Occurrence). slice_get l i) same ∙ e in
      let acts : acts_of d ≡ acts_within (node_count d) d 0 main = ap (main_acts d) named in (
        record { levels = node_count d; whose = main; at = lies_first 0 main (Tree d (node_count d) 0 main) lies; is = acts },
        subst AreOwn (sym acts) (below_own (node_count d) 0 main lies),
        tt,
      )

  pub all_own : TreesAreOccurrences d → AreOwn (Act 0 0 false (core_of d).acts Done)
  all_own trees = by (number_of d main_name) refl
    where
      by : (m : Option ℕ) → number_of d main_name ≡ m → AreOwn (Act 0 0 false (acts_of d) Done)
      by None e =
          let none : occurrences d ≡ [] = ap (λ (m : Option ℕ). in_turn (whole d) 0 (firsts d m)) e in
          absurd (cc (trees ∙ ap (listed_from 0) none))
      by (Some o) e = main_own o e

  -- ---- node by node

  abbrev pub OwnNode : Node → Type 0
  OwnNode node = IsOwn node.number node.own

  nodes_own : (above : ℕ) (acts : Acts) → AreOwn acts → AllByRecursion OwnNode (nodes above acts)
  nodes_own above Done h = tt
  nodes_own above (Act number level past own rest) h =
      (h.0, all_append OwnNode (nodes level own) (nodes above rest) (nodes_own level own h.1) (nodes_own above rest h.2))
  nodes_own above (When number test taken other rest) h =
      all_append OwnNode (nodes above taken) (nodes above other ++ nodes above rest) (nodes_own above taken h.0)
      (all_append OwnNode (nodes above other) (nodes above rest) (nodes_own above other h.1) (nodes_own above rest h.2))

  pub each_own : TreesAreOccurrences d → AllByRecursion OwnNode (all_nodes (core_of d))
  each_own trees = nodes_own 0 (Act 0 0 false (core_of d).acts Done) (all_own trees)

  -- ---- sums

  -- what an operation counts, at its occurrence of a number
  abbrev pub at_number : (ℕ → ℕ) → ℕ → ℕ
  at_number f k = f (operation_of (slice_get (occurrences d) k))

  listed_sum : (f : ℕ → ℕ) (xs : List Node) → sum_by (λ (node : Node). f node.number) xs ≡ sum_by (λ (l : Listed). f l.number) (map node_listed xs)
  listed_sum f [] = refl
  listed_sum f (x ∷ xs) =
      let more = listed_sum f xs in
      let a = sum_by-cons (λ (node : Node). f node.number) x xs in
      let b = sum_by-cons (λ (l : Listed). f l.number) (node_listed x) (map node_listed xs) in
      omega (arith, more, a, b)

  numbered_sum : (f : ℕ → ℕ) (k : ℕ) (xs : List Occurrence) → ((j : ℕ) → slice_get xs j ≡ slice_get (occurrences d) (k + j))
      → sum_by (λ (l : Listed). at_number f l.number) (listed_from k xs) ≡ sum_by (λ (x : Occurrence). f x.operation) xs
  numbered_sum f k [] same = refl
  numbered_sum f k (x ∷ xs) same =
      let here : slice_get (occurrences d) k ≡ Some x = ap (slice_get (occurrences d)) (let t : k ≡ k + 0 = omega arith in t) ∙ sym (same 0) in
      let one = ap (λ (r : Option Occurrence). f (operation_of r)) here in
      let more = numbered_sum f (suc k) xs (λ j. same (suc j) ∙ ap (slice_get (occurrences d)) (let t : k + suc j ≡ suc k + j = omega arith in t)) in
      let a = sum_by-cons (λ (l : Listed). at_number f l.number) (occurrence_listed k x) (listed_from (suc k) xs) in
      let b = sum_by-cons (λ (y : Occurrence). f y.operation) x xs in
      omega (arith, one, more, a, b)

  pub occurrences_summed : (f : ℕ → ℕ) → TreesAreOccurrences d → sum_by (λ (node : Node). at_number f node.number) (all_nodes (core_of d)) ≡ of_all d f
  occurrences_summed f trees =
      listed_sum (at_number f) (all_nodes (core_of d))
      ∙ ap (λ (xs : List Listed). sum_by (λ (l : Listed). at_number f l.number) xs) trees
      ∙ numbered_sum f 0 (occurrences d) (λ j. ap (slice_get (occurrences d)) (let t : j ≡ 0 + j = omega arith in t))

  -- ---- where something is activated, the activation has an item

  acts_low : (acts : Acts) → items_worth acts ≤ 600
  acts_low Done = omega arith
  acts_low (Act number level past own rest) = omega arith
  acts_low (When number test taken other rest) = omega arith

  activation_low : (a : Activator) (all : Option ActTrees) → items_worth (activation_acts a all) ≤ spare all
  activation_low a None = omega arith
  activation_low a (Some items.End) = omega arith
  activation_low a (Some (items.Then item rest)) = acts_low (items_acts a (suc a.number) 0 (items.Then item rest))

  within_low : (levels number : ℕ) (x : Occurrence) → items_worth (acts_within levels d number x) ≤ activation_spare d x.operation
  within_low zero number x = omega arith
  within_low (suc levels) number x = activation_low (record { description = d; number = number; occurrence = x; below = acts_within levels d }) (activation_in (sections_at d x.operation))

  own_low : (number : ℕ) (own : Acts) → IsOwn number own → items_worth own ≤ at_number (activation_spare d) number
  own_low number own h =
      let low = within_low h.levels number h.whose in
      let acts = ap items_worth h.is in
      let same = ap (λ (r : Option Occurrence). activation_spare d (operation_of r)) h.at in
      omega (arith, low, acts, same)

  nodes_low : (xs : List Node) → AllByRecursion OwnNode xs → sum_by (λ (node : Node). items_worth node.own) xs ≤ sum_by (λ (node : Node). at_number (activation_spare d) node.number) xs
  nodes_low [] all = omega arith
  nodes_low (x ∷ xs) all =
      let one = own_low x.number x.own all.0 in
      let more = nodes_low xs all.1 in
      let a = sum_by-cons (λ (node : Node). items_worth node.own) x xs in
      let b = sum_by-cons (λ (node : Node). at_number (activation_spare d) node.number) x xs in
      omega (arith, one, more, a, b)

  pub spares_low : TreesAreOccurrences d → sum_by (λ (node : Node). items_worth node.own) (all_nodes (core_of d)) ≤ of_all d (activation_spare d)
  spares_low trees =
      let low = nodes_low (all_nodes (core_of d)) (each_own trees) in
      let same = occurrences_summed (activation_spare d) trees in
      omega (arith, low, same)
