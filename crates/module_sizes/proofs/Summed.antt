-- What activations are worth, as a sum over occurrences, and of conditions beside.
use Rattle.std.proofs.Common.{◌≡◌, ◌≤◌, ◌+◌, ◌∙◌, ◌++◌, ℕ, suc, false, List, [], ◌∷◌, Some, map, length, refl, sym, ap, arith}
use Rattle.std.specs.Prelude.{slice_get, sum_by}
use Rattle.std.proofs.lemmas.List.Sums.{sum_by-cons, sum_by-append}
use Rattle.lisa_tree.specs.Descriptions.{DescriptionTree}
use Rattle.activation_trees.specs.declared.parts.Occurrence.{Occurrence}
use Rattle.activation_trees.specs.Unfolding.{occurrences}
use Rattle.pipeline_time.specs.Acts.{Acts, Done, Act, When, Node, nodes}
use Rattle.pipeline_time.specs.Cores.{all_nodes}
use Rattle.touch_promises.specs.lisa_meaning.Cores.{core_of}
use Rattle.touch_promises.specs.lisa_meaning.Laws.{Listed, node_listed, occurrence_listed, listed_from, TreesAreOccurrences}
use Rattle.module_sizes.specs.Costs.{Rates}
use Rattle.module_sizes.specs.Unfolded.{worth_of}
use Rattle.module_sizes.specs.Activating.{Activating, Prices, items_worth, acts_worth, each_worth, activating, edge_worth}
use Rattle.module_sizes.specs.Priced.{behavior_price, prices_of}
use Rattle.module_sizes.specs.Summed.{tests_worth, roots_worth, occurrences_worth}

module _ (w : Activating) where
  abbrev each : Node → ℕ
  each node = (w.each + w.own node.number) + items_worth node.own

  acts_summed : (above : ℕ) (acts : Acts) → acts_worth w acts ≡ sum_by each (nodes above acts) + tests_worth w acts
  acts_summed above Done = refl
  acts_summed above (Act number level past own rest) =
      let head : Node = record { number = number; above = above; level = level; past = past; own = own } in
      let a = acts_summed level own in
      let b = acts_summed above rest in
      let c = sum_by-cons each head (nodes level own ++ nodes above rest) in
      let e = sum_by-append each (nodes level own) (nodes above rest) in
      omega (arith, a, b, c, e)
  acts_summed above (When number test taken other rest) =
      let a = acts_summed above taken in
      let b = acts_summed above other in
      let c = acts_summed above rest in
      let e = sum_by-append each (nodes above taken) (nodes above other ++ nodes above rest) in
      let f = sum_by-append each (nodes above other) (nodes above rest) in
      omega (arith, a, b, c, e, f)

apart : (f g : Node → ℕ) (xs : List Node) → sum_by (λ (node : Node). f node + g node) xs ≡ sum_by f xs + sum_by g xs
apart f g [] = refl
apart f g (x ∷ xs) =
    let more = apart f g xs in
    let a = sum_by-cons (λ (node : Node). f node + g node) x xs in
    let b = sum_by-cons f x xs in
    let c = sum_by-cons g x xs in
    omega (arith, more, a, b, c)

-- by what is listed of them
listed_sum : (f : ℕ → ℕ) (xs : List Node) → sum_by (λ (node : Node). f node.number) xs ≡ sum_by (λ (l : Listed). f l.number) (map node_listed xs)
listed_sum f [] = refl
listed_sum f (x ∷ xs) =
    let more = listed_sum f xs in
    let a = sum_by-cons (λ (node : Node). f node.number) x xs in
    let b = sum_by-cons (λ (l : Listed). f l.number) (node_listed x) (map node_listed xs) in
    omega (arith, more, a, b)

module _ (d : DescriptionTree) (rates : Rates) where
  abbrev prices : Prices
  prices = prices_of d rates

  abbrev own : ℕ → ℕ
  own k = each_worth (core_of d).stages + (activating (core_of d) prices).own k

  -- an occurrence's behaviour by its operation
  numbered_sum : (k : ℕ) (xs : List Occurrence) → ((j : ℕ) → slice_get xs j ≡ slice_get (occurrences d) (k + j))
      → sum_by (λ (l : Listed). own l.number) (listed_from k xs) ≡ sum_by (λ (x : Occurrence). each_worth (core_of d).stages + (worth_of d rates x.operation).run) xs + roots_worth (core_of d) prices k (length xs)
  numbered_sum k [] same = refl
  numbered_sum k (x ∷ xs) same =
      let here : slice_get (occurrences d) k ≡ Some x = ap (slice_get (occurrences d)) (let t : k ≡ k + 0 = omega arith in t) ∙ sym (same 0) in
      let run = ap (behavior_price d rates) here in
      let more = numbered_sum (suc k) xs (λ j. same (suc j) ∙ ap (slice_get (occurrences d)) (let t : k + suc j ≡ suc k + j = omega arith in t)) in
      let a = sum_by-cons (λ (l : Listed). own l.number) (occurrence_listed k x) (listed_from (suc k) xs) in
      let b = sum_by-cons (λ (y : Occurrence). each_worth (core_of d).stages + (worth_of d rates y.operation).run) x xs in
      omega (arith, run, more, a, b)

  pub edge_summed : TreesAreOccurrences d → edge_worth (core_of d) prices (core_of d).stages ≤ occurrences_worth d rates (core_of d).stages
  edge_summed trees =
      let w = activating (core_of d) prices in
      let whole = acts_summed w 0 (Act 0 0 false (core_of d).acts Done) in
      let parts = apart (λ (node : Node). own node.number) (λ (node : Node). items_worth node.own) (all_nodes (core_of d)) in
      let all = listed_sum own (all_nodes (core_of d)) in
      let list = ap (λ (xs : List Listed). sum_by (λ (l : Listed). own l.number) xs) trees in
      let sum = numbered_sum 0 (occurrences d) (λ j. ap (slice_get (occurrences d)) (let t : j ≡ 0 + j = omega arith in t)) in
      omega (arith, whole, parts, all, list, sum)
