-- What the plan of a sound core has at each number.
use Rattle.std.proofs.Common.{◌≡◌, ℕ, zero, suc, ◌+◌, ◌<◌, ◌≤◌, Bool, true, false, cond, ◌||◌, ◌&&◌, List, [], ◌∷◌, ◌++◌, length, Option, None, Some, refl, sym, ap, ◌∙◌, subst, arith, nat_eq}
use Rattle.std.specs.Prelude.{map, slice_get}
use Rattle.std.specs.Option.{option_map, unwrap_or}
use Rattle.std.specs.List.{find, AllByRecursion}
use Rattle.std.proofs.lemmas.Bool.{eqb-true, and_parts}
use Rattle.pipeline_time.specs.Acts.{Acts, Done, Act, When, Node, nodes, size}
use Rattle.pipeline_time.specs.Cores.{Core, main_node, all_nodes, node_of as found_of, level_of, above_of}
use Rattle.pipeline_time.specs.Sound.{IsSound}
use Rattle.pipeline_time.proofs.Lists.{each_append}
use Rattle.pipeline_time.proofs.Tree.{has_number, IsGoodTree, whole, tree_of, find_passes}
use Rattle.lisa_activation.specs.declared.kept.Queues.{Queues}
use Rattle.lisa_activation.specs.Queued.{standing, first, runs_in, is_due as is_queued}
use Rattle.pipeline_runs.specs.declared.tree.Occurrence.{Occurrence}
use Rattle.pipeline_runs.specs.declared.plan.Plan.{Plan}
use Rattle.pipeline_runs.specs.Runs.{acts_of, node_of, AreItems, IsReady, Stays}
use Rattle.pipeline_runs.specs.Turns.{IsPlanOf, IsEquipped}

-- ---- lists

pub none_some : {X : Type 0} (x : X) → None ≡ Some x → ⊥
none_some x e = cc

pub some_same : {X : Type 0} (x y : X) → Some x ≡ Some y → x ≡ y
some_same x y e = cc

each_at : {X : Type 0} (P : X → Type 0) (xs : List X) (n : ℕ) (x : X) → AllByRecursion P xs → slice_get xs n ≡ Some x → P x
each_at P [] n x each e = absurd (none_some x e)
each_at P (y ∷ xs) zero x each e = subst P (some_same y x e) each.0
each_at P (y ∷ xs) (suc n) x each e = each_at P xs n x each.1 e

map_at : {X Y : Type 0} (f : X → Y) (xs : List X) (n : ℕ) (x : X) → slice_get xs n ≡ Some x → slice_get (map f xs) n ≡ Some (f x)
map_at f [] n x e = absurd (none_some x e)
map_at f (y ∷ xs) zero x e = ap (λ z. Some (f z)) (some_same y x e)
map_at f (y ∷ xs) (suc n) x e = map_at f xs n x e

pub map_length : {X Y : Type 0} (f : X → Y) (xs : List X) → length (map f xs) ≡ length xs
map_length f [] = refl
map_length f (x ∷ xs) = ap suc (map_length f xs)

both_length : {X : Type 0} (xs ys : List X) → length (xs ++ ys) ≡ length xs + length ys
both_length [] ys = omega arith
both_length (x ∷ xs) ys = omega (arith, both_length xs ys)

pub at_within : {X : Type 0} (xs : List X) (n : ℕ) → n < length xs → (x : X) × (slice_get xs n ≡ Some x)
at_within [] n low = absurd (omega arith)
at_within (x ∷ xs) zero low = (x, refl)
at_within (x ∷ xs) (suc n) low = at_within xs n (omega arith)

found_here : {X : Type 0} (P : X → Type 0) (y x : X) (o : Option X) (b : Bool) → P y → (o ≡ Some x → P x) → cond b (Some y) o ≡ Some x → P x
found_here P y x o true here so e = subst P (some_same y x e) here
found_here P y x o false here so e = so e

each_found : {X : Type 0} (P : X → Type 0) (p : X → Bool) (xs : List X) (x : X) → AllByRecursion P xs → find p xs ≡ Some x → P x
each_found P p [] x each e = absurd (none_some x e)
each_found P p (y ∷ xs) x each e = found_here P y x (find p xs) (p y) each.0 (each_found P p xs x each.1) e

-- ---- numbers

abbrev IsNumbered : ℕ → List Node → Type 0
IsNumbered from [] = Unit {0}
IsNumbered from (node ∷ rest) = (node.number ≡ from) × IsNumbered (suc from) rest

numbered_same : (from from' : ℕ) (xs : List Node) → from ≡ from' → IsNumbered from xs → IsNumbered from' xs
numbered_same from from' xs e is = subst (λ n. IsNumbered n xs) e is

numbered_append : (from : ℕ) (xs ys : List Node) → IsNumbered from xs → IsNumbered (from + length xs) ys → IsNumbered from (xs ++ ys)
numbered_append from [] ys front back = numbered_same (from + 0) from ys (omega arith) back
numbered_append from (x ∷ xs) ys front back = (front.0, numbered_append (suc from) xs ys front.1 (numbered_same (from + suc (length xs)) (suc from + length xs) ys (omega arith) back))

number_at : (from : ℕ) (xs : List Node) (n : ℕ) (node : Node) → IsNumbered from xs → slice_get xs n ≡ Some node → node.number ≡ from + n
number_at from [] n node is e = absurd (none_some node e)
number_at from (x ∷ xs) zero node is e = let same = some_same x node e in sym (ap (λ (y : Node). y.number) same) ∙ is.0 ∙ omega arith
number_at from (x ∷ xs) (suc n) node is e = number_at (suc from) xs n node is.1 e ∙ omega arith

nodes_length : (above : ℕ) (acts : Acts) → length (nodes above acts) ≡ size acts
nodes_length above Done = refl
nodes_length above (Act number level past own rest) = omega (arith, both_length (nodes level own) (nodes above rest), nodes_length level own, nodes_length above rest)
nodes_length above (When number test taken other rest) =
    omega (arith, both_length (nodes above taken) (nodes above other ++ nodes above rest), both_length (nodes above other) (nodes above rest), nodes_length above taken, nodes_length above other, nodes_length above rest)

module _ {R M : Type 0} (core : Core R M) (sound : IsSound core) where
  numbered : (above : ℕ) (inside : Bool) (from : ℕ) (acts : Acts) → IsGoodTree core sound.root above inside from acts → IsNumbered from (nodes above acts)
  numbered above inside from Done tree = tt
  numbered above inside from (Act number level past own rest) tree = (
    tree.0,
    numbered_append (suc from) (nodes level own) (nodes above rest) (numbered level _ (suc from) own tree.4)
        (numbered_same (suc (from + size own)) (suc from + length (nodes level own)) (nodes above rest) (omega (arith, nodes_length level own)) (numbered above inside (suc (from + size own)) rest tree.5)),
  )
  numbered above inside from (When number test taken other rest) tree =
      numbered_append from (nodes above taken) (nodes above other ++ nodes above rest) (numbered above inside from taken tree.0)
      (numbered_same (from + size taken) (from + length (nodes above taken)) (nodes above other ++ nodes above rest) (omega (arith, nodes_length above taken))
      (numbered_append (from + size taken) (nodes above other) (nodes above rest) (numbered above inside (from + size taken) other tree.1)
      (numbered_same (from + (size taken + size other)) (from + size taken + length (nodes above other)) (nodes above rest) (omega (arith, nodes_length above other)) (numbered above inside (from + (size taken + size other)) rest tree.2))))

  items : (above : ℕ) (inside : Bool) (from many : ℕ) (acts : Acts) → from + size acts ≤ many → IsGoodTree core sound.root above inside from acts → AreItems core many above acts
  items above inside from many Done high tree = tt
  items above inside from many (Act number level past own rest) high tree = (
    record { within = omega (arith, tree.0); activator = tree.1.above_is },
    items level _ (suc from) many own (omega arith) tree.4,
    items above inside (suc (from + size own)) many rest (omega arith) tree.5,
  )
  items above inside from many (When number test taken other rest) high tree = (
    items above inside from many taken (omega arith) tree.0,
    items above inside (from + size taken) many other (omega arith) tree.1,
    items above inside (from + (size taken + size other)) many rest (omega arith) tree.2,
  )

  -- an occurrence of so many
  pub record IsOne (many : ℕ) (node : Node) : Type 0 where
    pub number_within : node.number < many
    pub level_is : level_of core node.number ≡ node.level
    pub above_is : above_of core node.number ≡ node.above
    pub level_within : node.level ≤ core.stages
    pub above_within : node.above ≤ node.level
    pub own_items : AreItems core many node.level node.own

  ones : (above : ℕ) (inside : Bool) (from many : ℕ) (acts : Acts) → from + size acts ≤ many → IsGoodTree core sound.root above inside from acts → AllByRecursion (IsOne many) (nodes above acts)
  ones above inside from many Done high tree = tt
  ones above inside from many (Act number level past own rest) high tree = (
    record {
      number_within = omega (arith, tree.0);
      level_is = tree.1.level_is;
      above_is = tree.1.above_is;
      level_within = tree.1.within;
      above_within = tree.1.ordered;
      own_items = items level _ (suc from) many own (omega arith) tree.4;
    },
    each_append (IsOne many) (nodes level own) (nodes above rest) (ones level _ (suc from) many own (omega arith) tree.4) (ones above inside (suc (from + size own)) many rest (omega arith) tree.5),
  )
  ones above inside from many (When number test taken other rest) high tree =
      each_append (IsOne many) (nodes above taken) (nodes above other ++ nodes above rest) (ones above inside from many taken (omega arith) tree.0)
      (each_append (IsOne many) (nodes above other) (nodes above rest) (ones above inside (from + size taken) many other (omega arith) tree.1) (ones above inside (from + (size taken + size other)) many rest (omega arith) tree.2))

  all_ones : AllByRecursion (IsOne (size (whole core))) (all_nodes core)
  all_ones = ones 0 false 0 (size (whole core)) (whole core) (omega arith) (tree_of core sound)

  beyond : (n stage : ℕ) → level_of core n ≡ suc stage → n < size (whole core)
  beyond n stage level = of (found_of core n) refl
    where
      of : (o : Option Node) → found_of core n ≡ o → n < size (whole core)
      of None e = let f = ap (λ (x : Option Node). unwrap_or (option_map (λ (node : Node). node.level) x) 0) e in absurd (omega (arith, level, f))
      of (Some node) e =
          let one = each_found (IsOne (size (whole core))) (has_number n) (all_nodes core) node all_ones e in
          let same = eqb-true node.number n (find_passes core sound (has_number n) (all_nodes core) node e) in
          omega (arith, one.number_within, same)

  module _ (plan : Plan) (planned : IsPlanOf core plan) where
    many : length plan.occurrences.items ≡ size (whole core)
    many = sym (map_length node_of plan.occurrences.items) ∙ ap length planned.nodes ∙ nodes_length 0 (whole core)

    pub node_at : (n : ℕ) (o : Occurrence) → slice_get plan.occurrences.items n ≡ Some o → slice_get (all_nodes core) n ≡ Some (node_of o)
    node_at n o e = ap (λ xs. slice_get xs n) (sym planned.nodes) ∙ map_at node_of plan.occurrences.items n o e

    pub number_is : (n : ℕ) (o : Occurrence) → slice_get plan.occurrences.items n ≡ Some o → o.number ≡ n
    number_is n o e = number_at 0 (all_nodes core) n (node_of o) (numbered 0 false 0 (whole core) (tree_of core sound)) (node_at n o e) ∙ omega arith

    pub one_at : (n : ℕ) (o : Occurrence) → slice_get plan.occurrences.items n ≡ Some o → IsOne (length plan.occurrences.items) (node_of o)
    one_at n o e = subst (λ m. IsOne m (node_of o)) (sym many) (each_at (IsOne (size (whole core))) (all_nodes core) n (node_of o) all_ones (node_at n o e))

    pub level_is : (n : ℕ) (o : Occurrence) → slice_get plan.occurrences.items n ≡ Some o → level_of core n ≡ o.level
    level_is n o e = ap (level_of core) (sym (number_is n o e)) ∙ (one_at n o e).level_is

    pub above_is : (n : ℕ) (o : Occurrence) → slice_get plan.occurrences.items n ≡ Some o → above_of core n ≡ o.above
    above_is n o e = ap (above_of core) (sym (number_is n o e)) ∙ (one_at n o e).above_is

    pub has_main : 0 < length plan.occurrences.items
    has_main = omega (arith, many)

    pub first_is_main : (o : Occurrence) → slice_get plan.occurrences.items 0 ≡ Some o → node_of o ≡ main_node core
    first_is_main o e = sym (some_same (main_node core) (node_of o) (node_at 0 o e))

    pub staged_within : (n stage : ℕ) → level_of core n ≡ suc stage → n < length plan.occurrences.items
    staged_within n stage level = subst (λ m. n < m) (sym many) (beyond n stage level)

-- ---- plan and queues

module _ {R M : Type 0} (core : Core R M) (queues : Queues) (plan : Plan) (equipped : IsEquipped core queues plan) where
  pub ready_at : (n : ℕ) (o : Occurrence) → slice_get plan.occurrences.items n ≡ Some o → IsReady core queues o.level (acts_of o.own)
  ready_at n o e = record {
    tables = equipped.tables;
    items = subst (λ m. AreItems core m o.level (acts_of o.own)) (sym equipped.as_many) (one_at core equipped.sound plan equipped.planned n o e).own_items;
  }

  queued_level : (n stage : ℕ) → stage < 8 → is_queued queues stage n ≡ true → level_of core n ≡ suc stage
  queued_level n stage low is = eqb-true (level_of core n) (suc stage) (sym (equipped.tables.run stage n low) ∙ (and_parts (runs_in queues stage n) (standing queues stage n || (nat_eq stage 0 && first queues n)) is).0)

  pub queued_within : (n stage : ℕ) → stage < 8 → is_queued queues stage n ≡ true → n < length plan.occurrences.items
  queued_within n stage low is = staged_within core equipped.sound plan equipped.planned n stage (queued_level n stage low is)

  pub queued_staged : (n stage : ℕ) (o : Occurrence) → stage < 8 → is_queued queues stage n ≡ true → slice_get plan.occurrences.items n ≡ Some o → 0 < o.level
  queued_staged n stage o low is e = let l = queued_level n stage low is in omega (arith, level_is core equipped.sound plan equipped.planned n o e, l)

  pub equipped_after : (core' : Core R M) (queues' : Queues) → Stays core core' queues queues' → IsEquipped core' queues' plan
  equipped_after core' queues' stays =
      subst (λ (c : Core R M). IsEquipped c queues' plan) (sym stays.same_core)
      (record { sound = equipped.sound; planned = equipped.planned; tables = stays.tables equipped.tables; as_many = stays.same_count ∙ equipped.as_many })
