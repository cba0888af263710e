-- The form of a number is made of its children's forms and its fields.
use Rattle.std.proofs.Common.{◌≡◌, ◌<◌, ◌≤◌, ◌+◌, ◌*◌, ◌-◌, ◌/◌, ◌%◌, ℕ, zero, suc, List, [], ◌∷◌, Option, None, Some, length, map, take, get_or, refl, sym, ap, ◌∙◌, arith, subst}
use Rattle.std.specs.Prelude.{unwrap_or, slice_index_or}
use Rattle.std.specs.List.{AllByRecursion}
use Rattle.std.proofs.lemmas.Option.{slice_get_within}
use Rattle.lisa_tree.specs.declared.descriptions.CodingItem.{CodingItem}
use Rattle.lisa_tree.specs.declared.descriptions.CodingItem.TheVariants as items
use Rattle.lisa_tree.specs.Descriptions as trees
use Rattle.lisa_tree.specs.Descriptions.{CodingTree, DescriptionTree}
use Rattle.lisa_tree.specs.Operations.{coding_in, sections_at}
use Rattle.lisa_tree.specs.Declarations.{choices, alternatives_at}
use Rattle.lisa_tree.specs.Paths.{node_at, node_count, choice_node}
use Rattle.coding_tables.specs.description_graph.Circles.{IsFirstCircularOperation}
use Rattle.coding_tables.proofs.description_graph_proofs.Nodes.{at_choice}
use Rattle.coding_tables.specs.coding_checks.Widths.{choice_named, choice_width, item_width, items_width, alternatives_width, node_width, capped, AreWidths}
use Rattle.instruction_trees.specs.Trees.{Item, Form, In, here, coding, placed}
use Rattle.instruction_trees.specs.Forms.{listed, forms}
use Rattle.instruction_trees.specs.Values.{own_values}
use Rattle.coding_tables.specs.Codings.{pattern_digits, choice_alternatives, child_alternatives, items_of, coding_items, coding_table}
use Rattle.coding_tables.specs.Instructions.{forms_below, below_count, total, AreFormCounts}
use Rattle.coding_tables.specs.Ways.{IsShallow}
use Rattle.coding_tables.proofs.Owning.{owned}
use Rattle.coding_tables.proofs.Ways.{in_is, short, next_way}
use Rattle.coding_tables.proofs.Levels as levels
use Rattle.coding_tables.proofs.Levels.{below_is}
use Rattle.instruction_forms.specs.declared.form.Field as fields
use Rattle.instruction_forms.specs.declared.picking.Pick.{Pick}
use Rattle.instruction_forms.specs.declared.picking.Walk.{Walk}
use Rattle.instruction_forms.specs.Trees.{FormTree, FormTrees, Node, Then, in_turn}
use Rattle.instruction_forms.specs.Described.{labels, labelled, own_items, items_at, operation_form, described}
use Rattle.instruction_forms.specs.Picks.{nth, pick, span, left, child_picks, own_fields, picked_form, picked_forms, told, IsPick, IsWalk}
use Rattle.instruction_forms.proofs.Nth.{one_of}
use Rattle.instruction_forms.proofs.Walking.{told_few}
use Rattle.instruction_forms.proofs.Spans.{follows_back, added_to, span_of, items_known, span_is}
use Rattle.instruction_forms.proofs.Sizes.{NodeSized, node_sized, shared}
use Rattle.instruction_forms.proofs.Picked.{in_total, no_fewer, no_more, some_left, digits_count, left_is, shares, fewer, within_bits, placed_at, picked, fielded}

-- ---- the items of an operation

pub items_list : (d : DescriptionTree) (o : ℕ) → coding (coding_table d) o ≡ items_of d o (items_at d o)
items_list d o = levels.items_at d o ∙ by (coding_in (sections_at d o))
  where
    by : (part : Option CodingTree) → coding_items d o part ≡ items_of d o (own_items part)
    by None = refl
    by (Some (trees.Root place group)) = refl
    by (Some (trees.Items all)) = refl

pub in_turn_picked : (d : DescriptionTree) (picks : List Pick) → in_turn (map (picked_form d) picks) ≡ picked_forms d picks
in_turn_picked d [] = refl
in_turn_picked d (p ∷ picks) = ap (Then (picked_form d p)) (in_turn_picked d picks)

module _ (d : DescriptionTree) (none : IsFirstCircularOperation d None) (known : ℕ → Option ℕ) (exact : AreWidths d known) where
  each_sized : (b w : ℕ) → known b ≡ Some w → NodeSized d (node_at d b) w
  each_sized b w e = node_sized d b w ((exact b w).0 e)

  pub forms_are : (o : ℕ) → o < length d.operations → forms_below d o ≡ listed (forms (node_count d) (coding_table d)) (coding_table d) (items_of d o (items_at d o))
  forms_are o h = below_is d none o h ∙ ap (listed (forms (node_count d) (coding_table d)) (coding_table d)) (items_list d o)

  pub count_is : (o : ℕ) → o < length d.operations → below_count d o ≡ left d o (items_at d o)
  count_is o h = ap length (forms_are o h) ∙ sym (left_is d known each_sized o 0 (items_at d o))

  module _ (p : Pick) (h : p.operation < length d.operations) (good : IsPick known d p) where
    small : good.width ≤ 64
    small = let l = good.low in omega (arith, l)

    pub within_items : p.number < left d p.operation (items_at d p.operation)
    within_items = let c = count_is p.operation h in let w = good.within in omega (arith, c, w)

    pub few_items : left d p.operation (items_at d p.operation) ≤ 1024
    few_items = let c = count_is p.operation h in let f = good.few in omega (arith, c, f)

    pub low_items : p.low + span known d p.operation (items_at d p.operation) ≤ 64
    low_items = let s = span_is d known exact p.operation good.width h good.is small in let l = good.low in omega (arith, s, l)

    pub whole : picked_form d p ≡ Node p.operation (picked_forms d (child_picks known d p.operation p.low (items_at d p.operation) p.number)) (own_fields known d p.operation p.low (items_at d p.operation))
    whole =
        let o = p.operation in
        let all = items_at d o in
        let width = items_known d known exact o good.width h good.is in
        ap (λ (l : List Form). described d p.low o (nth l p.number)) (forms_are o h)
        ∙ ap (λ (items : List Item). operation_form d o (placed (coding_table d) p.low (nth (listed (forms (node_count d) (coding_table d)) (coding_table d) (items_of d o all)) p.number) items)) (items_list d o)
        ∙ ap (λ (c : FormTrees). Node o c (labelled d o (labels all) (own_values (placed_at (coding_table d) (forms (node_count d) (coding_table d)) p.low (items_of d o all) p.number)))) (picked d known each_sized o p.low all 0 good.width p.number width small within_items)
        ∙ ap (Node o (picked_forms d (child_picks known d o p.low all p.number))) (fielded d known each_sized o p.low all 0 good.width p.number width small within_items)

  -- ---- the children of a form

  alternative_known : (o : ℕ) (n : List ℕ) (v : ℕ) → item_width known d o (items.Child n) ≡ Some v → (k : ℕ) → In k (child_alternatives d o n) → known k ≡ Some v
  alternative_known o n v e k i = by (choice_named d o n) refl e i
    where
      by : (c : Option ℕ) → choice_named d o n ≡ c → choice_width known d c ≡ Some v → In k (choice_alternatives d c) → known k ≡ Some v
      by None is e i = elim i [ ]
      by (Some c) is e i =
          let own = owned d o n c is in
          let step : alternatives_width known (alternatives_at d c) ≡ Some v = sym (ap (node_width d known) (at_choice d (choice_node d c) c (slice_get_within (choices d) c own.chosen own.is) refl)) ∙ follows_back d known exact (choice_node d c) v e in
          (shared d known (alternatives_at d c) v step).each k i

  -- a pick is an alternative of a child of the operation
  pub record IsChild (o : ℕ) (p : Pick) : Type 0 where
    pub name : List ℕ
    pub among : In p.operation (child_alternatives d o name)
    pub good : IsPick known d p

  module _ (o low : ℕ) where
    pub children_good : (all : List CodingItem) (s w number : ℕ) → items_width known d o (Some s) all ≡ Some w → w ≤ 64 → number < left d o all → left d o all ≤ 1024 → low + span known d o all ≤ 64
        → AllByRecursion (IsChild o) (child_picks known d o low all number)
    children_good [] s w number e h i few fits = tt
    children_good (items.Bits pattern ∷ all) s w number e h i few fits =
        let a = added_to known d o s w (items.Bits pattern) all e in
        let within = within_bits d known each_sized o low pattern all number i in
        let c = left_is d known each_sized o low all in
        let b = left_is d known each_sized o low (items.Bits pattern ∷ all) in
        let same = digits_count (coding_table d) (forms (node_count d) (coding_table d)) low (pattern_digits pattern) (items_of d o all) in
        children_good all (capped (s + a.width)) w number a.others h (fewer d known each_sized o low all number within) (omega (arith, few, same, b, c)) (omega (arith, fits))
    children_good (items.Field n pattern ∷ all) s w number e h i few fits =
        let a = added_to known d o s w (items.Field n pattern) all e in
        children_good all (capped (s + a.width)) w number a.others h i few (omega (arith, fits))
    children_good (items.Child n ∷ all) s w number e h i few fits =
        let a = added_to known d o s w (items.Child n) all e in
        let share = shares d known each_sized o low n all number i in
        let m = left d o all in
        let top = total (below_count d) (child_alternatives d o n) in
        let lowest = low + span known d o all in
        let p = pick (below_count d) (child_alternatives d o n) (number / m) lowest in
        let one = one_of (below_count d) (child_alternatives d o n) (number / m) lowest share.child in
        let some = some_left top m number i in
        let t = in_total (below_count d) (child_alternatives d o n) p.operation one.among in
        let l = no_fewer top m some in
        let v = span_of known d o (items.Child n) a.width a.is in
        let at = one.at in
        let r = fewer d known each_sized o low all (number % m) share.others in
        let fewer_left : m ≤ top * m = no_more top m number i in (
          (record {
            name = n;
            among = one.among;
            good = record { within = one.within; few = omega (arith, t, l, few); width = a.width; is = alternative_known o n a.width a.is p.operation one.among; low = omega (arith, at, v, fits) };
          }),
          children_good all (capped (s + a.width)) w (number % m) a.others h r (omega (arith, fewer_left, few)) (omega (arith, fits)),
        )

  module _ (p : Pick) (h : p.operation < length d.operations) (good : IsPick known d p) where
    -- the children that are picked have forms of their numbers
    pub good_children : AllByRecursion (IsChild p.operation) (child_picks known d p.operation p.low (items_at d p.operation) p.number)
    good_children =
        children_good p.operation p.low (items_at d p.operation) 0 good.width p.number (items_known d known exact p.operation good.width h good.is) (small p h good) (within_items p h good) (few_items p h good) (low_items p h good)

  pub next_shallow : (o levels : ℕ) → IsShallow d o levels → (q : Pick) → IsChild o q → IsShallow d q.operation (levels - 1)
  next_shallow o levels s q child =
      let e = s.enough in
      let l = short d o s.passed s.way in
      record { passed = o ∷ s.passed; way = next_way d none o s.passed s.way child.name q.operation child.among; enough = omega (arith, e, l) }

  -- an alternative of the group of instructions
  pub top_pick : (c number w : ℕ) → c < length (choices d) → number < total (below_count d) (alternatives_at d c) → total (below_count d) (alternatives_at d c) ≤ 1024 → known (choice_node d c) ≡ Some w
      → IsPick known d (pick (below_count d) (alternatives_at d c) number 0)
  top_pick c number w h within few e =
      let step : alternatives_width known (alternatives_at d c) ≡ Some w = sym (ap (node_width d known) (at_choice d (choice_node d c) c h refl)) ∙ follows_back d known exact (choice_node d c) w e in
      let s = shared d known (alternatives_at d c) w step in
      let one = one_of (below_count d) (alternatives_at d c) number 0 within in
      let p = pick (below_count d) (alternatives_at d c) number 0 in
      let t = in_total (below_count d) (alternatives_at d c) p.operation one.among in
      let at = one.at in
      let small = s.small in
      record { within = one.within; few = omega (arith, t, few); width = w; is = s.each p.operation one.among; low = omega (arith, at, small) }

pub some_levels : (d : DescriptionTree) (o levels : ℕ) → IsShallow d o levels → 0 < levels
some_levels d o levels s = let e = s.enough in let l = short d o s.passed s.way in omega (arith, e, l)

pub is_there : (d : DescriptionTree) (o levels : ℕ) → IsShallow d o levels → o < length d.operations
is_there d o levels s = s.way.below o (in_is o (o ∷ s.passed) here)

pub pick_of : (P : Pick → Type 0) (picks : List Pick) (i : ℕ) (p : Pick) → AllByRecursion P picks → i < length picks → p ≡ get_or picks i p → P p
pick_of P [] i p all h e = absurd (omega arith)
pick_of P (q ∷ picks) zero p all h e = subst P (sym e) all.0
pick_of P (q ∷ picks) (suc i) p all h e = pick_of P picks i p all.1 (omega arith) e

-- ---- the start of a walk

pub start_walk : (d : DescriptionTree) → IsFirstCircularOperation d None → (known : ℕ → Option ℕ) → AreWidths d known → (table : ℕ → Option ℕ) → AreFormCounts d table
    → (p : Pick) → p.operation < length d.operations → IsPick known d p → (all : List CodingItem) → all ≡ items_at d p.operation
    → (v : Walk) → v.number ≡ p.number → v.left ≡ told table p.operation → v.high ≡ p.low + span known d p.operation (items_at d p.operation) → IsWalk known d p.operation p.low all v
start_walk d none known exact table counts p h good all is v number count high =
    let few = good.few in
    let within = good.within in
    let c = count_is d none known exact p.operation h in
    let t : told table p.operation ≡ below_count d p.operation = ap (λ (x : Option ℕ). unwrap_or x 0) (counts.operations p.operation h) ∙ told_few (below_count d p.operation) few in
    let l = low_items d none known exact p h good in
    let walk : IsWalk known d p.operation p.low (items_at d p.operation) v = record {
      within = omega (arith, number, count, t, within);
      few = omega (arith, count, t, few);
      is_left = omega (arith, count, t, c);
      is_high = high;
      most = omega (arith, high, l);
    } in
    subst (λ (xs : List CodingItem). IsWalk known d p.operation p.low xs v) (sym is) walk

-- a form is whole where its children and its fields are made
pub made_whole : (d : DescriptionTree) → IsFirstCircularOperation d None → (known : ℕ → Option ℕ) → AreWidths d known → (p : Pick) → p.operation < length d.operations → IsPick known d p
    → (o : ℕ) → o ≡ p.operation → (picks : List Pick) → picks ≡ child_picks known d p.operation p.low (items_at d p.operation) p.number
    → (made : List FormTree) → made ≡ map (picked_form d) picks → (own : List fields.Field) → own ≡ own_fields known d p.operation p.low (items_at d p.operation)
    → Node o (in_turn made) own ≡ picked_form d p
made_whole d none known exact p h good o same picks is made all own fields_are =
    ap (λ (k : ℕ). Node k (in_turn made) own) same
    ∙ ap (λ (fs : List FormTree). Node p.operation (in_turn fs) own) (all ∙ ap (map (picked_form d)) is)
    ∙ ap (λ (fs : FormTrees). Node p.operation fs own) (in_turn_picked d (child_picks known d p.operation p.low (items_at d p.operation) p.number))
    ∙ ap (Node p.operation (picked_forms d (child_picks known d p.operation p.low (items_at d p.operation) p.number))) fields_are
    ∙ sym (whole d none known exact p h good)

-- ---- lists of picks

pub child_at : (P : Pick → Type 0) (picks : List Pick) (i : ℕ) (p : Pick) → AllByRecursion P picks → i < length picks → P (slice_index_or picks i p)
child_at P [] i p all h = absurd (omega arith)
child_at P (q ∷ picks) zero p all h = all.0
child_at P (q ∷ picks) (suc i) p all h = child_at P picks i p all.1 (omega arith)

pub all_taken : (picks : List Pick) (n : ℕ) → length picks ≤ n → take n picks ≡ picks
all_taken [] zero h = refl
all_taken [] (suc n) h = refl
all_taken (q ∷ picks) zero h = absurd (omega arith)
all_taken (q ∷ picks) (suc n) h = ap (λ (l : List Pick). q ∷ l) (all_taken picks n (omega arith))
