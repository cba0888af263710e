-- Where instructions have a width, there is one.
use Rattle.std.proofs.Common.{◌≡◌, ◌+◌, ◌++◌, ℕ, List, [], ◌∷◌, Option, None, Some, Bool, true, false, cond, nat_eq, map, refl, sym, ap, ◌∙◌, subst}
use Rattle.std.proofs.lemmas.Nat.{pow_pos}
use Rattle.std.proofs.lemmas.Option.{slice_get_within}
use Rattle.lisa_tree.specs.declared.descriptions.CodingItem.{CodingItem}
use Rattle.lisa_tree.specs.declared.descriptions.CodingItem.TheVariants as items
use Rattle.lisa_tree.specs.Descriptions.{DescriptionTree}
use Rattle.lisa_tree.specs.Operations.{coding_in, sections_at}
use Rattle.lisa_tree.specs.Declarations.{choices, alternatives_at}
use Rattle.lisa_tree.specs.Paths.{Node, Operation, Choosing, Declaring, node_at, choice_node}
use Rattle.description_graph.proofs.Nodes.{at_operation, at_choice, alternatives_below}
use Rattle.least_fixed_points.specs.Settles.{Settles, settled}
use Rattle.coded_names.specs.Codings.{pattern_width}
use Rattle.coding_checks.specs.Widths.{alternatives_width, choice_named, choice_width, item_width, items_width, coding_width, node_width, width_step, capped}
use Rattle.instruction_trees.specs.Trees.{Item, Fixed, Free, Child, Tree, Done, Pass, Value, Choose, Fits, IsBelow, In, here, coding}
use Rattle.coding_tables.specs.Codings.{digit_item, pattern_digits, choice_alternatives, child_alternatives, items_of, coding_items, coding_table}
use Rattle.coding_tables.specs.Instructions.{Root, choice_of_root, first_root, instruction_choice, instruction_items}
use Rattle.coding_tables.proofs.Owning.{owned}
use Rattle.coding_tables.proofs.Ways.{in_is}
use Rattle.coding_tables.proofs.Levels as levels
use Rattle.instruction_forms.specs.Widths.{HasWidth}
use Rattle.instruction_forms.proofs.Spans.{added_to, known_items}
use Rattle.instruction_forms.proofs.Sizes.{shared}

module _ (d : DescriptionTree) where
  -- some tree has a part for each item
  abbrev SomeTree : List Item → Type 0
  SomeTree items = (t : Tree ℕ) × Fits IsBelow (coding_table d) t items

  abbrev SomeOf : ℕ → Type 0
  SomeOf o = SomeTree (coding (coding_table d) o)

  abbrev SomeAt : Node → Type 0
  SomeAt (Operation o) = SomeOf o
  SomeAt (Choosing c) = (k : ℕ) × In k (alternatives_at d c) × SomeOf k
  SomeAt (Declaring i) = Unit {0}

  -- ---- literal and free bits

  with_bit : (digit : ℕ) (items : List Item) → SomeTree items → SomeTree (digit_item digit ∷ items)
  with_bit digit items some = by (nat_eq digit 48) (nat_eq digit 49)
    where
      by : (b c : Bool) → SomeTree (cond b (Fixed false) (cond c (Fixed true) Free) ∷ items)
      by true c = (Pass some.0, some.1)
      by false true = (Pass some.0, some.1)
      by false false = (Pass some.0, some.1)

  with_bits : (digits : List ℕ) (items : List Item) → SomeTree items → SomeTree (map digit_item digits ++ items)
  with_bits [] items some = some
  with_bits (digit ∷ digits) items some = with_bit digit (map digit_item digits ++ items) (with_bits digits items some)

  -- ---- codings

  module _ (known : ℕ → Option ℕ) (each : (b w : ℕ) → known b ≡ Some w → SomeAt (node_at d b)) where
    module _ (o : ℕ) where
      some_child : (n : List ℕ) (w : ℕ) → item_width known d o (items.Child n) ≡ Some w → (k : ℕ) × In k (child_alternatives d o n) × SomeOf k
      some_child n w e = by (choice_named d o n) refl e
        where
          by : (c : Option ℕ) → choice_named d o n ≡ c → choice_width known d c ≡ Some w → (k : ℕ) × In k (choice_alternatives d c) × SomeOf k
          by None is e = absurd (cc e)
          by (Some c) is e =
              let own = owned d o n c is in
              subst (λ (x : Node). SomeAt x) (at_choice d (choice_node d c) c (slice_get_within (choices d) c own.chosen own.is) refl) (each (choice_node d c) w e)

      some_items : (all : List CodingItem) (s w : ℕ) → items_width known d o (Some s) all ≡ Some w → SomeTree (items_of d o all)
      some_items [] s w e = (Done, tt)
      some_items (items.Bits pattern ∷ all) s w e =
          let a = added_to known d o s w (items.Bits pattern) all e in
          with_bits (pattern_digits pattern) (items_of d o all) (some_items all (capped (s + a.width)) w a.others)
      some_items (items.Field n pattern ∷ all) s w e =
          let a = added_to known d o s w (items.Field n pattern) all e in
          let rest = some_items all (capped (s + a.width)) w a.others in
          (Value 0 rest.0, (pow_pos (pattern_width pattern), rest.1))
      some_items (items.Child n ∷ all) s w e =
          let a = added_to known d o s w (items.Child n) all e in
          let rest = some_items all (capped (s + a.width)) w a.others in
          let child = some_child n a.width a.is in
          (Choose child.0 child.2.0 rest.0, (child.1, child.2.1, rest.1))

      some_operation : (w : ℕ) → coding_width known d o (coding_in (sections_at d o)) ≡ Some w → SomeOf o
      some_operation w e =
          let k = known_items d known o w e in
          let at : coding (coding_table d) o ≡ items_of d o k.all = levels.items_at d o ∙ ap (coding_items d o) k.is in
          subst SomeTree (sym at) (some_items k.all 0 w k.width)

    some_node : (node : Node) (w : ℕ) → node_width d known node ≡ Some w → SomeAt node
    some_node (Operation o) w e = some_operation o w e
    some_node (Choosing c) w e = by (alternatives_at d c) refl e
      where
        by : (ks : List ℕ) → alternatives_at d c ≡ ks → alternatives_width known ks ≡ Some w → (k : ℕ) × In k (alternatives_at d c) × SomeOf k
        by [] is e = absurd (cc e)
        by (k ∷ ks) is e =
            let inside : In k (alternatives_at d c) = subst (λ (l : List ℕ). In k l) (sym is) here in
            let there_is = alternatives_below d c k (in_is k (alternatives_at d c) inside) in
            (k, inside, subst SomeAt (at_operation d k there_is) (each k w ((shared d known (k ∷ ks) w e).each k here)))
    some_node (Declaring i) w e = tt

  some_settled : (a w : ℕ) → Settles (width_step d) a w → SomeAt (node_at d a)
  some_settled a w (settled known from e) = some_node known (λ b u h. some_settled b u (from b u h)) (node_at d a) w e

  -- ---- all instructions

  in_list : (c : ℕ) → SomeAt (Choosing c) → SomeTree (Child (choice_alternatives d (Some c)) ∷ [])
  in_list c some = (Choose some.0 some.2.0 Done, (some.1, some.2.1, tt))

  is_choice : (c : ℕ) → instruction_choice d ≡ Some c → node_at d (choice_node d c) ≡ Choosing c
  is_choice c is = by (first_root d) is
    where
      by : (r : Option Root) → choice_of_root d r ≡ Some c → node_at d (choice_node d c) ≡ Choosing c
      by None is = absurd (cc is)
      by (Some r) is =
          let own = owned d r.operation r.group c is in
          at_choice d (choice_node d c) c (slice_get_within (choices d) c own.chosen own.is) refl

  pub some_instruction : (w : ℕ) → HasWidth d (Some w) → (t : Tree ℕ) × Fits IsBelow (coding_table d) t (instruction_items d)
  some_instruction w has =
      let some = in_list has.0 (subst SomeAt (is_choice has.0 has.1) (some_settled (choice_node d has.0) w has.2)) in
      subst (λ (c : Option ℕ). SomeTree (Child (choice_alternatives d c) ∷ [])) (sym has.1) some
