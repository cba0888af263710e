-- Trees have as many bits as the widths of their operations tell.
use Rattle.std.proofs.Common.{◌≡◌, ◌≤◌, ◌+◌, ◌++◌, ◌&&◌, ℕ, List, [], ◌∷◌, Option, None, Some, Bool, true, false, cond, not, nat_eq, nat_lt, length, map, replicate, refl, ap, ◌∙◌, arith, subst}
use Rattle.std.specs.List.{list_all}
use Rattle.std.proofs.lemmas.List.{length-append}
use Rattle.std.proofs.lemmas.Bool.{and_parts, eqb-true, ltb-false, not-true}
use Rattle.std.proofs.lemmas.Option.{same_Some, slice_get_within}
use Rattle.lisa_tree.specs.declared.descriptions.CodingItem.{CodingItem}
use Rattle.lisa_tree.specs.declared.descriptions.CodingItem.TheVariants as items
use Rattle.lisa_tree.specs.Descriptions.{DescriptionTree}
use Rattle.lisa_tree.specs.Operations.{coding_in, sections_at}
use Rattle.lisa_tree.specs.Declarations.{choices, alternatives_at}
use Rattle.lisa_tree.specs.Paths.{Node, Operation, Choosing, Declaring, node_at, choice_node}
use Rattle.coding_tables.proofs.description_graph_proofs.Nodes.{at_operation, at_choice, alternatives_below}
use Rattle.least_fixed_points.specs.Settles.{Settles, settled}
use Rattle.coding_tables.specs.coded_names.Codings.{pattern_width}
use Rattle.coding_tables.specs.coding_checks.Widths.{has_width, shared_width, alternatives_width, choice_named, choice_width, item_width, items_width, coding_width, node_width, width_step, capped}
use Rattle.instruction_trees.specs.Trees.{Item, Fixed, Free, Field, Child, Form, Done, Pass, Value, Choose, Fits, AnyValue, In, here, there, coding, size, form_bits}
use Rattle.instruction_trees.proofs.Trees.{length-open}
use Rattle.coding_tables.specs.Codings.{digit_item, pattern_digits, choice_alternatives, child_alternatives, items_of, coding_items, coding_table}
use Rattle.coding_tables.proofs.Owning.{owned}
use Rattle.coding_tables.proofs.Ways.{in_is}
use Rattle.coding_tables.proofs.Levels as levels
use Rattle.instruction_forms.proofs.Spans.{added_to, known_items, pattern_sized}

module _ (d : DescriptionTree) where
  -- each tree of the operation has so many bits
  abbrev pub IsSized : ℕ → ℕ → Type 0
  IsSized o w = (t : Form) → Fits AnyValue (coding_table d) t (coding (coding_table d) o) → size (coding_table d) t (coding (coding_table d) o) ≡ w

  abbrev pub NodeSized : Node → ℕ → Type 0
  NodeSized (Operation o) w = w ≤ 64 → IsSized o w
  NodeSized (Choosing c) w = (w ≤ 64) × ((k : ℕ) → In k (alternatives_at d c) → IsSized k w)
  NodeSized (Declaring i) w = Unit {0}

  -- ---- literal and free bits

  record Peeled (t : Form) (n : ℕ) (whole items : List Item) : Type 0 where
    tree : Form
    fits : Fits AnyValue (coding_table d) tree items
    sized : size (coding_table d) t whole ≡ n + size (coding_table d) tree items

  peel_bit : (digit : ℕ) (items : List Item) (t : Form) → Fits AnyValue (coding_table d) t (digit_item digit ∷ items) → Peeled t 1 (digit_item digit ∷ items) items
  peel_bit digit items t fits = by (nat_eq digit 48) (nat_eq digit 49) t fits
    where
      by : (b c : Bool) (t : Form) → Fits AnyValue (coding_table d) t (cond b (Fixed false) (cond c (Fixed true) Free) ∷ items) → Peeled t 1 (cond b (Fixed false) (cond c (Fixed true) Free) ∷ items) items
      by true c (Pass t) fits = record { tree = t; fits = fits; sized = omega arith }
      by false true (Pass t) fits = record { tree = t; fits = fits; sized = omega arith }
      by false false (Pass t) fits = record { tree = t; fits = fits; sized = omega arith }
      by true c Done fits = absurd fits
      by true c (Value v t) fits = absurd fits
      by true c (Choose k own t) fits = absurd fits
      by false true Done fits = absurd fits
      by false true (Value v t) fits = absurd fits
      by false true (Choose k own t) fits = absurd fits
      by false false Done fits = absurd fits
      by false false (Value v t) fits = absurd fits
      by false false (Choose k own t) fits = absurd fits

  peel : (digits : List ℕ) (items : List Item) (t : Form) → Fits AnyValue (coding_table d) t (map digit_item digits ++ items) → Peeled t (length digits) (map digit_item digits ++ items) items
  peel [] items t fits = record { tree = t; fits = fits; sized = omega arith }
  peel (digit ∷ digits) items t fits =
      let p = peel_bit digit (map digit_item digits ++ items) t fits in
      let q = peel digits items p.tree p.fits in
      let a = p.sized in
      let b = q.sized in
      record { tree = q.tree; fits = q.fits; sized = omega (arith, a, b) }

  -- ---- codings

  field_size : (n : ℕ) (v : Unit {0}) (t : Form) (items : List Item) → size (coding_table d) (Value v t) (Field n ∷ items) ≡ n + size (coding_table d) t items
  field_size n v t items = let l = length-append (replicate n None) (form_bits (coding_table d) t items) in let m = length-open n in omega (arith, l, m)

  pub child_size : (k : ℕ) (own t : Form) (ks : List ℕ) (items : List Item)
      → size (coding_table d) (Choose k own t) (Child ks ∷ items) ≡ size (coding_table d) own (coding (coding_table d) k) + size (coding_table d) t items
  child_size k own t ks items = length-append (form_bits (coding_table d) own (coding (coding_table d) k)) (form_bits (coding_table d) t items)

  module _ (known : ℕ → Option ℕ) (each : (b w : ℕ) → known b ≡ Some w → NodeSized (node_at d b) w) (o : ℕ) where
    child_sized : (n : List ℕ) (w : ℕ) → item_width known d o (items.Child n) ≡ Some w → (k : ℕ) → In k (child_alternatives d o n) → IsSized k w
    child_sized n w e k i = by (choice_named d o n) refl e i
      where
        by : (c : Option ℕ) → choice_named d o n ≡ c → choice_width known d c ≡ Some w → In k (choice_alternatives d c) → IsSized k w
        by None is e i = elim i [ ]
        by (Some c) is e i =
            let own = owned d o n c is in
            let node = subst (λ (x : Node). NodeSized x w) (at_choice d (choice_node d c) c (slice_get_within (choices d) c own.chosen own.is) refl) (each (choice_node d c) w e) in
            node.1 k i

    pub items_sized : (all : List CodingItem) (s w : ℕ) → items_width known d o (Some s) all ≡ Some w → w ≤ 64 → (t : Form) → Fits AnyValue (coding_table d) t (items_of d o all)
        → s + size (coding_table d) t (items_of d o all) ≡ w
    items_sized [] s w e h Done fits = let same = same_Some s w e in omega (arith, same)
    items_sized [] s w e h (Pass t) fits = absurd fits
    items_sized [] s w e h (Value v t) fits = absurd fits
    items_sized [] s w e h (Choose k own t) fits = absurd fits
    items_sized (items.Bits pattern ∷ all) s w e h t fits =
        let a = added_to known d o s w (items.Bits pattern) all e in
        let p = peel (pattern_digits pattern) (items_of d o all) t fits in
        let i = items_sized all (capped (s + a.width)) w a.others h p.tree p.fits in
        let v = same_Some (pattern_width pattern) a.width a.is in
        let l = pattern_sized pattern (omega (arith, i, v, h)) in
        let q = p.sized in
        omega (arith, i, v, l, q, h)
    items_sized (items.Field n pattern ∷ all) s w e h (Value v t) fits =
        let a = added_to known d o s w (items.Field n pattern) all e in
        let i = items_sized all (capped (s + a.width)) w a.others h t fits.1 in
        let u = same_Some (pattern_width pattern) a.width a.is in
        let q = field_size (pattern_width pattern) v t (items_of d o all) in
        omega (arith, i, u, q, h)
    items_sized (items.Field n pattern ∷ all) s w e h Done fits = absurd fits
    items_sized (items.Field n pattern ∷ all) s w e h (Pass t) fits = absurd fits
    items_sized (items.Field n pattern ∷ all) s w e h (Choose k own t) fits = absurd fits
    items_sized (items.Child n ∷ all) s w e h (Choose k own t) fits =
        let a = added_to known d o s w (items.Child n) all e in
        let i = items_sized all (capped (s + a.width)) w a.others h t fits.2 in
        let c = child_sized n a.width a.is k fits.0 own fits.1 in
        let q = child_size k own t (child_alternatives d o n) (items_of d o all) in
        omega (arith, i, c, q, h)
    items_sized (items.Child n ∷ all) s w e h Done fits = absurd fits
    items_sized (items.Child n ∷ all) s w e h (Pass t) fits = absurd fits
    items_sized (items.Child n ∷ all) s w e h (Value v t) fits = absurd fits

    operation_sized : (w : ℕ) → coding_width known d o (coding_in (sections_at d o)) ≡ Some w → w ≤ 64 → IsSized o w
    operation_sized w e h t fits =
        let k = known_items d known o w e in
        let at : coding (coding_table d) o ≡ items_of d o k.all = levels.items_at d o ∙ ap (coding_items d o) k.is in
        let i = items_sized k.all 0 w k.width h t (subst (λ (items : List Item). Fits AnyValue (coding_table d) t items) at fits) in
        let s : size (coding_table d) t (coding (coding_table d) o) ≡ size (coding_table d) t (items_of d o k.all) = ap (size (coding_table d) t) at in
        omega (arith, i, s)

  -- ---- choices

  module _ (known : ℕ → Option ℕ) where
    has_is : (w : ℕ) (x : Option ℕ) → has_width w x ≡ true → x ≡ Some w
    has_is w None e = absurd (cc e)
    has_is w (Some v) e = ap (λ (n : ℕ). Some n) (eqb-true v w e)

    all_have : (w : ℕ) (ks : List ℕ) → list_all (λ j. has_width w (known j)) ks ≡ true → (k : ℕ) → In k ks → known k ≡ Some w
    all_have w [] e k i = elim i [ ]
    all_have w (x ∷ ks) e k here = has_is w (known k) (and_parts (has_width w (known k)) (list_all (λ j. has_width w (known j)) ks) e).0
    all_have w (x ∷ ks) e k (there i) = all_have w ks (and_parts (has_width w (known x)) (list_all (λ j. has_width w (known j)) ks) e).1 k i

    -- a width that alternatives share
    pub record Shared (ks : List ℕ) (w : ℕ) : Type 0 where
      pub small : w ≤ 64
      pub each : (k : ℕ) → In k ks → known k ≡ Some w

    pub shared : (ks : List ℕ) (w : ℕ) → alternatives_width known ks ≡ Some w → Shared ks w
    shared [] w e = absurd (cc e)
    shared (k ∷ ks) w e = by (known k) refl e
      where
        chosen : (v : ℕ) (small all : Bool) → ◌≡◌ {A = Option ℕ} (cond (small && all) (Some v) None) (Some w) → (v ≡ w) × (small ≡ true) × (all ≡ true)
        chosen v true true e = (same_Some v w e, refl, refl)
        chosen v true false e = absurd (cc e)
        chosen v false all e = absurd (cc e)

        each_is : (v : ℕ) → known k ≡ Some v → v ≡ w → list_all (λ j. has_width v (known j)) ks ≡ true → (j : ℕ) → In j (k ∷ ks) → known j ≡ Some w
        each_is v is same all j here = is ∙ ap (λ (n : ℕ). Some n) same
        each_is v is same all j (there i) = all_have v ks all j i ∙ ap (λ (n : ℕ). Some n) same

        by : (x : Option ℕ) → known k ≡ x → shared_width known ks x ≡ Some w → Shared (k ∷ ks) w
        by None is e = absurd (cc e)
        by (Some v) is e =
            let c = chosen v (not (nat_lt 64 v)) (list_all (λ j. has_width v (known j)) ks) e in
            let same = c.0 in
            let low = ltb-false 64 v (not-true (nat_lt 64 v) c.1) in
            record { small = omega (arith, low, same); each = each_is v is same c.2 }

    module _ (each : (b w : ℕ) → known b ≡ Some w → NodeSized (node_at d b) w) where
      by_node : (node : Node) (w : ℕ) → node_width d known node ≡ Some w → NodeSized node w
      by_node (Operation o) w e = operation_sized known each o w e
      by_node (Choosing c) w e =
          let s = shared (alternatives_at d c) w e in
          (s.small, λ k i. alternative c k i w (each k w (s.each k i)) s.small)
        where
          alternative : (c k : ℕ) → In k (alternatives_at d c) → (w : ℕ) → NodeSized (node_at d k) w → w ≤ 64 → IsSized k w
          alternative c k i w node small =
              let there_is = alternatives_below d c k (in_is k (alternatives_at d c) i) in
              subst (λ (x : Node). NodeSized x w) (at_operation d k there_is) node small
      by_node (Declaring i) w e = tt

  pub node_sized : (a w : ℕ) → Settles (width_step d) a w → NodeSized (node_at d a) w
  node_sized a w (settled known from e) = by_node known (λ b u h. node_sized b u (from b u h)) (node_at d a) w e
