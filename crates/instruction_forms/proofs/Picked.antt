-- The form of a number has the children and fields that are picked by it.
use Rattle.std.proofs.Common.{◌≡◌, ◌<◌, ◌≤◌, ◌+◌, ◌*◌, ◌/◌, ◌%◌, ◌++◌, ℕ, zero, suc, List, [], ◌∷◌, Option, Some, Bool, true, false, cond, nat_eq, length, map, refl, sym, ap, ◌∙◌, arith}
use native.Mathlib.Nat.{mul-le-mul_left, mul-le-mul_right, mod-lt, div-add-mod', div-lt_iff_lt-mul}
use Rattle.std.proofs.lemmas.List.{length-map}
use Rattle.lisa_tree.specs.declared.descriptions.Pattern.{Pattern}
use Rattle.lisa_tree.specs.declared.descriptions.CodingItem.{CodingItem}
use Rattle.lisa_tree.specs.declared.descriptions.CodingItem.TheVariants as items
use Rattle.lisa_tree.specs.Descriptions.{DescriptionTree}
use Rattle.lisa_tree.specs.Paths.{node_at, node_count}
use Rattle.coding_tables.specs.coded_names.Codings.{pattern_width}
use Rattle.coding_tables.specs.coding_checks.Widths.{items_width, capped}
use Rattle.instruction_trees.specs.Trees.{Item, Fixed, Free, Form, Pass, Value, Choose, Tree, In, here, there, coding, size, placed, Table}
use Rattle.instruction_trees.specs.Forms.{listed, forms}
use Rattle.instruction_trees.specs.Values.{own_values}
use Rattle.instruction_trees.proofs.Listing.{forms_fit}
use Rattle.coding_tables.specs.Codings.{digit_item, pattern_digits, child_alternatives, items_of, coding_table}
use Rattle.coding_tables.specs.Instructions.{forms_below, below_count, total}
use Rattle.coding_tables.proofs.Counted.{count_listed}
use Rattle.instruction_forms.specs.declared.form.Field as fields
use Rattle.instruction_forms.specs.Trees.{Then}
use Rattle.instruction_forms.specs.Described.{field, labels, labelled, children, described}
use Rattle.instruction_forms.specs.Picks.{nth, pick, span, left, child_picks, own_fields, picked_form, picked_forms}
use Rattle.instruction_forms.proofs.Nth.{nth_map, nth_in, nth_chosen, one_of}
use Rattle.instruction_forms.proofs.Spans.{added_to, spanned}
use Rattle.instruction_forms.proofs.Sizes.{NodeSized, items_sized}

-- ---- literal and free bits are passed over

module _ (table : Table) (sub : List Item → List Form) (low : ℕ) where
  -- the form of a number, with the places of its fields
  abbrev pub placed_at : List Item → ℕ → Tree (ℕ × ℕ)
  placed_at items number = placed table low (nth (listed sub table items) number) items

  bit_count : (digit : ℕ) (items : List Item) → length (listed sub table (digit_item digit ∷ items)) ≡ length (listed sub table items)
  bit_count digit items = by (nat_eq digit 48) (nat_eq digit 49)
    where
      more : length (map Pass (listed sub table items)) ≡ length (listed sub table items)
      more = length-map (listed sub table items) Pass

      by : (b c : Bool) → length (listed sub table (cond b (Fixed false) (cond c (Fixed true) Free) ∷ items)) ≡ length (listed sub table items)
      by true c = more
      by false true = more
      by false false = more

  pub digits_count : (digits : List ℕ) (items : List Item) → length (listed sub table (map digit_item digits ++ items)) ≡ length (listed sub table items)
  digits_count [] items = refl
  digits_count (digit ∷ digits) items = bit_count digit (map digit_item digits ++ items) ∙ digits_count digits items

  module _ {X : Type 0} (view : Tree (ℕ × ℕ) → X) (passes : (t : Tree (ℕ × ℕ)) → view (Pass t) ≡ view t) where
    past_bit : (digit : ℕ) (items : List Item) (number : ℕ) → number < length (listed sub table items) → view (placed_at (digit_item digit ∷ items) number) ≡ view (placed_at items number)
    past_bit digit items number h = by (nat_eq digit 48) (nat_eq digit 49)
      where
        fixed : (b : Bool) → view (placed_at (Fixed b ∷ items) number) ≡ view (placed_at items number)
        fixed b = ap (λ (t : Form). view (placed table low t (Fixed b ∷ items))) (nth_map Pass (listed sub table items) number h) ∙ passes (placed_at items number)

        free : view (placed_at (Free ∷ items) number) ≡ view (placed_at items number)
        free = ap (λ (t : Form). view (placed table low t (Free ∷ items))) (nth_map Pass (listed sub table items) number h) ∙ passes (placed_at items number)

        by : (b c : Bool) → view (placed_at (cond b (Fixed false) (cond c (Fixed true) Free) ∷ items) number) ≡ view (placed_at items number)
        by true c = fixed false
        by false true = fixed true
        by false false = free

    pub past_digits : (digits : List ℕ) (items : List Item) (number : ℕ) → number < length (listed sub table items) → view (placed_at (map digit_item digits ++ items) number) ≡ view (placed_at items number)
    past_digits [] items number h = refl
    past_digits (digit ∷ digits) items number h =
        let c = digits_count digits items in
        past_bit digit (map digit_item digits ++ items) number (omega (arith, c, h)) ∙ past_digits digits items number h

-- ---- numbers

pub some_left : (a m number : ℕ) → number < a * m → 0 < m
some_left a zero number h = let e : a * 0 ≡ 0 = omega arith in absurd (omega (arith, e, h))
some_left a (suc m) number h = omega arith

pub in_total : (f : ℕ → ℕ) (ks : List ℕ) (k : ℕ) → In k ks → f k ≤ total f ks
in_total f [] k i = elim i [ ]
in_total f (x ∷ ks) k here = omega arith
in_total f (x ∷ ks) k (there i) = let l = in_total f ks k i in omega (arith, l)

pub no_fewer : (a m : ℕ) → 0 < m → a ≤ a * m
no_fewer a m h = let l = mul-le-mul_left a h in let e : a * 1 ≡ a = omega arith in omega (arith, l, e)

pub factor_some : (a m number : ℕ) → number < a * m → 0 < a
factor_some zero m number h = let e : 0 * m ≡ 0 = omega arith in absurd (omega (arith, e, h))
factor_some (suc a) m number h = omega arith

pub no_more : (a m number : ℕ) → number < a * m → m ≤ a * m
no_more a m number h = let l = mul-le-mul_right m (factor_some a m number h) in omega (arith, l)

-- ---- the parts of a form

module _ (d : DescriptionTree) (known : ℕ → Option ℕ) (each : (b w : ℕ) → known b ≡ Some w → NodeSized d (node_at d b) w) (o low : ℕ) where
  abbrev pub sub : List Item → List Form
  sub = forms (node_count d) (coding_table d)

  abbrev pub of_items : List CodingItem → List Form
  of_items all = listed sub (coding_table d) (items_of d o all)

  abbrev pub tree_at : List CodingItem → ℕ → Tree (ℕ × ℕ)
  tree_at all number = placed_at (coding_table d) sub low (items_of d o all) number

  pub left_is : (all : List CodingItem) → left d o all ≡ length (of_items all)
  left_is all = sym (count_listed (coding_table d) sub (items_of d o all))

  -- a form takes as many bits as its items
  rest_sized : (all : List CodingItem) (s w number : ℕ) → items_width known d o (Some s) all ≡ Some w → w ≤ 64 → number < length (of_items all)
      → size (coding_table d) (nth (of_items all) number) (items_of d o all) ≡ span known d o all
  rest_sized all s w number e h i =
      let fits = forms_fit (coding_table d) (suc (node_count d)) (items_of d o all) (nth (of_items all) number) (nth_in (of_items all) number i) in
      let a = items_sized d known each o all s w e h (nth (of_items all) number) fits in
      let b = spanned known d o all s w e h in
      omega (arith, a, b)

  -- a number of a child's forms and those of the others
  pub record Shares (n : List ℕ) (all : List CodingItem) (number : ℕ) : Type 0 where
    pub child : number / left d o all < total (below_count d) (child_alternatives d o n)
    pub others : number % left d o all < length (of_items all)
    pub is : number ≡ number / left d o all * length (of_items all) + number % left d o all

  pub shares : (n : List ℕ) (all : List CodingItem) (number : ℕ) → number < left d o (items.Child n ∷ all) → Shares n all number
  shares n all number h =
      let m = left d o all in
      let some = some_left (total (below_count d) (child_alternatives d o n)) m number h in
      let same = left_is all in
      let r = mod-lt number some in
      let parts = div-add-mod' number m in
      let e : number / m * m ≡ number / m * length (of_items all) = ap (λ (z : ℕ). number / m * z) same in
      record {
        child = (div-lt_iff_lt-mul some).1 h;
        others = omega (arith, same, r);
        is = omega (arith, parts, e);
      }

  chosen_child : (n : List ℕ) (all : List CodingItem) (number lowest : ℕ) → number < left d o (items.Child n ∷ all)
      → let p = pick (below_count d) (child_alternatives d o n) (number / left d o all) lowest in
      nth (of_items (items.Child n ∷ all)) number ≡ Choose p.operation (nth (forms_below d p.operation) p.number) (nth (of_items all) (number % left d o all))
  chosen_child n all number lowest h =
      let s = shares n all number h in
      ap (nth (of_items (items.Child n ∷ all))) s.is
      ∙ nth_chosen (λ k. sub (coding (coding_table d) k)) (of_items all) (child_alternatives d o n) (number / left d o all) (number % left d o all) lowest s.child s.others

  pub within_bits : (pattern : Pattern) (all : List CodingItem) (number : ℕ) → number < left d o (items.Bits pattern ∷ all) → number < length (of_items all)
  within_bits pattern all number h =
      let c = left_is (items.Bits pattern ∷ all) in
      let e = digits_count (coding_table d) sub low (pattern_digits pattern) (items_of d o all) in
      omega (arith, c, e, h)

  pub fewer : (all : List CodingItem) (number : ℕ) → number < length (of_items all) → number < left d o all
  fewer all number h = let c = left_is all in omega (arith, c, h)

  pub within_field : (all : List CodingItem) (number : ℕ) → number < left d o all → number < length (of_items all)
  within_field all number h = let c = left_is all in omega (arith, c, h)

  pub picked : (all : List CodingItem) (s w number : ℕ) → items_width known d o (Some s) all ≡ Some w → w ≤ 64 → number < left d o all
      → children d (tree_at all number) ≡ picked_forms d (child_picks known d o low all number)
  picked [] s w zero e h i = refl
  picked [] s w (suc number) e h i = absurd (omega arith)
  picked (items.Bits pattern ∷ all) s w number e h i =
      let a = added_to known d o s w (items.Bits pattern) all e in
      let within = within_bits pattern all number i in
      past_digits (coding_table d) sub low (children d) (λ t. refl) (pattern_digits pattern) (items_of d o all) number within
      ∙ picked all (capped (s + a.width)) w number a.others h (fewer all number within)
  picked (items.Field n pattern ∷ all) s w number e h i =
      let a = added_to known d o s w (items.Field n pattern) all e in
      ap (λ (t : Form). children d (placed (coding_table d) low t (items_of d o (items.Field n pattern ∷ all)))) (nth_map (Value tt) (of_items all) number (within_field all number i))
      ∙ picked all (capped (s + a.width)) w number a.others h i
  picked (items.Child n ∷ all) s w number e h i =
      let a = added_to known d o s w (items.Child n) all e in
      let lowest = low + span known d o all in
      let q = number / left d o all in
      let r = number % left d o all in
      let p = pick (below_count d) (child_alternatives d o n) q lowest in
      let share = shares n all number i in
      let at = (one_of (below_count d) (child_alternatives d o n) q lowest share.child).at in
      let sized = rest_sized all (capped (s + a.width)) w r a.others h share.others in
      let place : low + size (coding_table d) (nth (of_items all) r) (items_of d o all) ≡ p.low = omega (arith, sized, at) in
      ap (λ (t : Form). children d (placed (coding_table d) low t (items_of d o (items.Child n ∷ all)))) (chosen_child n all number lowest i)
      ∙ ap (λ (l : ℕ). Then (described d l p.operation (nth (forms_below d p.operation) p.number)) (children d (tree_at all r))) place
      ∙ ap (Then (picked_form d p)) (picked all (capped (s + a.width)) w r a.others h (fewer all r share.others))

  pub fielded : (all : List CodingItem) (s w number : ℕ) → items_width known d o (Some s) all ≡ Some w → w ≤ 64 → number < left d o all
      → labelled d o (labels all) (own_values (tree_at all number)) ≡ own_fields known d o low all
  fielded [] s w number e h i = refl
  fielded (items.Bits pattern ∷ all) s w number e h i =
      let a = added_to known d o s w (items.Bits pattern) all e in
      let within = within_bits pattern all number i in
      ap (labelled d o (labels all)) (past_digits (coding_table d) sub low own_values (λ t. refl) (pattern_digits pattern) (items_of d o all) number within)
      ∙ fielded all (capped (s + a.width)) w number a.others h (fewer all number within)
  fielded (items.Field n pattern ∷ all) s w number e h i =
      let a = added_to known d o s w (items.Field n pattern) all e in
      let within = within_field all number i in
      let sized = rest_sized all (capped (s + a.width)) w number a.others h within in
      ap (λ (t : Form). labelled d o (n ∷ labels all) (own_values (placed (coding_table d) low t (items_of d o (items.Field n pattern ∷ all))))) (nth_map (Value tt) (of_items all) number within)
      ∙ ap (λ (k : ℕ). field d o n (low + k, pattern_width pattern) ∷ labelled d o (labels all) (own_values (tree_at all number))) sized
      ∙ ap (λ (rest : List fields.Field). field d o n (low + span known d o all, pattern_width pattern) ∷ rest) (fielded all (capped (s + a.width)) w number a.others h i)
  fielded (items.Child n ∷ all) s w number e h i =
      let a = added_to known d o s w (items.Child n) all e in
      let share = shares n all number i in
      ap (λ (t : Form). labelled d o (labels all) (own_values (placed (coding_table d) low t (items_of d o (items.Child n ∷ all))))) (chosen_child n all number 0 i)
      ∙ fielded all (capped (s + a.width)) w (number % left d o all) a.others h (fewer all (number % left d o all) share.others)
