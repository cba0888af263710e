-- Where the fields of forms stand.
use Rattle.std.proofs.Common.{◌≡◌, ◌≤◌, ◌+◌, ◌++◌, ℕ, suc, Bool, true, false, List, [], ◌∷◌, cond, nat_eq, length, map, drop, append_assoc, refl, sym, ap, ap₂, ◌∙◌, arith}
use Rattle.std.proofs.lemmas.List.{map-append, append-nil}
use Rattle.lisa_tree.specs.declared.descriptions.CodingItem.{CodingItem}
use Rattle.lisa_tree.specs.declared.descriptions.CodingItem.TheVariants as items
use Rattle.lisa_tree.specs.Descriptions.{DescriptionTree}
use Rattle.instruction_trees.specs.Trees.{Item, Fixed, Free, Field, Child, Tree, Done, Pass, Value, Choose, Fits, AnyValue, coding, size, placed}
use Rattle.instruction_trees.specs.Trees as plain
use Rattle.instruction_trees.specs.Values.{own_values, inner_values}
use Rattle.instruction_forms.specs.coding_tables.Codings.{digit_item, pattern_digits, items_of, coding_table}
use Rattle.instruction_forms.specs.coding_tables.Instructions.{instruction_items}
use Rattle.instruction_forms.specs.declared.form.Field as fields
use Rattle.instruction_forms.specs.declared.form.Form.{Form, out-Form}
use Rattle.instruction_forms.specs.Trees.{FormTree, in_turn, form_tree}
use Rattle.instruction_forms.specs.Described.{labels, labelled, items_at, children, instruction_form}
use Rattle.instruction_forms.proofs.Whole.{items_list}
use Rattle.form_patterns.specs.Instructions.{field_places, tree_fields, trees_fields}
use Rattle.form_patterns.proofs.Adding.{no_digits}
use Rattle.form_patterns.proofs.Views.{trees, tree_is}

-- the lowest bit and the width
abbrev pub place_of : fields.Field → ℕ × ℕ
place_of field = (field.lsb, field.width)

-- ---- the fields of a form

pub places_made : (f : Form) (own : List fields.Field) (kids : List Form) (i : ℕ) (old mid last : List (ℕ × ℕ)) → own ≡ (out-Form f).fields.items → kids ≡ (out-Form f).children.items → length kids ≤ i
    → mid ≡ old ++ map place_of own → last ++ map place_of (trees_fields (trees (drop i kids))) ≡ mid ++ map place_of (trees_fields (trees kids)) → last ≡ old ++ map place_of (tree_fields (form_tree f))
places_made f own kids i old mid last own_is kids_are past start so_far =
    let all = (out-Form f).children.items in
    sym (append-nil last)
    ∙ sym (ap (λ (ts : List FormTree). last ++ map place_of (trees_fields (in_turn ts))) (no_digits form_tree kids i past))
    ∙ so_far
    ∙ ap₂ (λ (xs : List (ℕ × ℕ)) (ks : List Form). xs ++ map place_of (trees_fields (trees ks))) (start ∙ ap (λ (fs : List fields.Field). old ++ map place_of fs) own_is) kids_are
    ∙ append_assoc old (map place_of (out-Form f).fields.items) (map place_of (trees_fields (trees all)))
    ∙ ap (λ (ps : List (ℕ × ℕ)). old ++ ps) (sym (map-append place_of (out-Form f).fields.items (trees_fields (trees all))))
    ∙ ap (λ (t : FormTree). old ++ map place_of (tree_fields t)) (sym (tree_is f))

-- ---- as many labels as fields

-- how many fields items have
abbrev field_count : List Item → ℕ
field_count [] = 0
field_count (Fixed b ∷ items) = field_count items
field_count (Free ∷ items) = field_count items
field_count (Field n ∷ items) = suc (field_count items)
field_count (Child ks ∷ items) = field_count items

bit_counted : (digit : ℕ) (items : List Item) → field_count (digit_item digit ∷ items) ≡ field_count items
bit_counted digit items = by (nat_eq digit 48) (nat_eq digit 49)
  where
    by : (b c : Bool) → field_count (cond b (Fixed false) (cond c (Fixed true) Free) ∷ items) ≡ field_count items
    by true c = refl
    by false true = refl
    by false false = refl

digits_counted : (digits : List ℕ) (items : List Item) → field_count (map digit_item digits ++ items) ≡ field_count items
digits_counted [] items = refl
digits_counted (digit ∷ digits) items = bit_counted digit (map digit_item digits ++ items) ∙ digits_counted digits items

labels_counted : (d : DescriptionTree) (o : ℕ) (all : List CodingItem) → length (labels all) ≡ field_count (items_of d o all)
labels_counted d o [] = refl
labels_counted d o (items.Bits pattern ∷ all) = labels_counted d o all ∙ sym (digits_counted (pattern_digits pattern) (items_of d o all))
labels_counted d o (items.Field n pattern ∷ all) = ap suc (labels_counted d o all)
labels_counted d o (items.Child n ∷ all) = labels_counted d o all

module _ (d : DescriptionTree) where
  values_counted : (low : ℕ) (t : plain.Form) (items : List Item) → Fits AnyValue (coding_table d) t items → length (own_values (placed (coding_table d) low t items)) ≡ field_count items
  values_counted low Done [] fits = refl
  values_counted low (Pass t) (Fixed b ∷ items) fits = values_counted low t items fits
  values_counted low (Pass t) (Free ∷ items) fits = values_counted low t items fits
  values_counted low (Value v t) (Field n ∷ items) fits = ap suc (values_counted low t items fits.1)
  values_counted low (Choose k own t) (Child ks ∷ items) fits = values_counted low t items fits.2
  values_counted low _ _ fits = absurd fits

  -- ---- the places of labels

  labelled_places : (o : ℕ) (names : List (List ℕ)) (places : List (ℕ × ℕ)) → length names ≡ length places → map place_of (labelled d o names places) ≡ places
  labelled_places o [] [] h = refl
  labelled_places o (n ∷ names) (place ∷ places) h = ap (λ (ps : List (ℕ × ℕ)). place ∷ ps) (labelled_places o names places (omega arith))
  labelled_places o [] (place ∷ places) h = absurd (cc h)
  labelled_places o (n ∷ names) [] h = absurd (cc h)

  own_places : (k low : ℕ) (own : plain.Form) → Fits AnyValue (coding_table d) own (coding (coding_table d) k)
      → map place_of (labelled d k (labels (items_at d k)) (own_values (placed (coding_table d) low own (coding (coding_table d) k)))) ≡ own_values (placed (coding_table d) low own (coding (coding_table d) k))
  own_places k low own fits =
      labelled_places k (labels (items_at d k)) (own_values (placed (coding_table d) low own (coding (coding_table d) k)))
      (labels_counted d k (items_at d k) ∙ sym (ap field_count (items_list d k)) ∙ sym (values_counted low own (coding (coding_table d) k) fits))

  inner_places : (low : ℕ) (t : plain.Form) (items : List Item) → Fits AnyValue (coding_table d) t items
      → map place_of (trees_fields (children d (placed (coding_table d) low t items))) ≡ inner_values (placed (coding_table d) low t items)
  inner_places low Done [] fits = refl
  inner_places low (Pass t) (Fixed b ∷ items) fits = inner_places low t items fits
  inner_places low (Pass t) (Free ∷ items) fits = inner_places low t items fits
  inner_places low (Value v t) (Field n ∷ items) fits = inner_places low t items fits.1
  inner_places low (Choose k own t) (Child ks ∷ items) fits =
      let up = low + size (coding_table d) t items in
      let p = placed (coding_table d) up own (coding (coding_table d) k) in
      let q = placed (coding_table d) low t items in
      let own_fields = labelled d k (labels (items_at d k)) (own_values p) in
      map-append place_of (own_fields ++ trees_fields (children d p)) (trees_fields (children d q))
      ∙ ap₂ (λ (xs ys : List (ℕ × ℕ)). xs ++ ys)
      (map-append place_of own_fields (trees_fields (children d p)) ∙ ap₂ (λ (xs ys : List (ℕ × ℕ)). xs ++ ys) (own_places k up own fits.1) (inner_places up own (coding (coding_table d) k) fits.1))
      (inner_places low t items fits.2)
  inner_places low _ _ fits = absurd fits

  pub whole_places : (f : plain.Form) → Fits AnyValue (coding_table d) f (instruction_items d) → map place_of (tree_fields (instruction_form d f)) ≡ field_places d f
  whole_places (Choose k own Done) fits =
      let p = placed (coding_table d) 0 own (coding (coding_table d) k) in
      map-append place_of (labelled d k (labels (items_at d k)) (own_values p)) (trees_fields (children d p))
      ∙ ap₂ (λ (xs ys : List (ℕ × ℕ)). xs ++ ys) (own_places k 0 own fits.1) (inner_places 0 own (coding (coding_table d) k) fits.1)
      ∙ sym (append-nil (own_values p ++ inner_values p))
  whole_places (Choose k own (Pass t)) fits = absurd fits.2
  whole_places (Choose k own (Value v t)) fits = absurd fits.2
  whole_places (Choose k own (Choose j inner t)) fits = absurd fits.2
  whole_places Done fits = absurd fits
  whole_places (Pass t) fits = absurd fits
  whole_places (Value v t) fits = absurd fits
