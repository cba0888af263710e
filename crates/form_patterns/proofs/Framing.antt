-- The frames of forms.
use Rattle.std.proofs.Common.{◌≡◌, ◌+◌, ◌++◌, ℕ, zero, suc, Bool, true, false, List, [], ◌∷◌, Option, Some, None, cond, nat_eq, map, replicate, refl, sym, ap, ap₂, ◌∙◌}
use Rattle.std.proofs.lemmas.List.{append-nil}
use Rattle.lisa_tree.specs.declared.descriptions.Pattern.{Pattern}
use Rattle.lisa_tree.specs.declared.descriptions.CodingItem.{CodingItem}
use Rattle.lisa_tree.specs.declared.descriptions.CodingItem.TheVariants as items
use Rattle.lisa_tree.specs.Descriptions.{DescriptionTree}
use Rattle.instruction_trees.specs.Bits.{Frame}
use Rattle.instruction_trees.specs.Trees.{Item, Fixed, Free, Field, Child, Done, Pass, Value, Choose, Fits, AnyValue, coding, size, placed, form_bits}
use Rattle.instruction_trees.specs.Trees as plain
use Rattle.instruction_forms.specs.coding_tables.Codings.{digit_item, first_digit, repeated, pattern_digits, items_of, coding_table}
use Rattle.instruction_forms.specs.coding_tables.Instructions.{instruction_items}
use Rattle.instruction_forms.specs.declared.form.Form.{Form, out-Form}
use Rattle.instruction_forms.specs.Trees.{form_tree}
use Rattle.instruction_forms.specs.Described.{items_at, children, instruction_form}
use Rattle.instruction_forms.proofs.Whole.{items_list}
use Rattle.form_patterns.specs.Frames.{digit_bit, pattern_frame, items_frame, tree_frame, trees_frames}
use Rattle.form_patterns.proofs.Views.{trees, tree_is}

-- ---- items

bit_framed : (digit : ℕ) (items : List Item) (frames : List Frame) → items_frame (digit_item digit ∷ items) frames ≡ digit_bit digit ∷ items_frame items frames
bit_framed digit items frames = by (nat_eq digit 48) (nat_eq digit 49)
  where
    by : (b c : Bool) → items_frame (cond b (Fixed false) (cond c (Fixed true) Free) ∷ items) frames ≡ cond b (Some false) (cond c (Some true) None) ∷ items_frame items frames
    by true c = refl
    by false true = refl
    by false false = refl

digits_framed : (digits : List ℕ) (items : List Item) (frames : List Frame) → items_frame (map digit_item digits ++ items) frames ≡ map digit_bit digits ++ items_frame items frames
digits_framed [] items frames = refl
digits_framed (digit ∷ digits) items frames = bit_framed digit (map digit_item digits ++ items) frames ∙ ap (λ (fs : Frame). digit_bit digit ∷ fs) (digits_framed digits items frames)

module _ (d : DescriptionTree) (o : ℕ) where
  -- the bits of items with these children
  abbrev pub rest_frame : List CodingItem → List Form → Frame
  rest_frame all forms = items_frame (items_of d o all) (trees_frames d (trees forms))

  pub at_bits : (pattern : Pattern) (rest : List CodingItem) (forms : List Form) → rest_frame (items.Bits pattern ∷ rest) forms ≡ pattern_frame pattern ++ rest_frame rest forms
  at_bits pattern rest forms = digits_framed (pattern_digits pattern) (items_of d o rest) (trees_frames d (trees forms))

pub frame_is : (d : DescriptionTree) (f : Form) → tree_frame d (form_tree f) ≡ rest_frame d (out-Form f).operation (items_at d (out-Form f).operation) (out-Form f).children.items
frame_is d f = ap (tree_frame d) (tree_is f) ∙ ap (λ (items : List Item). items_frame items (trees_frames d (trees (out-Form f).children.items))) (items_list d (out-Form f).operation)

-- ---- patterns

digits_repeated : (n digit : ℕ) → map digit_bit (replicate n digit) ≡ replicate n (digit_bit digit)
digits_repeated zero digit = refl
digits_repeated (suc n) digit = ap (λ (fs : Frame). digit_bit digit ∷ fs) (digits_repeated n digit)

pub repeated_bits : (pattern : Pattern) (digits : List ℕ) (n digit : ℕ) → digits ≡ pattern.digits → pattern.times ≡ Some n → digit ≡ first_digit digits → replicate n (digit_bit digit) ≡ pattern_frame pattern
repeated_bits pattern digits n digit same is first =
    ap (λ (k : ℕ). replicate n (digit_bit k)) (first ∙ ap first_digit same)
    ∙ sym (digits_repeated n (first_digit pattern.digits))
    ∙ sym (ap (λ (times : Option ℕ). map digit_bit (repeated pattern.digits times)) is)

-- ---- the frames of described forms

module _ (d : DescriptionTree) where
  framed : (low : ℕ) (t : plain.Form) (items : List Item) → Fits AnyValue (coding_table d) t items → items_frame items (trees_frames d (children d (placed (coding_table d) low t items))) ≡ form_bits (coding_table d) t items
  framed low Done [] fits = refl
  framed low (Pass t) (Fixed b ∷ items) fits = ap (λ (fs : Frame). Some b ∷ fs) (framed low t items fits)
  framed low (Pass t) (Free ∷ items) fits = ap (λ (fs : Frame). None ∷ fs) (framed low t items fits)
  framed low (Value v t) (Field n ∷ items) fits = ap (λ (fs : Frame). replicate n None ++ fs) (framed low t items fits.1)
  framed low (Choose k own t) (Child ks ∷ items) fits =
      ap₂ (λ (fs gs : Frame). fs ++ gs) (framed (low + size (coding_table d) t items) own (coding (coding_table d) k) fits.1) (framed low t items fits.2)
  framed low _ _ fits = absurd fits

  pub whole_framed : (f : plain.Form) → Fits AnyValue (coding_table d) f (instruction_items d) → tree_frame d (instruction_form d f) ≡ form_bits (coding_table d) f (instruction_items d)
  whole_framed (Choose k own Done) fits = framed 0 own (coding (coding_table d) k) fits.1 ∙ sym (append-nil (form_bits (coding_table d) own (coding (coding_table d) k)))
  whole_framed (Choose k own (Pass t)) fits = absurd fits.2
  whole_framed (Choose k own (Value v t)) fits = absurd fits.2
  whole_framed (Choose k own (Choose j inner t)) fits = absurd fits.2
  whole_framed Done fits = absurd fits
  whole_framed (Pass t) fits = absurd fits
  whole_framed (Value v t) fits = absurd fits
