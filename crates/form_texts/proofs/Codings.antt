-- The tables of a description at an operation: its coding's fields, and its elements.
use Rattle.std.proofs.Common.{◌≡◌, ◌≤◌, ◌+◌, ◌++◌, ℕ, zero, suc, List, [], ◌∷◌, Option, None, Some, Bool, true, false, cond, nat_eq, length, map, refl, sym, ap, ◌∙◌, arith}
use Rattle.std.specs.Prelude.{slice_get, slice_index_or}
use Rattle.std.proofs.lemmas.Option.{slice_get_within}
use Rattle.lisa_tree.specs.declared.descriptions.CodingItem.{CodingItem}
use Rattle.lisa_tree.specs.declared.descriptions.CodingItem.TheVariants as items
use Rattle.lisa_tree.specs.declared.descriptions.SyntaxItem.{SyntaxItem}
use Rattle.lisa_tree.specs.Descriptions.{OperationTree, DescriptionTree}
use Rattle.instruction_trees.specs.Trees.{Item, Fixed, Free, coding}
use Rattle.instruction_forms.specs.coding_tables.Codings.{digit_item, pattern_digits, items_of, coding_table}
use Rattle.instruction_forms.specs.Described.{labels, items_at}
use Rattle.instruction_forms.proofs.Whole.{items_list}
use Rattle.instruction_texts.specs.Once.{fields_of}
use Rattle.form_texts.specs.Syntaxes.{element, elements_in, elements_at, syntax_from, syntax_table}
use Rattle.form_texts.specs.Written.{shown_items}

-- ---- labels

no_field : (digit : ℕ) (items : List Item) → fields_of (digit_item digit ∷ items) ≡ fields_of items
no_field digit items = by (nat_eq digit 48) (nat_eq digit 49)
  where
    by : (b c : Bool) → fields_of (cond b (Fixed false) (cond c (Fixed true) Free) ∷ items) ≡ fields_of items
    by true c = refl
    by false true = refl
    by false false = refl

no_fields : (digits : List ℕ) (items : List Item) → fields_of (map digit_item digits ++ items) ≡ fields_of items
no_fields [] items = refl
no_fields (digit ∷ digits) items = no_field digit (map digit_item digits ++ items) ∙ no_fields digits items

labels_count : (d : DescriptionTree) (o : ℕ) (all : List CodingItem) → length (labels all) ≡ fields_of (items_of d o all)
labels_count d o [] = refl
labels_count d o (items.Bits pattern ∷ all) = labels_count d o all ∙ sym (no_fields (pattern_digits pattern) (items_of d o all))
labels_count d o (items.Field n pattern ∷ all) = ap suc (labels_count d o all)
labels_count d o (items.Child n ∷ all) = labels_count d o all

-- there is a label for each field
pub label_for_each : (d : DescriptionTree) (o : ℕ) → length (labels (items_at d o)) ≡ fields_of (coding (coding_table d) o)
label_for_each d o = labels_count d o (items_at d o) ∙ sym (ap fields_of (items_list d o))

-- ---- elements

pub past_end : (d : DescriptionTree) (o : ℕ) → length d.operations ≤ o → elements_at d o ≡ []
past_end d o h = by (slice_get d.operations o) refl
  where
    by : (r : Option OperationTree) → slice_get d.operations o ≡ r → elements_at d o ≡ []
    by None is = cc is
    by (Some x) is = let l = slice_get_within d.operations o x is in absurd (omega (arith, l))

elements_from : (d : DescriptionTree) (more o k : ℕ) → length d.operations ≤ o + more → slice_index_or (syntax_from d o more) k [] ≡ elements_at d (o + k)
elements_from d zero o k h = sym (past_end d (o + k) (omega arith))
elements_from d (suc more) o zero h = ap (elements_at d) (let e : o ≡ o + 0 = omega arith in e)
elements_from d (suc more) o (suc k) h = elements_from d more (suc o) k (omega arith) ∙ ap (elements_at d) (let e : suc o + k ≡ o + suc k = omega arith in e)

pub syntax_at : (d : DescriptionTree) (o : ℕ) → slice_index_or (syntax_table d) o [] ≡ elements_at d o
syntax_at d o = elements_from d (length d.operations) 0 o (omega arith) ∙ ap (elements_at d) (let e : 0 + o ≡ o = omega arith in e)

pub elements_are : (all : List CodingItem) (shown : Option (List SyntaxItem)) → elements_in all shown ≡ map (element all) (shown_items shown)
elements_are all None = refl
elements_are all (Some shown) = refl
