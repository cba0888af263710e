-- What a form writes by its plain tree is what it writes by its tree.
use Rattle.std.proofs.Common.{◌≡◌, ◌+◌, ℕ, suc, List, [], ◌∷◌, Option, None, Some, length, map, refl, sym, ap, ap₂, ◌∙◌, arith}
use Rattle.std.specs.Prelude.{cond, slice_index_or}
use Rattle.lisa_tree.specs.Descriptions.{DescriptionTree}
use Rattle.instruction_trees.specs.Trees as plain
use Rattle.instruction_trees.specs.Trees.{Item, Fixed, Free, Field, Child, Table, Done, Pass, Value, Choose, Fits, AnyValue, In, here, there, coding, size, placed}
use Rattle.instruction_trees.specs.Values.{own_values, owns, inners, numbered}
use Rattle.instruction_forms.specs.coding_tables.Codings.{coding_table}
use Rattle.instruction_forms.specs.coding_tables.Instructions.{instruction_items, forms_of}
use Rattle.instruction_forms.proofs.coding_tables_proofs.Heights.{listed_fit}
use Rattle.instruction_forms.specs.declared.form.Field as fields
use Rattle.instruction_forms.specs.Trees.{FormTree, FormTrees}
use Rattle.instruction_forms.specs.Described.{labels, labelled, items_at, children, described, instruction_form}
use Rattle.instruction_texts.specs.Symbols.{Sym, own_fields, assemble, parts_of, symbols, is_instruction_text}
use Rattle.instruction_texts.specs.Once.{fields_of}
use Rattle.form_texts.specs.Syntaxes.{elements_at, syntax_table}
use Rattle.form_texts.specs.Instructions.{instruction_symbols, first_bad_from, first_bad_text}
use Rattle.form_texts.specs.Written.{numbered_fields, inner_count, written_parts, written}
use Rattle.form_texts.proofs.Codings.{label_for_each, syntax_at}

-- the number of the first of these forms that may not have its text, where they are numbered from a number on
abbrev pub first_bad : DescriptionTree → ℕ → List FormTree → Option ℕ
first_bad d k [] = None
first_bad d k (f ∷ rest) = cond (is_instruction_text (written d f)) (first_bad d (suc k) rest) (Some k)

module _ (d : DescriptionTree) where
  abbrev table : Table
  table = coding_table d

  -- ---- the fields of an operation

  -- where there is a name for each
  fields_numbered : (o a b low : ℕ) (names : List (List ℕ)) (t : plain.Form) (items : List Item) → length names ≡ fields_of items → Fits AnyValue table t items
      → own_fields (numbered a b t) items ≡ numbered_fields a (labelled d o names (own_values (placed table low t items)))
  fields_numbered o a b low [] Done [] e fits = refl
  fields_numbered o a b low (n ∷ names) Done [] e fits = refl
  fields_numbered o a b low names (Pass t) (Fixed bit ∷ items) e fits = fields_numbered o a b low names t items e fits
  fields_numbered o a b low names (Pass t) (Free ∷ items) e fits = fields_numbered o a b low names t items e fits
  fields_numbered o a b low [] (Value v t) (Field w ∷ items) e fits = absurd (omega (arith, e))
  fields_numbered o a b low (n ∷ names) (Value v t) (Field w ∷ items) e fits = ap (λ (l : List (ℕ × ℕ)). (w, a) ∷ l) (fields_numbered o (suc a) b low names t items (omega (arith, e)) fits.1)
  fields_numbered o a b low names (Choose k own t) (Child ks ∷ items) e fits = fields_numbered o a (b + (owns own + inners own)) low names t items e fits.2
  fields_numbered o a b low names _ _ e fits = absurd fits

  fields_counted : (o low : ℕ) (names : List (List ℕ)) (t : plain.Form) (items : List Item) → length names ≡ fields_of items → Fits AnyValue table t items
      → length (labelled d o names (own_values (placed table low t items))) ≡ owns t
  fields_counted o low [] Done [] e fits = refl
  fields_counted o low (n ∷ names) Done [] e fits = refl
  fields_counted o low names (Pass t) (Fixed bit ∷ items) e fits = fields_counted o low names t items e fits
  fields_counted o low names (Pass t) (Free ∷ items) e fits = fields_counted o low names t items e fits
  fields_counted o low [] (Value v t) (Field w ∷ items) e fits = absurd (omega (arith, e))
  fields_counted o low (n ∷ names) (Value v t) (Field w ∷ items) e fits = ap suc (fields_counted o low names t items (omega (arith, e)) fits.1)
  fields_counted o low names (Choose k own t) (Child ks ∷ items) e fits = fields_counted o low names t items e fits.2
  fields_counted o low names _ _ e fits = absurd fits

  -- ---- the children

  children_counted : (low : ℕ) (t : plain.Form) (items : List Item) → Fits AnyValue table t items → inner_count (children d (placed table low t items)) ≡ inners t
  children_counted low Done [] fits = refl
  children_counted low (Pass t) (Fixed bit ∷ items) fits = children_counted low t items fits
  children_counted low (Pass t) (Free ∷ items) fits = children_counted low t items fits
  children_counted low (Value v t) (Field w ∷ items) fits = children_counted low t items fits.1
  children_counted low (Choose k own t) (Child ks ∷ items) fits =
      let high = low + size table t items in
      let a = fields_counted k high (labels (items_at d k)) own (coding table k) (label_for_each d k) fits.1 in
      let b = children_counted high own (coding table k) fits.1 in
      let c = children_counted low t items fits.2 in
      omega (arith, a, b, c)
  children_counted low _ _ fits = absurd fits

  parts_are : (b low a : ℕ) (t : plain.Form) (items : List Item) → Fits AnyValue table t items → parts_of table (syntax_table d) (numbered a b t) ≡ written_parts d b (children d (placed table low t items))
  parts_are b low a Done [] fits = refl
  parts_are b low a (Pass t) (Fixed bit ∷ items) fits = parts_are b low a t items fits
  parts_are b low a (Pass t) (Free ∷ items) fits = parts_are b low a t items fits
  parts_are b low a (Value v t) (Field w ∷ items) fits = parts_are b low (suc a) t items fits.1
  parts_are b low a (Choose k own t) (Child ks ∷ items) fits =
      let high = low + size table t items in
      let each = label_for_each d k in
      let shown : List fields.Field = labelled d k (labels (items_at d k)) (own_values (placed table high own (coding table k))) in
      let below : FormTrees = children d (placed table high own (coding table k)) in
      let count : owns own ≡ length shown = sym (fields_counted k high (labels (items_at d k)) own (coding table k) each fits.1) in
      let inner : inners own ≡ inner_count below = sym (children_counted high own (coding table k) fits.1) in
      let later = b + (owns own + inners own) in
      ap₂ (λ (x : List (Sym ℕ)) (rest : List (List (Sym ℕ))). x ∷ rest)
      (ap (λ (fs : List (ℕ × ℕ)). assemble fs (parts_of table (syntax_table d) (numbered b (b + owns own) own)) (slice_index_or (syntax_table d) k [])) (fields_numbered k b (b + owns own) high (labels (items_at d k)) own (coding table k) each fits.1)
      ∙ ap (λ (ps : List (List (Sym ℕ))). assemble (numbered_fields b shown) ps (slice_index_or (syntax_table d) k [])) (parts_are (b + owns own) high b own (coding table k) fits.1)
      ∙ ap (assemble (numbered_fields b shown) (written_parts d (b + owns own) below)) (syntax_at d k)
      ∙ ap (λ (n : ℕ). assemble (numbered_fields b shown) (written_parts d (b + n) below) (elements_at d k)) count)
      (parts_are later low a t items fits.2 ∙ ap₂ (λ (m n : ℕ). written_parts d (b + (m + n)) (children d (placed table low t items))) count inner)
  parts_are b low a _ _ fits = absurd fits

  -- ---- whole forms

  pub operation_written : (o low : ℕ) (t : plain.Form) → Fits AnyValue table t (coding table o) → written d (described d low o t) ≡ symbols table (syntax_table d) o (numbered 0 (owns t) t)
  operation_written o low t fits =
      let each = label_for_each d o in
      let names : List (List ℕ) = labels (items_at d o) in
      let shown : List fields.Field = labelled d o names (own_values (placed table low t (coding table o))) in
      let below : FormTrees = children d (placed table low t (coding table o)) in
      let count : length shown ≡ owns t = fields_counted o low names t (coding table o) each fits in
      ap (λ (n : ℕ). assemble (numbered_fields 0 shown) (written_parts d n below) (elements_at d o)) count
      ∙ ap (λ (fs : List (ℕ × ℕ)). assemble fs (written_parts d (owns t) below) (elements_at d o)) (sym (fields_numbered o 0 (owns t) low names t (coding table o) each fits))
      ∙ ap (λ (ps : List (List (Sym ℕ))). assemble (own_fields (numbered 0 (owns t) t) (coding table o)) ps (elements_at d o)) (sym (parts_are (owns t) low 0 t (coding table o) fits))
      ∙ ap (assemble (own_fields (numbered 0 (owns t) t) (coding table o)) (parts_of table (syntax_table d) (numbered 0 (owns t) t))) (sym (syntax_at d o))

  instruction_written : (f : plain.Form) → Fits AnyValue table f (instruction_items d) → written d (instruction_form d f) ≡ instruction_symbols d f
  instruction_written (Choose o own t) fits = operation_written o 0 own fits.1
  instruction_written Done fits = absurd fits
  instruction_written (Pass t) fits = absurd fits
  instruction_written (Value v t) fits = absurd fits

  pub each_written : (f : plain.Form) → In f (forms_of d) → written d (instruction_form d f) ≡ instruction_symbols d f
  each_written f i = instruction_written f (listed_fit d f i)

  -- ---- all forms

  module _ {B : Type 0} (g : List (Sym ℕ) → B) where
    all_written : (fs : List plain.Form) → ((f : plain.Form) → In f fs → written d (instruction_form d f) ≡ instruction_symbols d f)
        → map (λ (f : FormTree). g (written d f)) (map (instruction_form d) fs) ≡ map (λ (f : plain.Form). g (instruction_symbols d f)) fs
    all_written [] h = refl
    all_written (f ∷ fs) h = ap₂ (λ (x : B) (xs : List B). x ∷ xs) (ap g (h f here)) (all_written fs (λ x i. h x (there i)))

    pub of_all : (trees : List FormTree) → trees ≡ map (instruction_form d) (forms_of d) → map (λ (f : FormTree). g (written d f)) trees ≡ map (λ (f : plain.Form). g (instruction_symbols d f)) (forms_of d)
    of_all trees e = ap (map (λ (f : FormTree). g (written d f))) e ∙ all_written (forms_of d) each_written

  bad_from : (k : ℕ) (fs : List plain.Form) → ((f : plain.Form) → In f fs → written d (instruction_form d f) ≡ instruction_symbols d f) → first_bad d k (map (instruction_form d) fs) ≡ first_bad_from d k fs
  bad_from k [] h = refl
  bad_from k (f ∷ fs) h =
      let next : suc k ≡ k + 1 = omega arith in
      ap (λ (s : List (Sym ℕ)). cond (is_instruction_text s) (first_bad d (suc k) (map (instruction_form d) fs)) (Some k)) (h f here)
      ∙ ap (λ (r : Option ℕ). cond (is_instruction_text (instruction_symbols d f)) r (Some k)) (bad_from (suc k) fs (λ x i. h x (there i)) ∙ ap (λ (n : ℕ). first_bad_from d n fs) next)

  pub first_bad_is : (trees : List FormTree) → trees ≡ map (instruction_form d) (forms_of d) → first_bad d 0 trees ≡ first_bad_text d
  first_bad_is trees e = ap (first_bad d 0) e ∙ bad_from 0 (forms_of d) each_written
