-- Each field of a form has a bit at least and stands in a word, and so does each field of its parts.
use Rattle.std.proofs.Common.{◌≡◌, ◌<◌, ◌≤◌, ◌+◌, ◌∙◌, ℕ, zero, suc, Bool, true, false, cond, List, [], ◌∷◌, ◌++◌, Option, None, Some, length, get_or, map, nat_eq, refl, sym, ap, subst, arith}
use Rattle.std.specs.Prelude.{slice_get}
use Rattle.std.specs.List.{All, AllByRecursion}
use Rattle.std.proofs.lemmas.List.{length-map, get_or-map}
use Rattle.std.proofs.lemmas.List.Elements.{All-nil, All-cons, All-append}
use Rattle.std.proofs.lemmas.Option.{same_Some}
use Rattle.lisa_tree.specs.declared.descriptions.CodingItem.{CodingItem}
use Rattle.lisa_tree.specs.declared.descriptions.CodingItem.TheVariants as items
use Rattle.lisa_tree.specs.Descriptions as trees
use Rattle.lisa_tree.specs.Descriptions.{CodingTree, DescriptionTree}
use Rattle.lisa_tree.specs.Operations.{coding_in, sections_at}
use Rattle.lisa_meaning.specs.lisa_machine.Verdicts.{IsAccepted}
use Rattle.lisa_meaning.specs.lisa_machine.Codings.{FitsCoding, FitsItem}
use Rattle.lisa_meaning.proofs.lisa_machine_proofs.Sound.{sound}
use Rattle.lisa_meaning.proofs.lisa_machine_proofs.Standing.{coding_stand}
use Rattle.lisa_meaning.proofs.lisa_machine_proofs.Fitting.{coding_fits}
use Rattle.instruction_trees.specs.Trees.{Table, Item, Fixed, Free, Field, Child, Tree, Done, Pass, Value, Choose, coding, size, placed}
use Rattle.instruction_trees.specs.Values.{own_values, inner_values, values, StandsBelow}
use Rattle.lisa_meaning.specs.coding_tables.Codings.{digit_item, pattern_digits, items_of, coding_table}
use Rattle.lisa_meaning.specs.coding_tables.Instructions.{instruction_items, forms_of, form_count}
use Rattle.lisa_meaning.specs.pattern_tables.Instructions.{form_at}
use Rattle.lisa_meaning.specs.instruction_forms.declared.form.Field as fields
use Rattle.lisa_meaning.specs.instruction_forms.declared.form.Form.{Form}
use Rattle.lisa_meaning.specs.instruction_forms.Trees.{FormTree, FormTrees, Node, End, Then, form_tree}
use Rattle.lisa_meaning.specs.instruction_forms.Described.{own_items, instruction_form, AreForms}
use Rattle.lisa_meaning.proofs.instruction_forms_proofs.Whole.{items_list}
use Rattle.lisa_meaning.specs.form_patterns.Instructions.{field_places, tree_fields, trees_fields}
use Rattle.lisa_meaning.proofs.form_patterns_proofs.Placing.{place_of, whole_places}
use Rattle.lisa_meaning.proofs.form_patterns_proofs.Filling.{fit_at}
use Rattle.lisa_meaning.proofs.form_patterns_proofs.Rowed.{row_is}
use Rattle.lisa_meaning.specs.lisa_forms.Choosing.{tree_at, child_at, Stands, whole, child, other, further}
use Rattle.lisa_meaning.specs.lisa_forms.declared.coding.Coding.{Coding}
use Rattle.lisa_meaning.specs.lisa_forms.Codings.{IsCodingOf}
use Rattle.lisa_meaning.proofs.lisa_forms_proofs.Patterned.{patterns_counted}
use Rattle.lisa_meaning.proofs.lisa_forms_proofs.Fielded.{rows_inside}
use Rattle.scene_paths.specs.Spans.{IsField, HasFields}

-- ---- parts of lists

all_right : {X : Type 0} (P : X → Type 0) (xs ys : List X) → All P (xs ++ ys) → All P ys
all_right P [] ys a = a
all_right P (x ∷ xs) ys a = all_right P xs ys (λ k d h. a (suc k) d (omega (arith, h)))

all_left : {X : Type 0} (P : X → Type 0) (xs ys : List X) → All P (xs ++ ys) → All P xs
all_left P [] ys a = All-nil P
all_left P (x ∷ xs) ys a = All-cons P x xs (a 0 x (omega arith)) (all_left P xs ys (λ k d h. a (suc k) d (omega (arith, h))))

-- ---- fields have bits

abbrev WideItem : Item → Type 0
WideItem (Fixed b) = Unit {0}
WideItem Free = Unit {0}
WideItem (Field n) = 1 ≤ n
WideItem (Child ks) = Unit {0}

abbrev WideItems : List Item → Type 0
WideItems all = AllByRecursion WideItem all

abbrev HasBit : ℕ × ℕ → Type 0
HasBit p = 1 ≤ p.1

module _ {V : Type 0} (table : Table) (wide : (o : ℕ) → WideItems (coding table o)) where
  own_wide : (low : ℕ) (t : Tree V) (items : List Item) → WideItems items → All HasBit (own_values (placed table low t items))
  own_wide low Done items w = All-nil HasBit
  own_wide low (Pass t) (Fixed b ∷ items) w = own_wide low t items w.1
  own_wide low (Pass t) (Free ∷ items) w = own_wide low t items w.1
  own_wide low (Value v t) (Field n ∷ items) w = All-cons HasBit _ _ w.0 (own_wide low t items w.1)
  own_wide low (Choose k own t) (Child ks ∷ items) w = own_wide low t items w.1
  own_wide low _ _ w = All-nil HasBit

  inner_wide : (low : ℕ) (t : Tree V) (items : List Item) → WideItems items → All HasBit (inner_values (placed table low t items))
  inner_wide low Done items w = All-nil HasBit
  inner_wide low (Pass t) (Fixed b ∷ items) w = inner_wide low t items w.1
  inner_wide low (Pass t) (Free ∷ items) w = inner_wide low t items w.1
  inner_wide low (Value v t) (Field n ∷ items) w = inner_wide low t items w.1
  inner_wide low (Choose k own t) (Child ks ∷ items) w =
      let p = placed table (low + size table t items) own (coding table k) in
      All-append HasBit (own_values p ++ inner_values p) (inner_values (placed table low t items))
      (All-append HasBit (own_values p) (inner_values p) (own_wide (low + size table t items) own (coding table k) (wide k)) (inner_wide (low + size table t items) own (coding table k) (wide k)))
      (inner_wide low t items w.1)
  inner_wide low _ _ w = All-nil HasBit

  values_wide : (t : Tree V) (items : List Item) → WideItems items → All HasBit (values (placed table 0 t items))
  values_wide t items w = All-append HasBit (own_values (placed table 0 t items)) (inner_values (placed table 0 t items)) (own_wide 0 t items w) (inner_wide 0 t items w)

digit_wide : (digit : ℕ) → WideItem (digit_item digit)
digit_wide digit = by (nat_eq digit 48) (nat_eq digit 49)
  where
    by : (b c : Bool) → WideItem (cond b (Fixed false) (cond c (Fixed true) Free))
    by true c = tt
    by false true = tt
    by false false = tt

digits_wide : (digits : List ℕ) (rest : List Item) → WideItems rest → WideItems (map digit_item digits ++ rest)
digits_wide [] rest w = w
digits_wide (digit ∷ digits) rest w = (digit_wide digit, digits_wide digits rest w)

items_wide : (d : DescriptionTree) (o : ℕ) (all : List CodingItem) → AllByRecursion (FitsItem d o) all → WideItems (items_of d o all)
items_wide d o [] fit = tt
items_wide d o (items.Bits pattern ∷ rest) fit = digits_wide (pattern_digits pattern) (items_of d o rest) (items_wide d o rest fit.1)
items_wide d o (items.Field n pattern ∷ rest) fit = (fit.0.least, items_wide d o rest fit.1)
items_wide d o (items.Child n ∷ rest) fit = (tt, items_wide d o rest fit.1)

module _ (d : DescriptionTree) (accepted : IsAccepted d) where
  fits : (o : ℕ) (part : CodingTree) → coding_in (sections_at d o) ≡ Some part → FitsCoding d o part
  fits o part is = let s = sound d accepted in coding_fits d s.known s.stand s.uses s.widths o part (coding_stand d o part is)

  coding_wide : (o : ℕ) → WideItems (coding (coding_table d) o)
  coding_wide o = subst WideItems (sym (items_list d o)) (by (coding_in (sections_at d o)) refl)
    where
      by : (part : Option CodingTree) → coding_in (sections_at d o) ≡ part → WideItems (items_of d o (own_items part))
      by None is = tt
      by (Some (trees.Root place group)) is = tt
      by (Some (trees.Items all)) is = items_wide d o all (fits o (trees.Items all) is)

  -- ---- the fields of a whole form

  module _ (c : Coding) (are : IsCodingOf d c) (k : ℕ) (h : k < form_count d) where
    wide : All HasBit (field_places d (form_at (forms_of d) k))
    wide = values_wide (coding_table d) coding_wide (form_at (forms_of d) k) (instruction_items d) (tt, tt)

    inside : (i : ℕ) → i < length (field_places d (form_at (forms_of d) k)) → StandsBelow 64 (get_or (field_places d (form_at (forms_of d) k)) i (0, 0))
    inside i low =
        let row = row_is d c.places.items k are.all_places h in
        let counted = patterns_counted d c.width c.patterns.items are.all_patterns in
        let all = rows_inside d c.width c.patterns.items are.has_width are.all_patterns c.places.items are.all_places k i (omega (arith, counted, h)) (subst (λ (ps : List (ℕ × ℕ)). i < length ps) (sym row) low) in
        subst (λ (ps : List (ℕ × ℕ)). StandsBelow 64 (get_or ps i (0, 0))) row all

    pub form_fields : HasFields (instruction_form d (form_at (forms_of d) k))
    form_fields i x low =
        let f = form_at (forms_of d) k in
        let own = tree_fields (instruction_form d f) in
        let places : map place_of own ≡ field_places d f = whole_places d f (fit_at d k h) in
        let there : i < length (field_places d f) = subst (λ (ps : List (ℕ × ℕ)). i < length ps) places (let n = length-map own place_of in omega (arith, n, low)) in
        let at : place_of (get_or own i x) ≡ get_or (field_places d f) i (0, 0) = sym (get_or-map place_of own i x (0, 0) low) ∙ ap (λ (ps : List (ℕ × ℕ)). get_or ps i (0, 0)) places in
        let a = wide i (0, 0) there in
        let b = inside i there in
        let c = subst HasBit (sym at) a in
        let e = subst (StandsBelow 64) (sym at) b in
        record { least = c; most = e }

    pub kept_fields : (all : List Form) (f : Form) → AreForms d all → slice_get all k ≡ Some f → form_tree f ≡ instruction_form d (form_at (forms_of d) k) → HasFields (form_tree f)
    kept_fields all f forms is same = subst HasFields (sym same) form_fields

-- ---- the fields of parts

trees_part : (ts : FormTrees) (i : ℕ) (g : FormTree) → All IsField (trees_fields ts) → tree_at ts i ≡ Some g → HasFields g
trees_part End i g all is = absurd (cc is)
trees_part (Then f rest) zero g all is = subst HasFields (same_Some f g is) (all_left IsField (tree_fields f) (trees_fields rest) all)
trees_part (Then f rest) (suc i) g all is = trees_part rest i g (all_right IsField (tree_fields f) (trees_fields rest) all) is

pub child_fields : (f : FormTree) (i : ℕ) (g : FormTree) → HasFields f → child_at f i ≡ Some g → HasFields g
child_fields (Node o children own) i g all is = trees_part children i g (all_right IsField own (trees_fields children) all) is

-- its own ones stand first
pub own_fields : (o : ℕ) (children : FormTrees) (own : List fields.Field) → HasFields (Node o children own) → All IsField own
own_fields o children own all = all_left IsField own (trees_fields children) all

abbrev pub PartFits : Option FormTree → Type 0
PartFits None = Unit {0}
PartFits (Some g) = HasFields g

pub part_fields : (d : DescriptionTree) (f : FormTree) (k : ℕ) (part : Option FormTree) → HasFields f → Stands d f k part → PartFits part
part_fields d f k part h (whole b inside past top) = h
part_fields d f k part h (child {p = p} {i = i} {part = above} {below = below} b s place is top) = child_fields above i below (part_fields d f p (Some above) h s) is
part_fields d f k part h (other b s place) = tt
part_fields d f k part h (further b s) = tt
