-- Values within the fields of a form are those of one tree.
use Rattle.std.proofs.Common.{◌≡◌, ◌⊎◌, ◌<◌, ◌+◌, ℕ, zero, suc, List, [], ◌∷◌, length, map, refl, sym, ap, ap₂, ◌∙◌, subst, arith, inl, inr}
use Rattle.std.specs.Prelude.{slice_index_or}
use Rattle.std.proofs.lemmas.List.{length-map}
use Rattle.lisa_tree.specs.Descriptions.{DescriptionTree}
use Rattle.instruction_trees.specs.Trees.{Table, Item, Fixed, Free, Field, Child, Tree, Done, Pass, Value, Choose, Form, Fits, IsBelow, AnyValue, coding, form, placed, slice, tree_at}
use Rattle.instruction_trees.specs.Values.{values, owns, inners, filled, upto, AreWithin, none, more}
use Rattle.instruction_trees.proofs.Numbering.{filled_form, filled_values, values_count, tree_of_form}
use Rattle.instruction_trees.proofs.FormWords.{form_is, read_is, read_values}
use Rattle.instruction_trees.proofs.Placing.{values_fit, values_within}
use Rattle.instruction_trees.proofs.Relabelled.{placed_relabel, owns_relabel, inners_relabel}
use Rattle.instruction_forms.specs.coding_tables.Codings.{coding_table}
use Rattle.instruction_forms.specs.coding_tables.Instructions.{instruction_items, forms_of, form_count}
use Rattle.pattern_tables.specs.Instructions.{form_at}
use Rattle.pattern_tables.proofs.Decoding.{place_in}
use Rattle.form_patterns.specs.Instructions.{field_places}
use Rattle.form_patterns.specs.Filled.{AreValuesOf, IsInstruction}
use Rattle.form_patterns.proofs.Standing.{all_fit}

-- ---- lists

pub as_many : {vs : List ℕ} {ps : List (ℕ × ℕ)} → AreWithin vs ps → length vs ≡ length ps
as_many none = refl
as_many (more h w) = ap suc (as_many w)

-- one after the other from this number on
pub listed : (g : ℕ → ℕ) (a : ℕ) (vs : List ℕ) → ((i : ℕ) → i < length vs → g (a + i) ≡ slice_index_or vs i 0) → map g (upto a (length vs)) ≡ vs
listed g a [] h = refl
listed g a (v ∷ vs) h =
    let here : a ≡ a + 0 = omega arith in
    ap₂ (λ (x : ℕ) (xs : List ℕ). x ∷ xs) (ap g here ∙ h 0 (omega arith)) (listed g (suc a) vs (λ i l. (let next : suc a + i ≡ a + suc i = omega arith in ap g next ∙ h (suc i) (omega (arith, l)))))

-- the values of a list by their numbers
abbrev pub nth : List ℕ → ℕ → ℕ
nth vs i = slice_index_or vs i 0

pub all_listed : (vs : List ℕ) → map (nth vs) (upto 0 (length vs)) ≡ vs
all_listed vs = listed (nth vs) 0 vs (λ i h. (let e : 0 + i ≡ i = omega arith in ap (nth vs) e))

-- ---- any tree

module _ (table : Table) where
  form_fits : (t : Tree ℕ) (items : List Item) → Fits AnyValue table (form t) items → Fits AnyValue table t items
  form_fits Done [] fits = fits
  form_fits (Pass t) (Fixed b ∷ items) fits = form_fits t items fits
  form_fits (Pass t) (Free ∷ items) fits = form_fits t items fits
  form_fits (Value v t) (Field n ∷ items) fits = (fits.0, form_fits t items fits.1)
  form_fits (Choose k own t) (Child ks ∷ items) fits = (fits.0, form_fits own (coding table k) fits.1, form_fits t items fits.2)
  form_fits _ _ fits = absurd fits

  module _ (items : List Item) where
    -- a tree's fields stand where its form's do
    pub places_are : (t : Tree ℕ) (f : Form) → form t ≡ f → values (placed table 0 t items) ≡ values (placed table 0 f items)
    places_are t f formed = ap values (sym (placed_relabel (λ _. tt) table 0 t items)) ∙ ap (λ (g : Form). values (placed table 0 g items)) formed

    module _ (f : Form) (fits : Fits AnyValue table f items) where
      -- a form has as many fields as places
      counted : length (values (placed table 0 f items)) ≡ owns f + inners f
      counted =
          let t = tree_at table 0 0 f items in
          sym (length-map (values (placed table 0 f items)) (slice 0))
          ∙ ap length (sym (read_values table items f 0))
          ∙ values_count t
          ∙ ap₂ (λ (m n : ℕ). m + n) (sym (owns_relabel (λ _. tt) t)) (sym (inners_relabel (λ _. tt) t))
          ∙ ap (λ (g : Form). owns g + inners g) (read_is table items f 0 fits)

      module _ (vs : List ℕ) (within : AreWithin vs (values (placed table 0 f items))) where
        abbrev pub whole : Tree ℕ
        whole = filled (nth vs) f

        pub whole_form : form whole ≡ f
        whole_form = filled_form (nth vs) f ∙ form_is f

        pub whole_values : values whole ≡ vs
        whole_values = filled_values (nth vs) f ∙ ap (λ (n : ℕ). map (nth vs) (upto 0 n)) (sym counted ∙ sym (as_many within)) ∙ all_listed vs

        pub whole_fits : Fits IsBelow table whole items
        whole_fits =
            values_fit table whole items (form_fits whole items (subst (λ (g : Form). Fits AnyValue table g items) (sym whole_form) fits))
            (subst (λ (ps : List (ℕ × ℕ)). AreWithin (values whole) ps) (sym (places_are whole f whole_form)) (subst (λ (xs : List ℕ). AreWithin xs (values (placed table 0 f items))) (sym whole_values) within))

-- a tree with these values is filled with them
pub filled_with : (t : Tree ℕ) (vs : List ℕ) → values t ≡ vs → filled (nth vs) (form t) ≡ t
filled_with t vs valued =
    tree_of_form (nth vs) t (ap (λ (n : ℕ). map (nth vs) (upto 0 n)) (sym (values_count t) ∙ ap length valued) ∙ all_listed vs ∙ sym valued)

-- ---- instructions

module _ (d : DescriptionTree) where
  pub fit_at : (k : ℕ) → k < form_count d → Fits AnyValue (coding_table d) (form_at (forms_of d) k) (instruction_items d)
  fit_at k h = all_fit d (form_at (forms_of d) k) (place_in (forms_of d) k Done h)

  pub instruction_of : (k : ℕ) (vs : List ℕ) → AreValuesOf d k vs → (t : Tree ℕ) × IsInstruction d k vs t
  instruction_of k vs are =
      let f = form_at (forms_of d) k in
      let fits = fit_at k are.within in (
        whole (coding_table d) (instruction_items d) f fits vs are.fit,
        record {
          fits = whole_fits (coding_table d) (instruction_items d) f fits vs are.fit;
          formed = whole_form (coding_table d) (instruction_items d) f fits vs are.fit;
          valued = whole_values (coding_table d) (instruction_items d) f fits vs are.fit;
        },
      )

  pub one_instruction : (k : ℕ) (vs : List ℕ) (t u : Tree ℕ) → IsInstruction d k vs t → IsInstruction d k vs u → t ≡ u
  one_instruction k vs t u a b =
      sym (filled_with t vs a.valued) ∙ ap (λ (f : Form). filled (nth vs) f) (a.formed ∙ sym b.formed) ∙ filled_with u vs b.valued

  at_or : (fs : List Form) (k : ℕ) → (k < length fs) ⊎ (form_at fs k ≡ Done)
  at_or [] k = inr refl
  at_or (f ∷ fs) zero = inl (omega arith)
  at_or (f ∷ fs) (suc k) = elim (at_or fs k) [ inl h ↦ inl (omega (arith, h)) | inr e ↦ inr e ]

  no_tree : (t : Tree ℕ) → Fits IsBelow (coding_table d) t (instruction_items d) → form t ≡ Done → ⊥
  no_tree Done fits e = fits
  no_tree (Pass t) fits e = absurd (cc e)
  no_tree (Value v t) fits e = absurd (cc e)
  no_tree (Choose k own t) fits e = absurd (cc e)

  pub its_values : (k : ℕ) (vs : List ℕ) (t : Tree ℕ) → IsInstruction d k vs t → AreValuesOf d k vs
  its_values k vs t is = record {
    within = elim (at_or (forms_of d) k) [ inl h ↦ h | inr e ↦ absurd (no_tree t is.fits (is.formed ∙ e)) ];
    fit = subst (λ (xs : List ℕ). AreWithin xs (field_places d (form_at (forms_of d) k))) is.valued
        (subst (λ (ps : List (ℕ × ℕ)). AreWithin (values t) ps) (places_are (coding_table d) (instruction_items d) t (form_at (forms_of d) k) is.formed) (values_within (coding_table d) t (instruction_items d) is.fits));
  }
