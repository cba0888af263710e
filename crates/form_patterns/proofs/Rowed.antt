-- The rows of places that are kept of a description's forms.
use Rattle.std.proofs.Common.{◌≡◌, ◌<◌, ◌≤◌, ◌^◌, ℕ, zero, suc, Bool, true, false, IsTrue, List, [], ◌∷◌, length, map, get_or, refl, sym, ap, ◌∙◌, subst, arith}
use Rattle.std.specs.Prelude.{◌↔◌, slice_index_or}
use Rattle.std.specs.Global.{Vec}
use Rattle.std.proofs.lemmas.List.{length-map, get_or-map}
use Rattle.lisa_tree.specs.Descriptions.{DescriptionTree}
use Rattle.instruction_trees.specs.Trees.{Done}
use Rattle.instruction_trees.specs.Values.{AreWithin, none, more}
use Rattle.instruction_forms.specs.coding_tables.Instructions.{forms_of, form_count}
use Rattle.instruction_forms.specs.declared.form.Form.{Form}
use Rattle.instruction_forms.specs.Trees.{FormTree, form_tree}
use Rattle.instruction_forms.specs.Described.{instruction_form, AreForms}
use Rattle.pattern_tables.specs.declared.fields.Place.{Place}
use Rattle.pattern_tables.specs.Instructions.{form_at}
use Rattle.pattern_tables.specs.Places.{pair_of}
use Rattle.form_patterns.specs.Instructions.{field_places, tree_fields}
use Rattle.form_patterns.specs.Rows.{pairs, pairs_at, ArePlaces}
use Rattle.form_patterns.specs.Filled.{AreValuesOf}
use Rattle.form_patterns.proofs.Filling.{as_many}
use Rattle.form_patterns.proofs.Listing.{map_both, map_same}
use Rattle.form_patterns.proofs.Placing.{whole_places}
use Rattle.form_patterns.proofs.Standing.{all_fit}

-- ---- rows

-- the lowest bit and the width of each field of a form, in preorder
abbrev pub form_pairs : Form → List (ℕ × ℕ)
form_pairs f = map (λ field. (field.lsb, field.width)) (tree_fields (form_tree f))

pub row_at : (rows : List (Vec Place)) (k : ℕ) (row : Vec Place) → k < length rows → row ≡ get_or rows k row → pairs_at rows k ≡ pairs row
row_at rows k row h is = get_or-map pairs rows k row [] h ∙ ap pairs (sym is)

module _ (d : DescriptionTree) where
  pub rows_are : (all : List Form) (rows : List (Vec Place)) → AreForms d all → map pairs rows ≡ map form_pairs all → ArePlaces d rows
  rows_are all rows are is =
      let fields : FormTree → List (ℕ × ℕ) = λ t. map (λ field. (field.lsb, field.width)) (tree_fields t) in
      is ∙ map_both form_tree fields all ∙ ap (map fields) are
      ∙ sym (map_both (instruction_form d) fields (forms_of d))
      ∙ map_same (λ f. fields (instruction_form d f)) (field_places d) (forms_of d) (λ f i. whole_places d f (all_fit d f i))

  pub rows_counted : (rows : List (Vec Place)) → ArePlaces d rows → length rows ≡ form_count d
  rows_counted rows are = sym (length-map rows pairs) ∙ ap length are ∙ length-map (forms_of d) (field_places d)

  pub row_is : (rows : List (Vec Place)) (k : ℕ) → ArePlaces d rows → k < form_count d → pairs_at rows k ≡ field_places d (form_at (forms_of d) k)
  row_is rows k are h = ap (λ (ps : List (List (ℕ × ℕ))). slice_index_or ps k []) are ∙ get_or-map (field_places d) (forms_of d) k Done [] h

  -- the values of a form are those within its row
  pub values_in_row : (rows : List (Vec Place)) (k : ℕ) (vs : List ℕ) (row : Vec Place) → ArePlaces d rows → k < length rows → row ≡ get_or rows k row → AreWithin vs (pairs row) ↔ AreValuesOf d k vs
  values_in_row rows k vs row are h is =
      let inside : k < form_count d = (let e = rows_counted rows are in omega (arith, e, h)) in
      let same : pairs row ≡ field_places d (form_at (forms_of d) k) = sym (row_at rows k row h is) ∙ row_is rows k are inside in (
        λ w. record { within = inside; fit = subst (λ (ps : List (ℕ × ℕ)). AreWithin vs ps) same w },
        λ v. subst (λ (ps : List (ℕ × ℕ)). AreWithin vs ps) (sym same) v.fit,
      )

-- ---- values within their places

first : {v : ℕ} {p : ℕ × ℕ} {vs : List ℕ} {ps : List (ℕ × ℕ)} → AreWithin (v ∷ vs) (p ∷ ps) → (v < 2 ^ p.1) × AreWithin vs ps
first (more h w) = (h, w)

pub within_at : (vs : List ℕ) (ps : List Place) (i : ℕ) (e : Place) → AreWithin vs (map pair_of ps) → i < length ps → slice_index_or vs i 0 < 2 ^ (slice_index_or ps i e).width
within_at vs [] i e w h = absurd (omega (arith, h))
within_at [] (p ∷ ps) i e w h = absurd (let l = as_many w in cc l)
within_at (v ∷ vs) (p ∷ ps) zero e w h = (first w).0
within_at (v ∷ vs) (p ∷ ps) (suc i) e w h = within_at vs ps i e (first w).1 (omega (arith, h))

-- each of the first ones is
abbrev pub AreBelow : List ℕ → List Place → ℕ → Type 0
AreBelow vs ps n = (i : ℕ) (e : Place) → i < n → slice_index_or vs i 0 < 2 ^ (slice_index_or ps i e).width

pub all_within : (vs : List ℕ) (ps : List Place) (n : ℕ) → length vs ≡ length ps → length ps ≤ n → AreBelow vs ps n → AreWithin vs (map pair_of ps)
all_within [] [] n l h all = none
all_within [] (p ∷ ps) n l h all = absurd (cc l)
all_within (v ∷ vs) [] n l h all = absurd (cc l)
all_within (v ∷ vs) (p ∷ ps) zero l h all = absurd (omega (arith, h))
all_within (v ∷ vs) (p ∷ ps) (suc n) l h all = more (all 0 p (omega arith)) (all_within vs ps n (omega (arith, l)) (omega (arith, h)) (λ i e j. all (suc i) e (omega (arith, j))))

pub level : (vs : List ℕ) (ps : List Place) → AreWithin vs (map pair_of ps) → length vs ≡ length ps
level vs ps w = as_many w ∙ length-map ps pair_of

-- ---- answers of tests

-- what makes a test hold isn't so where it failed
pub failed : (b : Bool) (P : Type 0) → b ≡ false → (P → IsTrue b) → P → ⊥
failed true P h f p = absurd (cc h)
failed false P h f p = absurd (cc (f p))

pub in_row : (d : DescriptionTree) (rows : List (Vec Place)) (k : ℕ) (vs : List ℕ) (row : Vec Place) (ps : List Place) (b : Bool) → ps ≡ row.items → ArePlaces d rows → k < length rows → row ≡ get_or rows k row
    → IsTrue b ↔ AreWithin vs (map pair_of ps) → IsTrue b ↔ AreValuesOf d k vs
in_row d rows k vs row ps b same are h is test =
    let of = values_in_row d rows k vs row are h is in
    let whole : map pair_of ps ≡ pairs row = ap (map pair_of) same in (
      λ e. of.0 (subst (λ (xs : List (ℕ × ℕ)). AreWithin vs xs) whole (test.0 e)),
      λ v. test.1 (subst (λ (xs : List (ℕ × ℕ)). AreWithin vs xs) (sym whole) (of.1 v)),
    )

-- there is no form of such a number
pub out_of_rows : (d : DescriptionTree) (rows : List (Vec Place)) (k : ℕ) (vs : List ℕ) → ArePlaces d rows → length rows ≤ k → AreValuesOf d k vs → ⊥
out_of_rows d rows k vs are h v = let e = rows_counted d rows are in let w = v.within in absurd (omega (arith, e, h, w))
