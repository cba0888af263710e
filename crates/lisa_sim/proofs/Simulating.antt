-- What holds of a simulator's items and states goes on to hold.
use Rattle.std.proofs.Common.{◌≡◌, List, ℕ, sym, ap, ap₂, ◌∙◌, subst}
use Rattle.lisa_tree.specs.declared.descriptions.Description.{Description}
use Rattle.lisa_tree.specs.Descriptions.{DescriptionTree}
use Rattle.lisa_engine.specs.Memory.{Memory}
use Rattle.lisa_engine.specs.State.{State}
use Rattle.lisa_engine.specs.Shape.{IsShaped, HaveWidths, HaveDistinctNames}
use Rattle.lisa_engine.specs.declared.parts.Item.{Item}
use Rattle.lisa_engine.specs.declared.parts.ArrayItem.{ArrayItem}
use Rattle.machine_parts.specs.Parts.{arrays_of, pins_of}
use Rattle.activation_plans.specs.lisa_meaning.States.{state_of}
use Rattle.behavior_runs.specs.scene_paths.Lookups.{tree_of}
use Rattle.lisa_sim.specs.Runnings.{Running}

-- ---- of one description

abbrev pub Sized : List Item → DescriptionTree → Type 0
Sized items t = HaveWidths items (arrays_of t) (pins_of t)

abbrev pub Named : List Item → DescriptionTree → Type 0
Named items t = HaveDistinctNames items (arrays_of t) (pins_of t)

abbrev pub Shapes : List Item → DescriptionTree → List Memory → Type 0
Shapes items t image = (l : List (List ℕ)) → IsShaped items (arrays_of t) (state_of t image l)

-- ---- as it runs

module _ (items : List Item) (old new : Running) (described : new.described ≡ old.described) (image : new.image ≡ old.image) where
  pub arrays_still : (arrays : List ArrayItem) → arrays ≡ arrays_of (tree_of old.described) → arrays ≡ arrays_of (tree_of new.described)
  arrays_still arrays are = are ∙ ap (λ (x : Description). arrays_of (tree_of x)) (sym described)

  pub pins_still : (pins : List Item) → pins ≡ pins_of (tree_of old.described) → pins ≡ pins_of (tree_of new.described)
  pins_still pins are = are ∙ ap (λ (x : Description). pins_of (tree_of x)) (sym described)

  pub sized_still : Sized items (tree_of old.described) → Sized items (tree_of new.described)
  sized_still sized = subst (λ (x : Description). Sized items (tree_of x)) (sym described) sized

  pub named_still : Named items (tree_of old.described) → Named items (tree_of new.described)
  named_still named = subst (λ (x : Description). Named items (tree_of x)) (sym described) named

  pub shapes_still : Shapes items (tree_of old.described) old.image → Shapes items (tree_of new.described) new.image
  shapes_still shapes =
      subst (λ (m : List Memory). Shapes items (tree_of new.described) m) (sym image)
      (subst (λ (x : Description). Shapes items (tree_of x) old.image) (sym described) shapes)

  pub state_still : (l : List (List ℕ)) → new.present ≡ state_of (tree_of old.described) old.image l → new.present ≡ state_of (tree_of new.described) new.image l
  state_still l is = is ∙ ap₂ (λ (x : Description) (m : List Memory). state_of (tree_of x) m l) (sym described) (sym image)

  pub shape_still : Shapes items (tree_of old.described) old.image → (l : List (List ℕ)) → new.present ≡ state_of (tree_of old.described) old.image l → IsShaped items (arrays_of (tree_of new.described)) new.present
  shape_still shapes l is = subst (λ (s : State). IsShaped items (arrays_of (tree_of new.described)) s) (sym (state_still l is)) (shapes_still shapes l)

-- ---- as it is made

module _ (d : DescriptionTree) (items have : List Item) (same : items ≡ have) (runner : Running) (tree : tree_of runner.described ≡ d) (image : List Memory) (began : runner.image ≡ image) where
  pub sized_first : Sized have d → Sized items (tree_of runner.described)
  sized_first sized =
      subst (λ (is : List Item). Sized is (tree_of runner.described)) (sym same) (subst (λ (t : DescriptionTree). Sized have t) (sym tree) sized)

  pub named_first : Named have d → Named items (tree_of runner.described)
  named_first named =
      subst (λ (is : List Item). Named is (tree_of runner.described)) (sym same) (subst (λ (t : DescriptionTree). Named have t) (sym tree) named)

  pub shapes_first : Shapes have d image → Shapes items (tree_of runner.described) runner.image
  shapes_first shapes =
      subst (λ (m : List Memory). Shapes items (tree_of runner.described) m) (sym began)
      (subst (λ (is : List Item). Shapes is (tree_of runner.described) image) (sym same) (subst (λ (t : DescriptionTree). Shapes have t image) (sym tree) shapes))

  pub shape_first : Shapes have d image → (l : List (List ℕ)) → runner.present ≡ state_of d image l → IsShaped items (arrays_of (tree_of runner.described)) runner.present
  shape_first shapes l is =
      subst (λ (s : State). IsShaped items (arrays_of (tree_of runner.described)) s) (sym is)
      (subst (λ (is : List Item). IsShaped is (arrays_of (tree_of runner.described)) (state_of d image l)) (sym same) (subst (λ (t : DescriptionTree). IsShaped have (arrays_of t) (state_of d image l)) (sym tree) (shapes l)))
