-- The place that holds the root's word has some bit, and the root's group is as wide.
use Rattle.std.proofs.Common.{◌≡◌, ◌≤◌, ℕ, suc, List, [], ◌∷◌, Option, None, Some, Bool, true, false, cond, not, nat_eq, refl, sym, ap, ◌∙◌, arith, subst, inl}
use Rattle.std.specs.Prelude.{slice_get, ◌||◌}
use Rattle.std.specs.List.{AllByRecursion}
use Rattle.std.proofs.lemmas.Bool.{eqb-true}
use Rattle.lisa_tree.specs.declared.tokens.Shape.{Shape}
use Rattle.lisa_tree.specs.Expressions as exprs
use Rattle.lisa_tree.specs.Expressions.{ExprTree}
use Rattle.lisa_tree.specs.Descriptions as trees
use Rattle.lisa_tree.specs.Descriptions.{ResourceTree, DescriptionTree}
use Rattle.lisa_machine.specs.description_places.Places.{coding_places}
use Rattle.lisa_tree.specs.Same.{same_name}
use Rattle.lisa_tree.specs.Resources.{fields_in, shape_in, field_shape, fields}
use Rattle.lisa_tree.specs.Operations.{coding_in, sections_at}
use Rattle.lisa_tree.specs.Paths.{choice_node}
use Rattle.lisa_machine.specs.stage_checks.Resets.{is_scalar}
use Rattle.lisa_machine.specs.Machines.{IsSpelled}
use Rattle.form_texts.specs.coding_checks.Widths.{AreWidths, choice_width, child_width}
use Rattle.form_texts.specs.coding_checks.Uneven.{IsFirstGroupWidth, child_uneven, root_uneven, register_width, shape_width, place_width, are_apart, uneven_fault, group_width}
use Rattle.form_texts.specs.instruction_forms.Widths.{HasWidth}
use Rattle.lisa_machine.specs.Codings.{FitsWord}
use Rattle.lisa_machine.specs.Resolving.{IsWidth, FitsResource}
use Rattle.lisa_machine.specs.Freedom.{IsFree}
use Rattle.lisa_machine.specs.Soundness.{IsSound}
use Rattle.lisa_machine.proofs.Among.{free_places}
use Rattle.lisa_machine.proofs.Decoding.{off_right, or_left, not_off}
use Rattle.lisa_machine.proofs.Fitting.{coding_fits}
use Rattle.lisa_machine.proofs.Resolved.{resource_fits}
use Rattle.lisa_machine.proofs.Standing.{coding_stand}
use Rattle.spelled_promises.specs.Trees.{IsRootWord}
use Rattle.spelled_promises.proofs.Found.{sections_formed, coding_formed}
use Rattle.spelled_promises.proofs.Outer.{well_formed}
use Rattle.form_promises.proofs.Rooted.{IsRootOf, the_root}
use Rattle.form_promises.proofs.Wide.{even_child}

-- ---- the place

-- it has some bit
abbrev HasBits : Option ℕ → Type 0
HasBits r = (v : ℕ) × (r ≡ Some v) × (1 ≤ v)

field_wide : (n : List ℕ) (all : List (Shape × List ℕ)) (s : Shape) → AllByRecursion (λ field. IsWidth field.0.width) all → shape_in n all ≡ Some s → 1 ≤ s.width
field_wide n [] s h e = absurd (cc e)
field_wide n (field ∷ rest) s h e = by (same_name n field.1) e (field_wide n rest s h.1)
  where
    by : (b : Bool) → cond b (Some field.0) (shape_in n rest) ≡ Some s → (shape_in n rest ≡ Some s → 1 ≤ s.width) → 1 ≤ s.width
    by true f later = let same : field.0 ≡ s = cc f in subst (λ (x : Shape). 1 ≤ x.width) same h.0.0
    by false f later = later f

fields_fit : (all : List ResourceTree) → ((k : ℕ) (r : ResourceTree) → slice_get all k ≡ Some r → FitsResource r) → AllByRecursion (λ field. IsWidth field.0.width) (fields_in all)
fields_fit [] fit = tt
fields_fit (trees.Fields pipe own ∷ rest) fit = fit 0 (trees.Fields pipe own) refl
fields_fit (trees.Register word shape n depth ∷ rest) fit = fields_fit rest (λ k r e. fit (suc k) r e)
fields_fit (trees.Clocked word shape n ∷ rest) fit = fields_fit rest (λ k r e. fit (suc k) r e)
fields_fit (trees.Memory word shape n depth ∷ rest) fit = fields_fit rest (λ k r e. fit (suc k) r e)
fields_fit (trees.Pin shape n ∷ rest) fit = fields_fit rest (λ k r e. fit (suc k) r e)
fields_fit (trees.Pipeline n stages ∷ rest) fit = fields_fit rest (λ k r e. fit (suc k) r e)

scalar_wide : (r : Option ResourceTree) → is_scalar r ≡ true → ((x : ResourceTree) → r ≡ Some x → FitsResource x) → HasBits (register_width r)
scalar_wide (Some (trees.Register word shape n None)) e fit = (shape.width, refl, (fit (trees.Register word shape n None) refl).0.0)
scalar_wide (Some (trees.Clocked word shape n)) e fit = (shape.width, refl, (fit (trees.Clocked word shape n) refl).0)
scalar_wide (Some (trees.Register word shape n (Some depth))) e fit = absurd (cc e)
scalar_wide (Some (trees.Memory word shape n depth)) e fit = absurd (cc e)
scalar_wide (Some (trees.Pin shape n)) e fit = absurd (cc e)
scalar_wide (Some (trees.Pipeline n stages)) e fit = absurd (cc e)
scalar_wide (Some (trees.Fields pipe own)) e fit = absurd (cc e)
scalar_wide None e fit = absurd (cc e)

module _ (d : DescriptionTree) (s : IsSound d) where
  fit : (k : ℕ) (r : ResourceTree) → slice_get d.resources k ≡ Some r → FitsResource r
  fit = resource_fits d s.widths s.depths

  -- a register that is no array, or a field of a boundary
  place_wide : (o : ℕ) (place : ExprTree) → IsRootWord place → FitsWord d o place → HasBits (place_width d place)
  place_wide o (exprs.Named n) word fits =
      let w = scalar_wide (slice_get d.resources fits.number) fits.scalar (λ x e. fit fits.number x e) in
      (w.0, ap (λ (r : Option ℕ). resource_width_of r) fits.resource ∙ w.1, w.2)
    where
      resource_width_of : Option ℕ → Option ℕ
      resource_width_of None = None
      resource_width_of (Some k) = register_width (slice_get d.resources k)
  place_wide o (exprs.Input field) word fits =
      (fits.shape.width, ap shape_width fits.is, field_wide field (fields d) fits.shape (fields_fit d.resources fit) fits.is)
  place_wide o _ word fits = absurd word

  -- ---- the group

  module _ (widths : ℕ → Option ℕ) (exact : AreWidths d widths) (even : IsFree (group_width widths d) d) where
    same_width : (p q : Option ℕ) (v w : ℕ) → p ≡ Some v → q ≡ Some w → are_apart p q ≡ false → v ≡ w
    same_width p q v w is at e = eqb-true v w (not_off (nat_eq v w) (sym (cc (is, at)) ∙ e))

    group_wide : (c w : ℕ) (r : IsRootOf d c) → widths (choice_node d c) ≡ Some w → IsRootWord r.place → 1 ≤ w
    group_wide c w r known word =
        let root = trees.Root r.place r.group in
        let stand = coding_stand d r.operation root r.is in
        let free = free_places (group_width widths d) d even (coding_places r.operation root) stand in
        let uneven = even_child _ r.group (root_uneven widths d r.operation r.place r.group) (or_left (uneven_fault d r.operation r.group (root_uneven widths d r.operation r.place r.group)) None free) in
        let apart = off_right (child_uneven widths d r.operation r.group) (are_apart (place_width d r.place) (child_width widths d r.operation r.group)) uneven in
        let place = place_wide r.operation r.place word (coding_fits d s.known s.stand s.uses s.widths r.operation root stand).0 in
        let child : child_width widths d r.operation r.group ≡ Some w = ap (choice_width widths d) r.chosen ∙ known in
        let same = same_width (place_width d r.place) (child_width widths d r.operation r.group) place.0 w place.1 child apart in
        let some = place.2 in
        omega (arith, same, some)

-- instructions of a description that some bytes spell have some bit
pub some_width : (d : DescriptionTree) → IsSound d → IsSpelled d → IsFirstGroupWidth d None → (w : ℕ) → HasWidth d (Some w) → 1 ≤ w
some_width d s spelled first w has =
    let c = has.0 in
    let r = the_root d c has.1 in
    let formed = coding_formed (sections_at d r.operation) (trees.Root r.place r.group) (sections_formed d (well_formed spelled.bytes d spelled.spells) r.operation) r.is in
    group_wide d s first.widths first.exact (cc first.is) c w r ((first.exact (choice_node d c) w).1 has.2) formed.0
