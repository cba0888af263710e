-- What names, elements and fields stand for is well formed.
use Rattle.std.proofs.Common.{◌≡◌, ◌∙◌, ℕ, List, Option, None, Some, refl, sym, subst, arith}
use Rattle.std.specs.Prelude.{slice_get}
use Rattle.std.specs.Map.{lookup}
use Rattle.lisa_tree.specs.declared.tokens.Shape.{Shape}
use Rattle.lisa_tree.specs.Descriptions as trees
use Rattle.lisa_tree.specs.Descriptions.{ResourceTree, DescriptionTree}
use Rattle.lisa_tree.specs.declared.declared.Meaning.{Meaning}
use Rattle.lisa_tree.specs.declared.declared.Meaning.TheVariants as meanings
use Rattle.lisa_tree.specs.Same.{same_name}
use Rattle.lisa_tree.specs.Resources.{stage_at}
use Rattle.lisa_tree.specs.Operations.{own_stage}
use Rattle.lisa_tree.specs.Meanings.{meaning}
use Rattle.meaning_promises.specs.lisa_machine.Verdicts.{IsAccepted}
use Rattle.meaning_promises.specs.lisa_machine.Resolving.{FitsResource}
use Rattle.meaning_promises.specs.machine_parts.Parts.{item, pin_in, register_in}
use Rattle.step_program.specs.Programs.{Program, Before}
use Rattle.scene_paths.specs.lisa_meaning.Values.{Array, register_place, pin_place, named_array, field_place, shape_at, stage_before}
use Rattle.meaning_promises.proofs.Fitted.{placed}
use Rattle.lowered_values.specs.Operands.{Operand, IsOperand}
use Rattle.lowered_values.specs.Sources.{AreCells}
use Rattle.lowered_statements.specs.Scopes.{Local, Scope, IsScope}
use Rattle.lowered_resources.specs.Places.{Places, IsThere, ArePlaced}
use Rattle.lowered_resources.specs.Reading.{Known, absent, resource_operand, cells_of, field_operand, boundary_operand, meant_operand, name_operand}
use Rattle.lowered_resources.specs.Laws.{FormResources}
use Rattle.lowered_resources.proofs.Depths.{tells}
use Rattle.lowered_resources.proofs.Locals.{in_scope}
use Rattle.lowered_resources.proofs.Standing.{before_there, field_wide, IsArray, fits, shape_sized, named_is, register_there, pin_there, array_there}

module _ (d : DescriptionTree) (accepted : IsAccepted d) (places : Places) (p : Program) (first lasts : ℕ) (are : ArePlaced d places p first lasts) where
  -- ---- arrays

  pub cells_there : (a : Array) → IsArray d a → AreCells p (cells_of (Some a))
  cells_there a is =
      let there = array_there d places p first lasts are a is in
      let t = tells a.depth is.depth in
      record { there = there.0; wide = there.1; sized = is.sized; deep = there.2 ∙ t.is; index = (t.least, t.most) }

  module _ (from : ℕ) where
    abbrev Is : Operand → Type 0
    Is x = IsOperand p from x

    absent_is : Is absent
    absent_is = record { fits = ((omega arith, omega arith), omega arith); low = tt; wide = refl; sized = (omega arith, omega arith) }

    -- ---- resources

    resource_is : (k : ℕ) (r : Option ResourceTree) → slice_get d.resources k ≡ r → Is (resource_operand d k r)
    resource_is k None e = absent_is
    resource_is k (Some (trees.Register word shape name None)) e =
        let fit : FitsResource (trees.Register word shape name None) = fits d accepted k (trees.Register word shape name None) e in
        let there = register_there d places p first lasts are (register_place d k) (item shape name) (placed register_in d.resources k (trees.Register word shape name None) (item shape name) e refl) in
        record { fits = there.0; low = tt; wide = there.1; sized = fit.0 }
    resource_is k (Some (trees.Register word shape name (Some depth))) e = absent_is
    resource_is k (Some (trees.Clocked word shape name)) e =
        let fit : FitsResource (trees.Clocked word shape name) = fits d accepted k (trees.Clocked word shape name) e in
        let there = register_there d places p first lasts are (register_place d k) (item shape name) (placed register_in d.resources k (trees.Clocked word shape name) (item shape name) e refl) in
        record { fits = there.0; low = tt; wide = there.1; sized = fit }
    resource_is k (Some (trees.Memory word shape name depth)) e = absent_is
    resource_is k (Some (trees.Pin shape name)) e =
        let fit : FitsResource (trees.Pin shape name) = fits d accepted k (trees.Pin shape name) e in
        let there = pin_there d places p first lasts are (pin_place d k) (item shape name) (placed pin_in d.resources k (trees.Pin shape name) (item shape name) e refl) in
        record { fits = there.0; low = tt; wide = there.1; sized = fit }
    resource_is k (Some (trees.Pipeline name stages)) e = absent_is
    resource_is k (Some (trees.Fields pipe fields)) e = absent_is

    element_is : (o : ℕ) (n : List ℕ) (a : Array) → named_array d o n ≡ Some a → AreCells p (cells_of (named_array d o n))
    element_is o n a e = subst (λ (r : Option Array). AreCells p (cells_of r)) (sym e) (cells_there a (named_is d accepted o n a e))

    -- ---- boundaries

    boundary_is : (stage field : Option ℕ) → IsThere d stage field → Is (boundary_operand d places stage field)
    boundary_is None field there = absent_is
    boundary_is (Some s) None there = absent_is
    boundary_is (Some s) (Some f) there = by (shape_at d f) refl
      where
        by : (r : Option Shape) → shape_at d f ≡ r → Is (field_operand r (Before (places.field s f)))
        by None e = absent_is
        by (Some shape) e =
            let has = there s f refl refl in
            record { fits = are.field_there s f has; low = tt; wide = are.field_wide s f has ∙ field_wide d f shape e; sized = shape_sized d accepted f shape e }

    -- ---- names

    module _ (known : Known) (o : ℕ) (scope : Scope) (is : IsScope p lasts from scope) where
      meant_is : (n : List ℕ) (w : Meaning) → ((i : ℕ) → w ≡ meanings.Declared i → Is (known.named n)) → Is (meant_operand d known n w)
      meant_is n meanings.Nothing declared = absent_is
      meant_is n (meanings.Resource k) declared = resource_is k (slice_get d.resources k) refl
      meant_is n (meanings.Declared i) declared = declared i refl

      name_is : (n : List ℕ) (other : Operand) → (lookup (same_name n) scope ≡ None → Is other) → Is (name_operand (lookup (same_name n) scope) other)
      name_is n other h = by (lookup (same_name n) scope) refl
        where
          by : (r : Option Local) → lookup (same_name n) scope ≡ r → Is (name_operand r other)
          by None e = h e
          by (Some l) e = let r = in_scope p n l lasts from scope is e in record { fits = r.there; low = r.below; wide = r.wide; sized = r.sized }

      pub formed : FormResources d places p known o from scope
      formed = record {
        named = λ n declared. name_is n (meant_operand d known n (meaning d o n)) (λ none. meant_is n (meaning d o n) (λ i e. declared (none, (i, e))));
        element = λ n a e. element_is o n a e;
        input = λ field. boundary_is (stage_before (own_stage d o)) (field_place d field) (before_there d o field);
        boundary = λ pipe before after field there. boundary_is (stage_at d before) (field_place d field) there;
      }
