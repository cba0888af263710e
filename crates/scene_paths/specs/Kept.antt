-- What is kept of a description.
use Rattle.std.specs.Prelude.{ℕ, ◌≡◌, List, Option, option_map}
use Rattle.lisa_tree.specs.declared.tokens.Shape.{Shape}
use Rattle.lisa_tree.specs.Expressions.{ExprTree}
use Rattle.lisa_tree.specs.Descriptions.{DescriptionTree}
use Rattle.lisa_tree.specs.Resources as resources
use Rattle.lisa_meaning.specs.description_sizes.Texts as texts
use Rattle.lisa_meaning.specs.coding_tables.Instructions.{first_root}
use Rattle.lisa_meaning.specs.lisa_machine.Verdicts.{IsAccepted}
use Rattle.lisa_meaning.specs.lisa_forms.declared.forms.Forms.{Forms}
use Rattle.lisa_meaning.specs.lisa_forms.Parts.{AreFormsOf}
use Rattle.lisa_meaning.specs.lisa_forms.declared.coding.Coding.{Coding}
use Rattle.lisa_meaning.specs.lisa_forms.Codings.{IsCodingOf}
use Rattle.lisa_meaning.specs.Values.{field_place}
use Rattle.scene_paths.specs.declared.before.Before.{Before}
use Rattle.scene_paths.specs.Places.{ArePlaces}
use Rattle.scene_paths.specs.Conditions.{all_conditions}

-- its forms and its coding, and for look-ups: where its resources stand, the fields of its boundaries with their places, the conditions of
-- its activations, the operation that has the root, and how many levels paths have
pub record IsKept (d : DescriptionTree) (forms : Forms) (coding : Coding) (places : List Before) (boundary : List (Shape × List ℕ)) (place : List ℕ → Option ℕ) (conditions : List (List ExprTree)) (root : Option ℕ) (levels : ℕ) : Type 0 where
  pub accepted : IsAccepted d
  pub of_forms : AreFormsOf d forms
  pub of_coding : IsCodingOf d coding
  pub of_places : ArePlaces d places
  pub of_boundary : boundary ≡ resources.fields d
  pub of_fields : (n : List ℕ) → place n ≡ field_place d n
  pub of_conditions : conditions ≡ all_conditions d.operations
  pub of_root : root ≡ option_map (λ found. found.operation) (first_root d)
  pub of_levels : levels ≡ texts.levels d
