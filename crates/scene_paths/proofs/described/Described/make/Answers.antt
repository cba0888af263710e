use Rattle.std.proofs.Common.{◌∙◌, List, ℕ, sym, ap, subst}
use Rattle.std.specs.Prelude.{position, option_map}
use Rattle.lisa_tree.specs.declared.tokens.Shape.{Shape}
use Rattle.lisa_tree.specs.declared.descriptions.Description.{Description}
use Rattle.lisa_tree.specs.Descriptions.{DescriptionTree, description_tree}
use Rattle.lisa_tree.specs.Same.{same_name}
use Rattle.lisa_meaning.specs.description_sizes.Texts as texts
use Rattle.lisa_meaning.specs.coding_tables.Instructions.{first_root}
use Rattle.lisa_meaning.specs.lisa_machine.Verdicts.{IsAccepted}
use Rattle.lisa_meaning.specs.lisa_forms.Parts.{AreFormsOf}
use Rattle.lisa_meaning.specs.lisa_forms.Codings.{IsCodingOf}
use Rattle.scene_paths.proofs.Moved.{kept_of}
use Rattle.scene_paths.proofs.described.Described.make.Goals as goal

pub invariant_of-result : goal.invariant_of-result
invariant_of-result c =
    let d = description_tree c.description-description.result.now in
    let own = description_tree c.in_ok-tables.tables.tables.globals.description.now in
    kept_of d own (sym c.in_ok-tables.ensures.same) (record {
      accepted = subst (λ (x : Description). IsAccepted (description_tree x)) (sym c.description-description.ensures) c.accepted.ensures.accepted;
      of_forms = subst (λ (x : Description). AreFormsOf (description_tree x) c.args.forms.now) (sym c.description-description.ensures) c.requires.forms;
      of_coding = subst (λ (x : Description). IsCodingOf (description_tree x) c.args.coding.now) (sym c.description-description.ensures) c.requires.coding;
      of_places = c.in_ok-places.ensures;
      of_boundary = c.boundary_of-boundary.ensures;
      of_fields = λ n. c.in_ok-fields.ensures n ∙ ap (λ (all : List (Shape × List ℕ)). position (λ (f : Shape × List ℕ). same_name n f.1) all) c.boundary_of-boundary.ensures;
      of_conditions = c.in_ok-conditions.ensures;
      of_root = c.first_root-root.ensures ∙ ap (λ (t : DescriptionTree). option_map (λ found. found.operation) (first_root t)) c.in_ok-tables.ensures.same;
      of_levels = c.in_ok-levels.ensures ∙ ap texts.levels c.in_ok-tables.ensures.same;
    })
