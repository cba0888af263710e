use Rattle.std.proofs.Common.{List, length, ap, subst, ◌∙◌}
use Rattle.lisa_tree.specs.Descriptions.{DescriptionTree, description_tree}
use Rattle.scene_paths.specs.activation_trees.declared.parts.Occurrence.{Occurrence}
use Rattle.scene_paths.specs.activation_trees.Unfolding.{occurrences}
use Rattle.scene_paths.specs.lisa_forms.Parts.{AreFormsOf}
use Rattle.scene_paths.proofs.Decoding.{found_is, decoded_within}
use Rattle.occurrence_choices.specs.Choices.{AreRows}
use Rattle.occurrence_choices.proofs.choices.Choices.make.Goals as goal

pub make_rows-requires-clause-count : goal.make_rows-requires-clause-count
make_rows-requires-clause-count c = ap (λ (all : List Occurrence). length all) (c.occurrences-count.ensures.is ∙ c.forms-forms.ensures.all_occurrences)

pub invariant_of-result : goal.invariant_of-result
invariant_of-result c =
    let d = description_tree c.args.machine.now in
    let forms = c.forms-forms.result.now in
    record {
      of_coding = λ w found answers. found_is d c.args.coding.now c.requires.coding w found answers;
      inside = λ w found answers. decoded_within d w found (answers d c.requires.coding);
      of_count = ap (λ (all : List Occurrence). length all) (c.occurrences-count.ensures.is ∙ c.forms-forms.ensures.all_occurrences ∙ ap (λ (t : DescriptionTree). occurrences t) c.requires.same);
      of_formless = c.in_ok-formless.ensures d (subst (λ (t : DescriptionTree). AreFormsOf t forms) c.requires.same c.forms-forms.ensures);
      of_rows = subst (λ (t : DescriptionTree). AreRows t c.in_ok-rows.rows.items) c.requires.same c.in_ok-rows.ensures;
      within = c.form_of_word-form.ensures.within d c.requires.coding;
      of_form = c.form_of_word-form.ensures.form d c.requires.coding;
    }
