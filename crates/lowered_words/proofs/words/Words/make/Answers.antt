use Rattle.std.proofs.Common.{◌≡◌, ◌∙◌, List, Option, ℕ, sym, ap, subst}
use Rattle.lisa_tree.specs.Descriptions.{DescriptionTree, description_tree}
use Rattle.instruction_forms.specs.declared.form.Form.{Form}
use Rattle.instruction_forms.specs.Described.{AreForms}
use Rattle.instruction_forms.specs.Widths.{HasWidth}
use Rattle.scene_paths.specs.form_patterns.Instructions.{ArePatterns}
use Rattle.scene_paths.proofs.lisa_forms_proofs.Overlapping.{patterns_are}
use Rattle.lowered_words.proofs.Keeping.{has_ways, has_parts}
use Rattle.lowered_words.proofs.words.Words.make.Goals as goal

pub patterns-requires : goal.patterns-requires
patterns-requires c =
    let d = description_tree c.args.described.now in
    let own = description_tree c.in_ok-tables.tables.globals.description.now in
    let same : own ≡ d = c.in_ok-tables.ensures ∙ ap description_tree c.description.ensures ∙ sym c.requires.same in
    record { forms = subst (λ (fs : List Form). AreForms own fs) (sym c.forms.ensures.is) (subst (λ (t : DescriptionTree). AreForms t c.forms-forms.result.now.forms.items) (sym same) c.forms-forms.ensures.all_forms) }

pub choices-requires-clause-same : goal.choices-requires-clause-same
choices-requires-clause-same c = c.in_ok-tables.ensures ∙ ap description_tree c.description.ensures ∙ sym c.requires.same

pub choices-requires-clause-ways : goal.choices-requires-clause-ways
choices-requires-clause-ways c =
    let d = description_tree c.args.described.now in
    has_ways d c.in_ok-table.table.links.keys c.in_ok-table.table.parts.items (c.in_ok-table.ensures d c.forms-forms.ensures)

pub invariant_of-result : goal.invariant_of-result
invariant_of-result c =
    let d = description_tree c.args.described.now in
    let own = description_tree c.in_ok-tables.tables.globals.description.now in
    let same : own ≡ d = c.in_ok-tables.ensures ∙ ap description_tree c.description.ensures ∙ sym c.requires.same in
    let held = c.in_ok-table.ensures d c.forms-forms.ensures in
    let ps = c.in_ok-patterns.patterns.items in
    let are = subst (λ (t : DescriptionTree). (width : Option ℕ) → HasWidth t width → ArePatterns t width ps) same c.in_ok-patterns.ensures in
    record {
      ways = has_ways d c.in_ok-table.table.links.keys c.in_ok-table.table.parts.items held;
      parts = has_parts d c.in_ok-table.table.links.keys c.in_ok-table.table.parts.items held c.requires.width.0 c.requires.width.1 c.accepted.ensures;
      bits = patterns_are d c.forms-forms.result.now.width ps (are c.forms-forms.result.now.width c.forms-forms.ensures.has_width);
      chosen = c.in_ok-choices.ensures;
    }
