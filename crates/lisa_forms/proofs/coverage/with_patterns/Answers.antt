use Rattle.std.proofs.Common.{◌≡◌, ℕ, Bool, List, Option, sym, ◌∙◌, subst}
use Rattle.lisa_tree.specs.Descriptions.{description_tree}
use Rattle.form_patterns.specs.instruction_forms.declared.form.Form.{Form}
use Rattle.form_patterns.specs.instruction_forms.Described.{AreForms}
use Rattle.form_patterns.specs.instruction_forms.Widths.{HasWidth}
use Rattle.pattern_tables.specs.Tables.{HoldPlain}
use Rattle.pattern_tables.specs.declared.bit_pattern.BitPattern.{BitPattern}
use Rattle.form_patterns.specs.Instructions.{ArePatterns}
use Rattle.lisa_forms.proofs.Fielded.{rows_level, rows_inside, rows_fit}
use Rattle.lisa_forms.proofs.coverage.with_patterns.Goals as goal

pub invariant_of-result : goal.invariant_of-result
invariant_of-result c =
    let d = description_tree c.args.machine.now in
    let f = c.args.forms.now in
    let rows = c.in_ok-places.places.items in
    let are = c.in_ok-places.ensures d (subst (λ (all : List Form). AreForms d all) (sym c.forms.ensures.is) c.requires.forms.all_forms) in
    record {
      level = rows_level d f.width c.args.patterns.items c.requires.forms.has_width c.requires.patterns rows are;
      inside = rows_inside d f.width c.args.patterns.items c.requires.forms.has_width c.requires.patterns rows are;
      in_word = rows_fit d f.width c.args.patterns.items c.requires.forms.has_width c.requires.patterns rows are;
    }

pub returns : goal.returns
returns c =
    let d = description_tree c.args.machine.now in
    let f = c.args.forms.now in
    let rows = c.in_ok-places.places.items in
    let plain : c.in_ok-plain.plain.items ≡ f.plain.items = c.in_ok-plain.ensures.items ∙ c.plain.ensures.is in
    record {
      accepted = c.accepted.ensures.accepted;
      has_width = subst (λ (w : Option ℕ). HasWidth d w) (sym c.width.ensures.is) c.requires.forms.has_width;
      all_patterns = subst (λ (w : Option ℕ). ArePatterns d w c.args.patterns.items) (sym c.width.ensures.is) c.requires.patterns;
      all_places = c.in_ok-places.ensures d (subst (λ (all : List Form). AreForms d all) (sym c.forms.ensures.is) c.requires.forms.all_forms);
      all_plain = plain ∙ c.requires.forms.all_plain;
      tables = subst (λ (ps : List BitPattern). HoldPlain ps c.in_ok-plain.plain.items c.in_ok-decoder.decoder) c.deref.ensures.value (subst (λ (bs : List Bool). HoldPlain c.deref.result.now bs c.in_ok-decoder.decoder) c.deref-2.ensures.value c.in_ok-decoder.ensures);
      apart = c.requires.none;
      alias = c.in_ok-uncovered.ensures;
    }
