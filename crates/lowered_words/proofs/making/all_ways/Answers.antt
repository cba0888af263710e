use Rattle.std.proofs.Common.{◌≡◌, ◌<◌, ◌∙◌, ◌+◌, List, length, true, false, refl, sym, ap, subst, arith}
use Rattle.instruction_forms.specs.coding_tables.Instructions.{forms_of}
use Rattle.instruction_forms.specs.declared.form.Form.{Form}
use Rattle.instruction_forms.specs.declared.form.Form.TheViews.{out-Form}
use Rattle.instruction_forms.specs.Described.{AreForms}
use Rattle.scene_paths.specs.form_patterns.Instructions.{instruction_plain}
use Rattle.scene_paths.proofs.lisa_forms_proofs.Patterned.{forms_level}
use Rattle.lowered_words.specs.declared.table.Table.{Table}
use Rattle.lowered_words.specs.Ways.{Whole, form_ways}
use Rattle.lowered_words.specs.Tables.{Holds}
use Rattle.lowered_words.proofs.Keeping.{ways_before, form_enters, form_entered, form_skipped, all_held}
use Rattle.lowered_words.proofs.Writing.{plain_at, tree_at_number}
use Rattle.lowered_words.proofs.making.all_ways.Goals as goal
use Rattle.lowered_words.proofs.making.all_ways.Goals.{then-plain-number+in_ok-enter_part, else-plain-number}

pub loop-number-preserved : goal.loop-number-preserved
loop-number-preserved c = λ d are.
    let i = c.loop-number.number in
    let all = c.forms-all.result.now in
    let form = c.index-all-number.result in
    let o = (out-Form form).operation in
    let inside : i < length (forms_of d) = (let t = c.loop-number-test.true in let a = ap length c.forms-all.ensures.is in let b = forms_level d c.args.forms.now are in omega (arith, t, a, b)) in
    let plain : c.plain-plain.result.now ≡ instruction_plain d = c.plain-plain.ensures.is ∙ are.all_plain in
    let are_forms : AreForms d all = subst (λ (fs : List Form). AreForms d fs) (sym c.forms-all.ensures.is) are.all_forms in
    let tree = tree_at_number d i inside all form are_forms c.loop-number-test.true c.index-all-number.is in
    let before = c.loop-number.invariant d are in
    let now = c.loop-number.table in
    elim c.if-plain-number.branch [
      | then-plain-number+in_ok-enter_part w ↦
          (let holds = plain_at d (form_ways d) i inside c.plain-plain.result.now _ true plain w.if-plain-number.true in
          let after = w.enter_part.new.self in
          subst (λ (t : Table). Holds d (ways_before d (i + 1)) t.links.keys t.parts.items) (sym w.table-is)
          (form_entered d i inside after.links.keys after.parts.items form o tree refl holds
          (w.in_ok-enter_part.ensures d (ways_before d i) (Whole o) (form_enters d i inside now.links.keys now.parts.items form o before tree refl holds))))
      | else-plain-number w ↦
          (let fails = plain_at d (form_ways d) i inside c.plain-plain.result.now _ false plain w.if-plain-number.false in
          subst (λ (t : Table). Holds d (ways_before d (i + 1)) t.links.keys t.parts.items) (sym w.table-is) (form_skipped d i inside now.links.keys now.parts.items fails before))
    ]

pub returns : goal.returns
returns c = λ d are.
    all_held d c.loop-number.number c.loop-number.table.links.keys c.loop-number.table.parts.items
    (let t = c.loop-number-test.false in let a = ap length c.forms-all.ensures.is in let b = forms_level d c.args.forms.now are in omega (arith, t, a, b))
    (c.loop-number.invariant d are)
