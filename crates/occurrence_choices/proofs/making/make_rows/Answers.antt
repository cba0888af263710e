use Rattle.std.proofs.Common.{◌≡◌, ◌+◌, ◌∙◌, Some, length, sym, ap, subst, arith}
use Rattle.scene_paths.specs.coding_tables.Instructions.{form_count}
use Rattle.scene_paths.specs.Lookups.{tree_of}
use Rattle.scene_paths.proofs.Decoding.{forms_counted}
use Rattle.occurrence_choices.specs.Standings.{HasStandings}
use Rattle.occurrence_choices.proofs.Rows.{AreMade, one_made, all_made}
use Rattle.occurrence_choices.proofs.making.make_rows.Goals as goal

pub stand_all-requires-clause-form : goal.stand_all-requires-clause-form
stand_all-requires-clause-form c =
    let counted = forms_counted (tree_of c.args.described.now) c.forms-forms.result.now.forms.items c.forms-forms.ensures.all_forms in
    let low = c.each-test.true in
    let all = c.count-form-end.ensures.is in
    omega (arith, counted, low, all)

pub make_row-requires : goal.make_row-requires
make_row-requires c = c.requires.count ∙ ap length (sym c.forms-forms.ensures.all_occurrences)

pub each-preserved : goal.each-preserved
each-preserved c =
    let d = tree_of c.args.described.now in
    let stand = subst (HasStandings d (Some c.each.form)) (sym c.deref.ensures.value) c.in_ok-stand_all.ensures in
    subst (AreMade d (c.each.form + 1)) (sym c.in_ok-push.ensures.items)
    (one_made d c.each.form c.each.rows.items c.in_ok-make_row.field-0 c.each.invariant (c.in_ok-make_row.ensures d (Some c.each.form) c.forms-forms.ensures stand))

pub returns : goal.returns
returns c =
    let d = tree_of c.args.described.now in
    let counted = forms_counted d c.forms-forms.result.now.forms.items c.forms-forms.ensures.all_forms in
    let past = c.each-test.false in
    let most = c.each.auto.form-end in
    let count = c.count-form-end.ensures.is in
    let all : c.each.form ≡ form_count d = omega (arith, counted, past, most, count) in
    all_made d c.each.form c.each.rows.items c.each.invariant all
