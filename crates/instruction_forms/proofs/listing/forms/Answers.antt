use Rattle.std.proofs.Common.{◌≡◌, ◌∙◌, [], ◌∷◌, Some, map, sym, ap, arith}
use Rattle.std.proofs.lemmas.List.{map-append}
use Rattle.least_fixed_points.specs.Settles.{entry}
use Rattle.coding_tables.specs.Instructions.{instruction_choice}
use Rattle.coding_tables.proofs.Counted.{choice_within}
use Rattle.instruction_forms.specs.Trees.{form_tree}
use Rattle.instruction_forms.proofs.Numbered.{count_of, one_more, all_made, told_forms}
use Rattle.instruction_forms.proofs.listing.forms.Goals as goal

pub instruction-requires-clause-group : goal.instruction-requires-clause-group
instruction-requires-clause-group g c = choice_within (g.N.Names.tree c.args.names.now) c.in-Some.group (sym c.instruction_choice.ensures ∙ c.in-Some.is)

pub instruction-requires-clause-within : goal.instruction-requires-clause-within
instruction-requires-clause-within g c =
    let d = g.N.Names.tree c.args.names.now in
    let is : instruction_choice d ≡ Some c.in-Some.group = sym c.instruction_choice.ensures ∙ c.in-Some.is in
    let all = c.of_choice-number-end.ensures ∙ told_forms d c.in-Some.group is (entry c.in_ok-counts.counts) c.in_ok-counts.ensures (choice_within d c.in-Some.group is) c.requires.few in
    let test = c.loop-number-test.true in
    omega (arith, all, test)

pub instruction-requires-clause-few : goal.instruction-requires-clause-few
instruction-requires-clause-few g c =
    let d = g.N.Names.tree c.args.names.now in
    let is : instruction_choice d ≡ Some c.in-Some.group = sym c.instruction_choice.ensures ∙ c.in-Some.is in
    let count = count_of d c.in-Some.group is in
    let few = c.requires.few in
    omega (arith, count, few)

pub loop-number-preserved : goal.loop-number-preserved
loop-number-preserved g c =
    let d = g.N.Names.tree c.args.names.now in
    let is : instruction_choice d ≡ Some c.in-Some.group = sym c.instruction_choice.ensures ∙ c.in-Some.is in
    let all = c.of_choice-number-end.ensures ∙ told_forms d c.in-Some.group is (entry c.in_ok-counts.counts) c.in_ok-counts.ensures (choice_within d c.in-Some.group is) c.requires.few in
    let test = c.loop-number-test.true in
    ap (map form_tree) c.in_ok-push.ensures.items
    ∙ map-append form_tree c.loop-number.all.items (c.in_ok-form.form ∷ [])
    ∙ one_more d c.in-Some.group is (map form_tree c.loop-number.all.items) (form_tree c.in_ok-form.form) c.loop-number.number (omega (arith, all, test)) c.in_ok-form.ensures c.loop-number.invariant

pub returns : goal.returns
returns g c =
    let d = g.N.Names.tree c.args.names.now in
    let is : instruction_choice d ≡ Some c.in-Some.group = sym c.instruction_choice.ensures ∙ c.in-Some.is in
    let all = c.of_choice-number-end.ensures ∙ told_forms d c.in-Some.group is (entry c.in_ok-counts.counts) c.in_ok-counts.ensures (choice_within d c.in-Some.group is) c.requires.few in
    let test = c.loop-number-test.false in
    let most = c.loop-number.auto.number-end in
    c.loop-number.invariant ∙ all_made d c.in-Some.group is c.loop-number.number (omega (arith, all, test, most))
