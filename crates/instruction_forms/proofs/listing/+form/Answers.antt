use Rattle.std.proofs.Common.{◌≡◌, ◌<◌, ◌-◌, ◌∙◌, map, sym, ap, arith, subst}
use Rattle.std.specs.Prelude.{slice_index_or}
use Rattle.std.specs.List.{AllByRecursion}
use Rattle.least_fixed_points.specs.Settles.{entry}
use Rattle.instruction_forms.specs.declared.picking.Pick.{Pick}
use Rattle.instruction_forms.specs.Trees.{form_tree}
use Rattle.instruction_forms.specs.Picks.{picked_form}
use Rattle.instruction_forms.proofs.Views.{tree_of_parts}
use Rattle.instruction_forms.proofs.Whole.{IsChild, good_children, next_shallow, some_levels, is_there, child_at, all_taken, made_whole}
use Rattle.instruction_forms.proofs.listing.+form.Goals as goal

pub fields-requires-clause-there : goal.fields-requires-clause-there
fields-requires-clause-there g t c = is_there (g.N.Names.tree c.args.sources.now.names.now) c.args.pick.operation c.args.levels c.requires.levels

pub picks-requires-clause-there : goal.picks-requires-clause-there
picks-requires-clause-there g t c = is_there (g.N.Names.tree c.args.sources.now.names.now) c.args.pick.operation c.args.levels c.requires.levels

pub overflow_sub-levels : goal.overflow_sub-levels
overflow_sub-levels g t c = let s = some_levels (g.N.Names.tree c.args.sources.now.names.now) c.args.pick.operation c.args.levels c.requires.levels in omega (arith, s)

pub form-requires : goal.form-requires
form-requires g t c κs within =
    let d = g.N.Names.tree c.args.sources.now.names.now in
    let known = entry c.args.sources.now.widths.now in
    let o = c.args.pick.operation in
    let acyclic = c.args.sources.now.acyclic in
    let is : c.deref-child-items.result.now ≡ c.in_ok-picks.picks.items = c.deref-child-items.ensures.value in
    let listed = good_children d acyclic known c.requires.wide c.args.pick (is_there d o c.args.levels c.requires.levels) c.requires.pick in
    let P : Pick → Type 0 = λ q. IsChild d acyclic known c.requires.wide o q in
    let all = subst (AllByRecursion P) (sym (is ∙ c.in_ok-picks.ensures)) listed in
    let child = child_at P c.deref-child-items.result.now c.loop-child.child-index (record { operation = 0; number = 0; low = 0 }) all c.loop-child-test.true in
    let some = some_levels d o c.args.levels c.requires.levels in
    let falls = c.decreases in
    let less : c.args.levels - 1 < t = omega (arith, some, falls) in
    (less, (within, (c.requires.wide, (next_shallow d acyclic known c.requires.wide o c.args.levels c.requires.levels (slice_index_or c.deref-child-items.result.now c.loop-child.child-index (record { operation = 0; number = 0; low = 0 })) child, child.good))))

pub returns : goal.returns
returns g t c =
    let d = g.N.Names.tree c.args.sources.now.names.now in
    let known = entry c.args.sources.now.widths.now in
    let p = c.args.pick in
    let here = is_there d p.operation c.args.levels c.requires.levels in
    let picks = c.deref-child-items.result.now in
    let is = c.deref-child-items.ensures.value ∙ c.in_ok-picks.ensures in
    let made = c.loop-child.invariant ∙ ap (map (picked_form d)) (all_taken picks c.loop-child.child-index c.loop-child-test.false) in
    tree_of_parts (record { operation = c.in_ok-operation.operation; children = c.loop-child.children; fields = c.in_ok-fields.fields })
    ∙ made_whole d c.args.sources.now.acyclic known c.requires.wide p here c.requires.pick c.in_ok-operation.operation c.in_ok-operation.ensures picks is (map form_tree c.loop-child.children.items) made c.in_ok-fields.fields.items c.in_ok-fields.ensures
