use Rattle.std.proofs.Common.{◌≡◌, ◌∙◌, ℕ, List, sym, ap, subst}
use Rattle.least_fixed_points.specs.Settles.{entry}
use Rattle.lisa_tree.specs.Declarations.{alternatives_at}
use Rattle.coding_tables.specs.Instructions.{below_count}
use Rattle.instruction_forms.specs.declared.picking.Pick.{Pick}
use Rattle.instruction_forms.specs.Picks.{pick, told, picked_form, IsPick}
use Rattle.instruction_forms.proofs.Whole.{top_pick}
use Rattle.instruction_forms.proofs.Numbered.{all_told, picked_shallow}
use Rattle.instruction_forms.proofs.listing.instruction.Goals as goal

pub form-requires-clause-levels : goal.form-requires-clause-levels
form-requires-clause-levels g c =
    let d = g.N.Names.tree c.args.sources.now.names.now in
    let table = entry c.args.sources.now.counts.now in
    let same : c.pick_among-pick.result ≡ pick (below_count d) (alternatives_at d c.args.group) c.args.number 0 = c.pick_among-pick.ensures ∙ ap (λ (ks : List ℕ). pick (told table) ks c.args.number 0) c.alternatives_at-operations.ensures ∙ all_told d table c.args.sources.now.counted c.args.group c.requires.few c.args.number 0 in
    picked_shallow d c.args.group c.args.number c.operation_count.result c.requires.within c.operation_count.ensures c.pick_among-pick.result same

pub form-requires-clause-pick : goal.form-requires-clause-pick
form-requires-clause-pick g c =
    let d = g.N.Names.tree c.args.sources.now.names.now in
    let table = entry c.args.sources.now.counts.now in
    let known = entry c.args.sources.now.widths.now in
    let same : c.pick_among-pick.result ≡ pick (below_count d) (alternatives_at d c.args.group) c.args.number 0 = c.pick_among-pick.ensures ∙ ap (λ (ks : List ℕ). pick (told table) ks c.args.number 0) c.alternatives_at-operations.ensures ∙ all_told d table c.args.sources.now.counted c.args.group c.requires.few c.args.number 0 in
    subst (λ (p : Pick). IsPick known d p) (sym same) (top_pick d c.args.sources.now.acyclic known c.requires.widths c.args.group c.args.number c.requires.wide.0 c.requires.group c.requires.within c.requires.few c.requires.wide.1)

pub returns : goal.returns
returns g c =
    let d = g.N.Names.tree c.args.sources.now.names.now in
    let table = entry c.args.sources.now.counts.now in
    let same : c.pick_among-pick.result ≡ pick (below_count d) (alternatives_at d c.args.group) c.args.number 0 = c.pick_among-pick.ensures ∙ ap (λ (ks : List ℕ). pick (told table) ks c.args.number 0) c.alternatives_at-operations.ensures ∙ all_told d table c.args.sources.now.counted c.args.group c.requires.few c.args.number 0 in
    c.in_ok-form.ensures ∙ ap (picked_form d) same
