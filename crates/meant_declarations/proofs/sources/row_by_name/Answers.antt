use Rattle.std.proofs.Common.{◌&&◌, ℕ, List, ap, sym, subst, ◌∙◌}
use Rattle.lisa_tree.specs.Declarations.{owner_at}
use Rattle.graph_paths.specs.Paths.{is_in}
use Rattle.meant_declarations.specs.Meanings.{declared_by}
use Rattle.meant_declarations.specs.Sources.{AreSome}
use Rattle.meant_declarations.specs.Declaring.{has, AreDeclaring}
use Rattle.meant_declarations.proofs.Sourced.{are_declaring, declaring_are_some}
use Rattle.meant_declarations.proofs.sources.row_by_name.Goals as goal

pub returns : goal.returns
returns g c =
    let d = g.N.Names.tree c.args.names.now in
    let i = c.args.entry in
    let n = c.args.name.now in
    let upper = c.args.upper.now in
    let operations = c.in_ok-operations.operations.items in
    let are : AreDeclaring d (owner_at d i) n operations =
    are_declaring d (owner_at d i) n c.args.table.now upper.cover upper.rest.items upper.all operations c.requires.noted c.requires.around
    (λ p. c.in_ok-operations.ensures p ∙ ap (λ (all : List ℕ). is_in p all && has upper.all p) c.noted_for.ensures) in
    subst (AreSome d i) (sym (c.in_ok-row.ensures ∙ ap (declared_by d n) c.deref.ensures.value)) (declaring_are_some d i n operations c.requires.reference c.requires.name are)
