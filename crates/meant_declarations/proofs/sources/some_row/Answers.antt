use Rattle.std.proofs.Common.{sym, subst}
use Rattle.meant_declarations.specs.Sources.{AreSome}
use Rattle.meant_declarations.proofs.Sourced.{are_some}
use Rattle.meant_declarations.proofs.sources.some_row.Goals as goal

pub returns : goal.returns
returns g c =
    let d = g.N.Names.tree c.args.names.now in
    let upper = c.args.upper.now in
    subst (AreSome d c.args.entry) (sym c.in_ok-row.ensures) (are_some d c.args.entry upper.cover upper.rest.items c.requires.around.covered)
