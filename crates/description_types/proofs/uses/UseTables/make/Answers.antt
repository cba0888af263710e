use Rattle.description_types.proofs.MeantMarks.{each_trait}
use Rattle.description_types.proofs.uses.UseTables.make.Goals as goal

pub returns : goal.returns
returns g c =
    each_trait (g.N.Names.tree c.args.names.now) _ c.in_ok-having.ensures c.in_ok-having-2.ensures c.in_ok-having-3.ensures c.in_ok-having-4.ensures c.in_ok-having-5.ensures c.in_ok-having-6.ensures c.in_ok-having-7.ensures c.in_ok-having-8.ensures c.in_ok-having-9.ensures
