use Rattle.std.proofs.Common.{◌∙◌}
use Rattle.name_tables.proofs.Places.{any_found}
use Rattle.name_tables.proofs.sets.NameSet.contains.Goals as goal

pub returns : goal.returns
returns c = c.is_some.ensures ∙ any_found c.args.self.now.keys.items c.args.name.now c.get.result _ c.get.ensures.value (c.args.self.now.placed c.args.name.now)
