use Rattle.text_tables.proofs.Relating.{of_shared}
use Rattle.text_tables.proofs.relations.Relations.of_parts.Goals as goal

pub returns-in-Shared-Shared : goal.returns-in-Shared-Shared
returns-in-Shared-Shared c = of_shared c.args.shared.now c.args.one.now c.args.other.now _ _ c.of_lists.result c.in-Shared-Shared.is-0 c.in-Shared-Shared.is-1 (c.of_lists.ensures _ c.requires)
