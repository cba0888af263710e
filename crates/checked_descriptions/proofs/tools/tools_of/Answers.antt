use Rattle.lisa_tree.specs.Descriptions.{description_tree}
use Rattle.checked_descriptions.proofs.Tooled.{tools_find, faulty_finds}
use Rattle.checked_descriptions.proofs.tools.tools_of.Goals as goal

pub returns-in-Ok-clause-finds : goal.returns-in-Ok-clause-finds
returns-in-Ok-clause-finds c = tools_find (description_tree c.args.description) c.in-Ok.tools c.in-Ok.ensures.machine c.in-Ok.ensures.tools

pub returns-in-Err-clause-finds : goal.returns-in-Err-clause-finds
returns-in-Err-clause-finds c = rw c.unread.ensures (faulty_finds (description_tree c.args.description) c.in-Err.fault c.in-Err.ensures.fault)
