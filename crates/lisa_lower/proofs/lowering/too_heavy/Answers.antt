use Rattle.std.proofs.Common.{inr}
use Rattle.lisa_tree.specs.Descriptions.{description_tree}
use Rattle.lisa_lower.proofs.Weighing.{heavy_is}
use Rattle.lisa_lower.proofs.lowering.too_heavy.Goals as goal

pub returns-in-Ok : goal.returns-in-Ok
returns-in-Ok c = inr (heavy_is (description_tree c.args.machine.now) _ _ c.requires.heavy c.requires.weight c.in-Ok.ensures)
