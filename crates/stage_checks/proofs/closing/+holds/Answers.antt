use Rattle.std.proofs.Common.{◌∙◌, sym}
use Rattle.stage_checks.proofs.Items.{holds-Block}
use Rattle.stage_checks.proofs.closing.+holds.Goals as goal

pub holds-returns-in-Block : goal.holds-returns-in-Block
holds-returns-in-Block t c = c.any_holds.ensures ∙ sym (holds-Block c.args.statement.now c.in-Block.all c.deref.result.now c.in-Block.is c.deref.ensures.value)
