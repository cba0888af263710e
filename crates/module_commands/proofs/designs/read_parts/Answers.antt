use Rattle.std.proofs.Common.{refl}
use Rattle.lisa_outcomes.specs.RunViews.{bytes_of}
use Rattle.module_commands.proofs.Designed.{unread_design, imageless_design, whole_design}
use Rattle.module_commands.proofs.designs.read_parts.Goals as goal

pub returns-in-Err-clause-finds : goal.returns-in-Err-clause-finds
returns-in-Err-clause-finds c = unread_design (bytes_of c.args.bytes.now) c.in-Err.end c.in-Err.ensures.finds

pub returns-in-Ok-image_of-clause-finds : goal.returns-in-Ok-image_of-clause-finds
returns-in-Ok-image_of-clause-finds c =
    whole_design (bytes_of c.args.bytes.now) c.in-Ok.clocked c.in-Ok-image_of.image _ c.in-Ok.ensures.finds c.in-Ok-image_of.ensures refl c.memories.ensures

pub returns-in-Err-image_of-clause-finds : goal.returns-in-Err-image_of-clause-finds
returns-in-Err-image_of-clause-finds c =
    imageless_design (bytes_of c.args.bytes.now) c.in-Ok.clocked c.in-Err-image_of.end c.in-Ok.ensures.finds c.in-Err-image_of.ensures
