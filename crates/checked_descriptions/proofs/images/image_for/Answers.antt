use Rattle.lisa_tree.specs.Descriptions.{description_tree}
use Rattle.lisa_outcomes.specs.RunViews.{bytes_of}
use Rattle.checked_descriptions.proofs.Imaging.{stamped_finds, imageless_finds, unread_finds, kept_image}
use Rattle.checked_descriptions.proofs.images.image_for.Goals as goal

pub returns-in-Err-clause-finds : goal.returns-in-Err-clause-finds
returns-in-Err-clause-finds c = unread_finds (description_tree c.args.description.now) (bytes_of c.args.bytes.now).image c.in-Err.end c.in-Err.ensures

pub returns-in-Some-clause-finds : goal.returns-in-Some-clause-finds
returns-in-Some-clause-finds c =
    stamped_finds (description_tree c.args.description.now) (bytes_of c.args.bytes.now).image c.in-Some.stamped (rw c.in-Some.is at c.in-Ok.ensures) c.memories_for.result c.memories_for.ensures.finds

pub returns-in-Some-clause-kept : goal.returns-in-Some-clause-kept
returns-in-Some-clause-kept c =
    kept_image (description_tree c.args.description.now) (bytes_of c.args.bytes.now).image c.in-Some.stamped c.memories_for.result (rw c.in-Some.is at c.in-Ok.ensures) c.memories_for.ensures.finds

pub returns-in-None-clause-finds : goal.returns-in-None-clause-finds
returns-in-None-clause-finds c =
    imageless_finds (description_tree c.args.description.now) (bytes_of c.args.bytes.now).image _ (rw c.in-None.is at c.in-Ok.ensures) c.memories.ensures
