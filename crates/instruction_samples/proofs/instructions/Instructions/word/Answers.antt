use Rattle.lisa_tree.specs.Descriptions.{description_tree}
use Rattle.instruction_samples.proofs.instructions.Instructions.word.Goals as goal

pub encode-requires : goal.encode-requires
encode-requires c =
    let d = description_tree c.args.self.now.machine in
    record { values = (d, c.requires, (c.fits.ensures d c.requires).0 c.if-not-fits.false) }
