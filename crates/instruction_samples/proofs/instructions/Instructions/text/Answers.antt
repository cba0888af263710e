use Rattle.lisa_tree.specs.Descriptions.{description_tree}
use Rattle.instruction_samples.proofs.instructions.Instructions.text.Goals as goal

pub text_of-requires : goal.text_of-requires
text_of-requires c =
    let d = description_tree c.args.self.now.machine in
    record { values = (d, c.requires.syntax, (c.fits.ensures d c.requires.coding).0 c.if-not-fits.false) }
