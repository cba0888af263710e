use Rattle.lisa_tree.specs.Descriptions.{description_tree}
use Rattle.generated_programs.proofs.Programmed.{chosen_from}
use Rattle.generated_programs.proofs.generating.program.Goals as goal

pub make-requires-clause-some : goal.make-requires-clause-some
make-requires-clause-some c =
    let d = description_tree c.args.machine.now in
    chosen_from d c.requires.syntax.accepted c.requires.covered c.args.memory.now c.requires.memory
