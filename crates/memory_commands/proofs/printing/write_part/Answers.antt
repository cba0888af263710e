use Rattle.std.proofs.Common.{arith, sym}
use Rattle.std.proofs.Math.Pow.{pow_mono}
use Rattle.std.proofs.lemmas.List.Elements.{recursion_from_All}
use Rattle.lisa_engine.specs.Images.{is_array, IsMemory}
use Rattle.memory_commands.proofs.Finds.{found}
use Rattle.memory_commands.proofs.printing.write_part.Goals as goal

pub write_memory-requires-clause-width : goal.write_memory-requires-clause-width
write_memory-requires-clause-width g c =
    (found (λ m. is_array m c.args.memory.now) IsMemory c.args.image.now c.in-Some.part.now (recursion_from_All IsMemory c.args.image.now c.requires.image.memories) (sym c.in-Some.ensures)).0.wide

pub write_memory-requires-clause-few : goal.write_memory-requires-clause-few
write_memory-requires-clause-few g c =
    let m = (found (λ m. is_array m c.args.memory.now) IsMemory c.args.image.now c.in-Some.part.now (recursion_from_All IsMemory c.args.image.now c.requires.image.memories) (sym c.in-Some.ensures)).0 in
    omega (arith, m.room, m.depth.3, pow_mono m.depth.2)
