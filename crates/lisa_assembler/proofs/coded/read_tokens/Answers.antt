use Rattle.std.proofs.Common.{map}
use Rattle.lisa_tree.specs.Descriptions.{description_tree}
use Rattle.asm_source.specs.Plain.{token_tree}
use Rattle.lisa_assembler.proofs.CodedCells.{two_at, two_told, two_within}
use Rattle.lisa_assembler.proofs.coded.read_tokens.Goals as goal

pub two_fault-requires-clause-within : goal.two_fault-requires-clause-within
two_fault-requires-clause-within c =
    let d = description_tree c.args.tools.now.machine.now in
    two_within d (map token_tree c.args.tokens.now) c.in-Err-TwoInstructions.first c.in-Err-TwoInstructions.second (two_at d (map token_tree c.args.tokens.now) c.in-Err-TwoInstructions.field-0 c.in-Err-TwoInstructions.first c.in-Err-TwoInstructions.second c.in-Err-TwoInstructions.field-0-is (c.in-Err-TwoInstructions.ensures.fault d c.requires.tools.syntax))

pub two_fault-requires-clause-order : goal.two_fault-requires-clause-order
two_fault-requires-clause-order c =
    let d = description_tree c.args.tools.now.machine.now in
    (two_at d (map token_tree c.args.tokens.now) c.in-Err-TwoInstructions.field-0 c.in-Err-TwoInstructions.first c.in-Err-TwoInstructions.second c.in-Err-TwoInstructions.field-0-is (c.in-Err-TwoInstructions.ensures.fault d c.requires.tools.syntax)).0

pub returns-in-Ok-clause-read : goal.returns-in-Ok-clause-read
returns-in-Ok-clause-read c = c.in-Ok.ensures.matched (description_tree c.args.tools.now.machine.now) c.requires.tools.syntax

pub returns-in-Err-TwoInstructions-clause-fault : goal.returns-in-Err-TwoInstructions-clause-fault
returns-in-Err-TwoInstructions-clause-fault c =
    let d = description_tree c.args.tools.now.machine.now in
    two_told d c.args.line (map token_tree c.args.tokens.now) c.in-Err-TwoInstructions.first c.in-Err-TwoInstructions.second c.two_fault.result
    (two_at d (map token_tree c.args.tokens.now) c.in-Err-TwoInstructions.field-0 c.in-Err-TwoInstructions.first c.in-Err-TwoInstructions.second c.in-Err-TwoInstructions.field-0-is (c.in-Err-TwoInstructions.ensures.fault d c.requires.tools.syntax)) c.two_fault.ensures
