use Rattle.code_lines.proofs.instructions.read_instructions.Goals as goal

pub check-requires : goal.check-requires
check-requires c = record { spelled = record { bytes = c.args.bytes.now; spells = c.in_ok-description.ensures.found } }
