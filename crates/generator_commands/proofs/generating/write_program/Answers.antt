use Rattle.lisa_tree.specs.Descriptions.{description_tree}
use Rattle.lisa_outcomes.proofs.Stages.{passed_replies, stopped_replies}
use Rattle.assembler_commands.specs.checked_descriptions.Checked.{AfterChecks}
use Rattle.generator_commands.specs.Generates.{GeneratesChecked}
use Rattle.generator_commands.proofs.generating.write_program.Goals as goal

pub write_tree-requires : goal.write_tree-requires
write_tree-requires g c = record { bytes = c.args.description.now; spells = c.in-Ok.ensures.found }

pub returns-in-Ok : goal.returns-in-Ok
returns-in-Ok g c =
    passed_replies {T = Unit {0}} description_tree _ _ (λ d. AfterChecks d (GeneratesChecked c.args.number c.args.count)) c.in-Ok.description _ _ _ _ _ c.in-Ok.ensures c.write_tree.ensures

pub returns-in-Err : goal.returns-in-Err
returns-in-Err g c = stopped_replies {T = Unit {0}} description_tree _ _ (λ d. AfterChecks d (GeneratesChecked c.args.number c.args.count)) c.in-Err.end _ _ c.in-Err.ensures
