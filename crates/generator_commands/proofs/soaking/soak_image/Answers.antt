use Rattle.std.proofs.Common.{◌≡◌, ◌∙◌, sym, []}
use Rattle.lisa_outcomes.specs.Outcomes.{Outcome, Finished}
use Rattle.lisa_outcomes.proofs.Stages.{passed_replies, stopped_replies}
use Rattle.verilog_text.specs.Trees.{module_tree}
use Rattle.lisa_engine.specs.Machines.{Machine}
use Rattle.engine_commands.proofs.Made.{is_made, made_finds, unmade_finds}
use Rattle.assembler_commands.specs.Links.{stamped}
use Rattle.assembler_commands.specs.checked_descriptions.ToolViews.{checked_of}
use Rattle.description_commands.specs.Runs.{described_machine}
use Rattle.module_commands.specs.Designs.{clock_machine}
use Rattle.generator_commands.specs.Reports.{report_text, report_of}
use Rattle.generator_commands.proofs.soaking.soak_image.Goals as goal

pub soak_made-requires-clause-first : goal.soak_made-requires-clause-first
soak_made-requires-clause-first g c = c.in-Ok.ensures.first ∙ sym (λ i. (c.in-Ok.ensures.machine i).defined [])

pub returns-in-Ok : goal.returns-in-Ok
returns-in-Ok g c =
    let memories = c.args.image.now.image in
    let clock = clock_machine (record { tree = module_tree c.args.clocked.now; memories = memories }) in
    let makes = is_made _ clock memories c.make.result c.make.ensures.machine c.make.ensures.found c.make.ensures.missing in
    passed_replies {T = Unit {0}} _ _ _
    (λ (machine : Machine) (outcome : Outcome).
    outcome ≡ Finished (report_text (report_of c.args.plan.count c.args.plan.edges (stamped (checked_of c.args.tools.now).tree memories) (described_machine (checked_of c.args.tools.now) memories) machine)))
    c.in-Ok.clock _ _ _ _ _ (made_finds _ clock memories c.in-Ok.clock (rw c.in-Ok.is at makes)) c.soak_made.ensures

pub returns-in-Err : goal.returns-in-Err
returns-in-Err g c =
    let memories = c.args.image.now.image in
    let clock = clock_machine (record { tree = module_tree c.args.clocked.now; memories = memories }) in
    let makes = is_made _ clock memories c.make.result c.make.ensures.machine c.make.ensures.found c.make.ensures.missing in
    rw c.unmade.ensures
    (stopped_replies {T = Unit {0}} _ _ _
    (λ (machine : Machine) (outcome : Outcome).
    outcome ≡ Finished (report_text (report_of c.args.plan.count c.args.plan.edges (stamped (checked_of c.args.tools.now).tree memories) (described_machine (checked_of c.args.tools.now) memories) machine)))
    _ _ _ (unmade_finds _ clock memories c.in-Err.fault (rw c.in-Err.is at makes)))
