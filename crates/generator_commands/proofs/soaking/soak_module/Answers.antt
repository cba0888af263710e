use Rattle.std.proofs.Common.{List, ℕ}
use Rattle.std.specs.Global.{Vec}
use Rattle.verilog_text.specs.Trees.{module_tree}
use Rattle.lisa_outcomes.proofs.Stages.{passed_replies, stopped_replies}
use Rattle.assembler_commands.specs.checked_descriptions.ToolViews.{checked_of}
use Rattle.generator_commands.specs.Soaks.{SoaksImage, AfterImage}
use Rattle.generator_commands.proofs.soaking.soak_module.Goals as goal

pub returns-in-Ok : goal.returns-in-Ok
returns-in-Ok g c =
    passed_replies {X = Vec ℕ} {T = Unit {0}} (λ text. text.items) _ _
    (λ (source : List ℕ). AfterImage (checked_of c.args.tools.now).tree source (SoaksImage (checked_of c.args.tools.now) (module_tree c.args.clocked.now) c.args.plan.count c.args.plan.edges))
    c.in-Ok.source _ _ _ _ _ c.in-Ok.ensures (rw c.deref.ensures.value at c.soak_source.ensures)

pub returns-in-Err : goal.returns-in-Err
returns-in-Err g c =
    stopped_replies {X = Vec ℕ} {T = Unit {0}} (λ text. text.items) _ _
    (λ (source : List ℕ). AfterImage (checked_of c.args.tools.now).tree source (SoaksImage (checked_of c.args.tools.now) (module_tree c.args.clocked.now) c.args.plan.count c.args.plan.edges))
    c.in-Err.end _ _ c.in-Err.ensures
