use Rattle.std.proofs.Common.{List, map}
use Rattle.std.specs.Global.{Vec}
use Rattle.asm_source.specs.Plain.{PlainLine, line_tree}
use Rattle.asm_source.specs.declared.parts.SourceLine.{SourceLine}
use Rattle.verilog_text.specs.Trees.{module_tree}
use Rattle.lisa_outcomes.proofs.Stages.{passed_replies, stopped_replies, memory_replies}
use Rattle.assembler_commands.specs.checked_descriptions.ToolViews.{checked_of}
use Rattle.generator_commands.specs.Soaks.{SoaksImage, AfterObject, AfterImage}
use Rattle.generator_commands.proofs.soaking.soak_source.Goals as goal

pub returns-then-source : goal.returns-then-source
returns-then-source g c =
    memory_replies {T = Unit {0}} (AfterImage (checked_of c.args.tools.now).tree c.args.source.now (SoaksImage (checked_of c.args.tools.now) (module_tree c.args.clocked.now) c.args.plan.count c.args.plan.edges)) _ _

pub soak_lines-requires-clause-said : goal.soak_lines-requires-clause-said
soak_lines-requires-clause-said g c = (c.args.source.now, rw c.deref.ensures.value c.in-Ok.ensures.found)

pub returns-in-Ok : goal.returns-in-Ok
returns-in-Ok g c =
    passed_replies {X = Vec SourceLine} {T = Unit {0}} (λ lines. map line_tree lines.items) _ _
    (λ (lines : List PlainLine). AfterObject (checked_of c.args.tools.now).tree lines (SoaksImage (checked_of c.args.tools.now) (module_tree c.args.clocked.now) c.args.plan.count c.args.plan.edges))
    c.in-Ok.lines _ _ _ _ _ c.in-Ok.ensures (rw c.deref.ensures.value at c.soak_lines.ensures)

pub returns-in-Err : goal.returns-in-Err
returns-in-Err g c =
    stopped_replies {X = Vec SourceLine} {T = Unit {0}} (λ lines. map line_tree lines.items) _ _
    (λ (lines : List PlainLine). AfterObject (checked_of c.args.tools.now).tree lines (SoaksImage (checked_of c.args.tools.now) (module_tree c.args.clocked.now) c.args.plan.count c.args.plan.edges))
    c.in-Err.end _ _ c.in-Err.ensures
