use Rattle.std.proofs.Common.{map}
use Rattle.asm_source.specs.Plain.{line_tree}
use Rattle.lisa_object.specs.Objects.{PlainObject, object_tree}
use Rattle.lisa_object.specs.declared.parts.Object.{Object}
use Rattle.verilog_text.specs.Trees.{module_tree}
use Rattle.lisa_outcomes.proofs.Stages.{passed_replies, stopped_replies, memory_replies}
use Rattle.assembler_commands.specs.checked_descriptions.ToolViews.{checked_of}
use Rattle.assembler_commands.proofs.MemoryRules.{memories_are}
use Rattle.generator_commands.specs.Soaks.{SoaksImage, AfterLink, AfterObject}
use Rattle.generator_commands.proofs.DigestRules.{digest_rules}
use Rattle.generator_commands.proofs.soaking.soak_lines.Goals as goal

pub returns-in-Err : goal.returns-in-Err
returns-in-Err g c =
    memory_replies {T = Unit {0}}
    (AfterObject (checked_of c.args.tools.now).tree (map line_tree c.args.lines.now) (SoaksImage (checked_of c.args.tools.now) (module_tree c.args.clocked.now) c.args.plan.count c.args.plan.edges)) _ _

pub soak_object-requires-clause-rules : goal.soak_object-requires-clause-rules
soak_object-requires-clause-rules g c =
    let d = (checked_of c.args.tools.now).tree in
    let has = c.requires.tools.instructions.0 in
    let memories = memories_are d (c.machines_show.ensures d c.requires.tools.accepted) (c.sizes_are_limited.ensures d has).2.few_cells in
    c.objects_of_sources_keep_rules.ensures d c.requires.said.0 (map line_tree c.args.lines.now) (object_tree c.in-Ok-object_of.object) c.requires.tools.accepted has
    (λ k a low. let place = memories.places k a low in record { narrow = place.narrow; wide = place.wide })
    (digest_rules d) c.requires.said.1 c.in-Ok-object_of.ensures.found

pub soak_object-requires-clause-digest : goal.soak_object-requires-clause-digest
soak_object-requires-clause-digest g c = c.in-Ok-object_of.ensures.found.stamped

pub returns-in-Ok-object_of : goal.returns-in-Ok-object_of
returns-in-Ok-object_of g c =
    passed_replies {X = Object} {T = Unit {0}} object_tree _ _
    (λ (object : PlainObject). AfterLink (checked_of c.args.tools.now).tree object (SoaksImage (checked_of c.args.tools.now) (module_tree c.args.clocked.now) c.args.plan.count c.args.plan.edges))
    c.in-Ok-object_of.object _ _ _ _ _ c.in-Ok-object_of.ensures c.soak_object.ensures

pub returns-in-Err-object_of : goal.returns-in-Err-object_of
returns-in-Err-object_of g c =
    stopped_replies {X = Object} {T = Unit {0}} object_tree _ _
    (λ (object : PlainObject). AfterLink (checked_of c.args.tools.now).tree object (SoaksImage (checked_of c.args.tools.now) (module_tree c.args.clocked.now) c.args.plan.count c.args.plan.edges))
    c.in-Err-object_of.end _ _ c.in-Err-object_of.ensures
