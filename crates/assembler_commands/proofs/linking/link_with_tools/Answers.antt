use Rattle.std.proofs.Common.{ℕ, List}
use Rattle.std.specs.Global.{Vec}
use Rattle.lisa_object.specs.declared.parts.Object.{Object}
use Rattle.lisa_outcomes.proofs.Stages.{passed_replies, stopped_replies, memory_replies}
use Rattle.checked_descriptions.specs.ToolViews.{checked_of}
use Rattle.assembler_commands.specs.Links.{Links, LinksChecked}
use Rattle.assembler_commands.specs.ObjectViews.{texts_of, trees_of}
use Rattle.assembler_commands.proofs.linking.link_with_tools.Goals as goal

pub returns-in-Err : goal.returns-in-Err
returns-in-Err g c = memory_replies {T = Unit {0}} (LinksChecked (texts_of c.args.files.now) (checked_of c.args.tools.now)) _ _

pub returns-in-Ok-objects_for : goal.returns-in-Ok-objects_for
returns-in-Ok-objects_for g c =
    let d = (checked_of c.args.tools.now).tree in
    passed_replies {X = Vec Object} {T = Unit {0}} (λ all. trees_of all.items) _ _ (Links d) c.in-Ok-objects_for.objects _ _ _ _ _ (rw c.description.ensures at (rw c.in-Ok.ensures at c.in-Ok-objects_for.ensures.finds)) (rw c.deref.ensures.value at c.link_read.ensures)

pub returns-in-Err-objects_for : goal.returns-in-Err-objects_for
returns-in-Err-objects_for g c =
    let d = (checked_of c.args.tools.now).tree in
    stopped_replies {X = Vec Object} {T = Unit {0}} (λ all. trees_of all.items) _ _ (Links d) c.in-Err-objects_for.end _ _ (rw c.description.ensures at (rw c.in-Ok.ensures at c.in-Err-objects_for.ensures.finds))
