use Rattle.std.proofs.Common.{List, [], ◌∷◌}
use Rattle.std.proofs.lemmas.List.Elements.{All-nil, All-cons}
use Rattle.lisa_engine.specs.Memory.{Memory}
use Rattle.lisa_object.specs.Objects.{object_tree}
use Rattle.lisa_object.specs.ObjectRules.{IsObject}
use Rattle.lisa_object.specs.declared.parts.Object.{Object}
use Rattle.verilog_text.specs.Trees.{module_tree}
use Rattle.lisa_outcomes.proofs.Stages.{passed_replies, stopped_replies}
use Rattle.assembler_commands.specs.checked_descriptions.ToolViews.{checked_of}
use Rattle.generator_commands.specs.Soaks.{SoaksImage}
use Rattle.generator_commands.proofs.Placing.{linked_there}
use Rattle.generator_commands.proofs.soaking.soak_object.Goals as goal

pub image_of-requires-clause-objects : goal.image_of-requires-clause-objects
image_of-requires-clause-objects g c = All-cons (λ (o : Object). IsObject (object_tree o)) c.args.object [] c.requires.rules (All-nil (λ (o : Object). IsObject (object_tree o)))

pub soak_image-requires-clause-found : goal.soak_image-requires-clause-found
soak_image-requires-clause-found g c = linked_there (checked_of c.args.tools.now).tree (object_tree c.args.object ∷ []) c.in-Ok.image c.in-Ok.ensures.finds.found

pub returns-in-Ok : goal.returns-in-Ok
returns-in-Ok g c =
    passed_replies {X = List Memory} {T = Unit {0}} (λ image. image) _ _ (SoaksImage (checked_of c.args.tools.now) (module_tree c.args.clocked.now) c.args.plan.count c.args.plan.edges) c.in-Ok.image _ _ _ _ _ c.in-Ok.ensures.finds
    c.soak_image.ensures

pub returns : goal.returns
returns g c =
    stopped_replies {X = List Memory} {T = Unit {0}} (λ image. image) _ _ (SoaksImage (checked_of c.args.tools.now) (module_tree c.args.clocked.now) c.args.plan.count c.args.plan.edges) c.in-Err.end _ _ c.in-Err.ensures.finds
