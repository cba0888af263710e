use Rattle.std.proofs.Common.{List, ◌<◌, ◌^◌, ◌∙◌, sym, arith, length}
use Rattle.std.proofs.lemmas.List.{length-map}
use Rattle.std.specs.Prelude.{All}
use Rattle.lisa_object.specs.declared.parts.Object.{Object}
use Rattle.lisa_object.specs.Objects.{object_tree}
use Rattle.lisa_object.specs.ObjectRules.{IsObject}
use Rattle.assembler_commands.specs.ObjectViews.{texts_of, trees_of}
use Rattle.assembler_commands.proofs.ObjectFiles.{spelled_objects, spelled_number}
use Rattle.assembler_commands.proofs.Digested.{digests_find, unread_finds_none, kept_all}
use Rattle.assembler_commands.proofs.objects.objects_for.Goals as goal

pub returns-in-Ok-clause-finds : goal.returns-in-Ok-clause-finds
returns-in-Ok-clause-finds c =
    digests_find c.objects_are_unique.ensures c.args.digest (texts_of c.args.files.now) c.in-Ok.objects c.with_digest.result c.in-Ok.ensures.found c.with_digest.ensures.same c.with_digest.ensures.other

pub returns-in-Ok-clause-rules : goal.returns-in-Ok-clause-rules
returns-in-Ok-clause-rules c =
    kept_all (λ (xs : List Object). All (λ o. IsObject (object_tree o)) xs) _ c.in-Ok.objects c.with_digest.result c.with_digest.ensures.same (spelled_objects (texts_of c.args.files.now) c.in-Ok.objects.items c.in-Ok.ensures.found)

pub with_digest-requires : goal.with_digest-requires
with_digest-requires c =
    let same = sym (length-map c.in-Ok.objects.items object_tree) ∙ spelled_number (texts_of c.args.files.now) (trees_of c.in-Ok.objects.items) c.in-Ok.ensures.found ∙ length-map c.args.files.now (λ bytes. bytes.items) in
    record { few = omega (arith, same, c.requires.few) }

pub returns-in-Ok-clause-few : goal.returns-in-Ok-clause-few
returns-in-Ok-clause-few c =
    let same = sym (length-map c.in-Ok.objects.items object_tree) ∙ spelled_number (texts_of c.args.files.now) (trees_of c.in-Ok.objects.items) c.in-Ok.ensures.found ∙ length-map c.args.files.now (λ bytes. bytes.items) in
    kept_all (λ (xs : List Object). length xs < 2 ^ 32) _ c.in-Ok.objects c.with_digest.result c.with_digest.ensures.same (omega (arith, same, c.requires.few))

pub returns-in-Err-clause-finds : goal.returns-in-Err-clause-finds
returns-in-Err-clause-finds c = unread_finds_none c.args.digest (texts_of c.args.files.now) c.in-Err.end c.in-Err.ensures
