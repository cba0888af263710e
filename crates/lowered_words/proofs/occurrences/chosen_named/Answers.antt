use Rattle.std.proofs.Common.{◌∙◌, sym}
use Rattle.scene_paths.specs.lisa_forms.Choosing.{child_place}
use Rattle.scene_paths.specs.Lookups.{tree_of}
use Rattle.lowered_words.proofs.Choosing.{child_named}
use Rattle.lowered_words.proofs.occurrences.chosen_named.Goals as goal

pub returns-in-Some-child_place : goal.returns-in-Some-child_place
returns-in-Some-child_place c = λ o same.
    let d = tree_of c.args.described.now in
    child_named d c.args.own (child_place d c.args.operation c.args.name.now) c.in-Some-child_place.place c.in-Some.above c.chosen_child.result o (sym c.in-Some.is ∙ same)
    (sym c.child_place.ensures ∙ c.in-Some-child_place.is) (λ own h. c.chosen_child.ensures d own c.requires h)
