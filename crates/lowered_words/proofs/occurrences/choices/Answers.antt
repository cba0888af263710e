use Rattle.std.proofs.Common.{◌∙◌, List, length, ap, sym, arith}
use Rattle.std.specs.Prelude.{slice_get}
use Rattle.scene_paths.specs.activation_trees.declared.parts.Occurrence.{Occurrence}
use Rattle.scene_paths.specs.Lookups.{tree_of}
use Rattle.lowered_words.proofs.Choosing.{one_chosen, all_chosen}
use Rattle.lowered_words.proofs.occurrences.choices.Goals as goal

pub places-requires : goal.places-requires
places-requires g c k p x e h =
    c.forms.result.now.before k p x (ap (λ (l : List Occurrence). slice_get l k) (sym c.occurrences-all.ensures.is) ∙ e) h

pub loop-number-preserved : goal.loop-number-preserved
loop-number-preserved g c =
    one_chosen (tree_of c.args.described.now) c.loop-number.number c.loop-number.choices.items c.push.new.self.items c.chosen-next.result c.loop-number.invariant c.chosen-next.ensures c.in_ok-push.ensures.items

pub returns : goal.returns
returns g c =
    all_chosen (tree_of c.args.described.now) c.loop-number.number c.loop-number.choices.items c.loop-number.invariant
    (let many = ap length (c.occurrences-all.ensures.is ∙ c.forms.ensures.all_occurrences) in let past = c.loop-number-test.false in omega (arith, many, past))
