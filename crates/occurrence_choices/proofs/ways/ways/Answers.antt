use Rattle.std.proofs.Common.{◌≡◌, ◌∙◌, ℕ, List, length, sym, ap, subst, arith}
use Rattle.std.specs.Prelude.{slice_get}
use Rattle.scene_paths.specs.activation_trees.declared.parts.Occurrence.{Occurrence}
use Rattle.scene_paths.specs.activation_trees.Unfolding.{occurrences}
use Rattle.scene_paths.specs.Lookups.{tree_of}
use Rattle.occurrence_choices.specs.Standings.{seen_way, way_of, AreWays}
use Rattle.occurrence_choices.proofs.Kept.{one_kept}
use Rattle.occurrence_choices.proofs.ways.ways.Goals as goal

pub places-requires : goal.places-requires
places-requires g c k p x e h = c.forms.result.now.before k p x (ap (λ (l : List Occurrence). slice_get l k) (sym c.occurrences-all.ensures.is) ∙ e) h

pub each-preserved : goal.each-preserved
each-preserved g c =
    one_kept seen_way (way_of (tree_of c.args.described.now)) c.each.number c.each.ways.items c.push.new.self.items c.way.result c.each.invariant c.way.ensures c.in_ok-push.ensures.items

pub returns : goal.returns
returns g c =
    let d = tree_of c.args.described.now in
    let many = ap length (c.occurrences-all.ensures.is ∙ c.forms.ensures.all_occurrences) in
    let past = c.each-test.false in
    let most = c.each.auto.number-end in
    let all : c.each.number ≡ length (occurrences d) = omega (arith, many, past, most) in
    subst (λ (n : ℕ). AreWays d n c.each.ways.items) all c.each.invariant
