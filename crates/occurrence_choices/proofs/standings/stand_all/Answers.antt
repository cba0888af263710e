use Rattle.std.proofs.Common.{◌≤◌, ◌∙◌, List, length, sym, ap, subst, arith}
use Rattle.scene_paths.specs.activation_trees.declared.parts.Occurrence.{Occurrence}
use Rattle.scene_paths.specs.activation_trees.Unfolding.{occurrences}
use Rattle.scene_paths.specs.instruction_forms.Trees.{FormTree}
use Rattle.scene_paths.specs.lisa_forms.Choosing.{numbered_form}
use Rattle.scene_paths.specs.lisa_meaning.Standings.{standing}
use Rattle.scene_paths.specs.Lookups.{tree_of}
use Rattle.occurrence_choices.specs.Standings.{seen_standing, AreWays, AreStandings}
use Rattle.occurrence_choices.proofs.Kept.{one_kept}
use Rattle.occurrence_choices.proofs.Stepping.{all_stand}
use Rattle.occurrence_choices.proofs.standings.stand_all.Goals as goal

pub each-preserved : goal.each-preserved
each-preserved c =
    let d = tree_of c.args.described.now in
    let n = c.each.number in
    let kept = c.each.kept.items in
    let before = c.deref.result.now in
    let all = c.occurrences-all.ensures.is ∙ c.forms.ensures.all_occurrences in
    let ways = subst (λ (l : List Occurrence). AreWays d (length l) c.args.ways.now) (sym all) c.requires.ways in
    let whole = c.whole-whole.ensures in
    let so_far = subst (λ (f : FormTree). AreStandings d f n before) (sym whole) (subst (AreStandings d (numbered_form d c.args.form) n) (sym c.deref.ensures.value) c.each.invariant) in
    one_kept seen_standing (standing d (numbered_form d c.args.form)) n kept c.push.new.self.items c.stands-next.result c.each.invariant
    (c.stands-next.ensures d all ways so_far ∙ ap (λ (f : FormTree). standing d f n) whole)
    c.in_ok-push.ensures.items

pub returns : goal.returns
returns c =
    let d = tree_of c.args.described.now in
    let many = ap length (c.occurrences-all.ensures.is ∙ c.forms.ensures.all_occurrences) in
    let past = c.each-test.false in
    let most : length (occurrences d) ≤ c.each.number = omega (arith, many, past) in
    all_stand d c.args.form c.each.number c.each.kept.items c.each.invariant most
