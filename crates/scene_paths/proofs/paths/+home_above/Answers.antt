use Rattle.std.proofs.Common.{◌≡◌, ◌∙◌, ℕ, Bool, true, cond, Option, sym, ap, arith}
use Rattle.lisa_tree.specs.Descriptions.{DescriptionTree}
use Rattle.lisa_tree.specs.Declarations.{is_reference}
use Rattle.lisa_meaning.specs.Scenes.{declared, home}
use Rattle.scene_paths.specs.Paths.{numbered_links, occurrence_links}
use Rattle.scene_paths.specs.Sights.{sight_tree, form_of}
use Rattle.scene_paths.proofs.Above.{before, home_some}
use Rattle.scene_paths.proofs.paths.+home_above.Goals as goal

pub home_above-requires : goal.home_above-requires
home_above-requires t c =
    let falls = before (sight_tree c.args.sight.now) c.args.occurrence c.in-Some-parent.parent c.in-Some.own (sym c.occurrence.ensures ∙ c.in-Some.is) c.in-Some-parent.is in
    (omega (arith, falls, c.decreases), tt)

pub returns-in-Some-parent : goal.returns-in-Some-parent
returns-in-Some-parent t c =
    let d = sight_tree c.args.sight.now in
    let form = form_of c.args.sight.now in
    let n = c.args.name.now in
    let own = c.in-Some.own in
    let refers : is_reference (declared d own.operation n) ≡ true =
    sym (c.refers.ensures ∙ ap (λ (t : DescriptionTree). is_reference (declared t own.operation n)) c.described.ensures) ∙ c.if-not-refers.false in
    c.home_above.ensures
    ∙ sym (home_some d form n c.args.occurrence own (sym c.occurrence.ensures ∙ c.in-Some.is)
    ∙ ap (λ (b : Bool). cond b (home d n (numbered_links d form own.parent)) (occurrence_links d form c.args.occurrence)) refers
    ∙ ap (λ (o : Option ℕ). home d n (numbered_links d form o)) c.in-Some-parent.is)
