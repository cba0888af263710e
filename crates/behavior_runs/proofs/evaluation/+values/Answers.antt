use Rattle.std.proofs.Common.{◌≡◌, ◌∙◌, ◌<◌, ℕ, Some, sym, ap, arith}
use Rattle.lisa_tree.specs.Expressions.{expr_tree}
use Rattle.lisa_tree.specs.Descriptions.{DescriptionTree}
use Rattle.lisa_tree.specs.Operations.{expression_in, sections_at}
use Rattle.typed_values.specs.Words.{typed_word}
use Rattle.scene_paths.specs.lisa_meaning.Scenes.{child_at_home}
use Rattle.scene_paths.specs.Paths.{links_of}
use Rattle.scene_paths.specs.Sights.{sight_tree, form_of, scene_at}
use Rattle.behavior_runs.specs.Views.{view_tree, moment_seen, below_within}
use Rattle.behavior_runs.proofs.Scenes.{child_none, child_some, child_falls, expression_some, one_less}
use Rattle.behavior_runs.proofs.evaluation.+values.Goals as goal

pub child_value-value_at-requires : goal.child_value-value_at-requires
child_value-value_at-requires t c =
    let sight = c.args.view.sight in
    let o = c.in-Some.operation in
    let some : 0 < c.args.levels = omega (arith, c.if-levels-eq0.false) in
    let is : expression_in (sections_at (sight_tree sight) o) ≡ Some (expr_tree c.in-Some-expression.expression.now) =
    ap (λ (d : DescriptionTree). expression_in (sections_at d o)) (sym c.described.ensures) ∙ sym c.in-Some-expression.ensures in
    let falls = child_falls c.args.levels sight c.bare.result.sight o (expr_tree c.in-Some-expression.expression.now) some c.bare.ensures.sight is in
    (omega (arith, falls, c.decreases), tt)

pub child_value-returns-else-levels-eq0 : goal.child_value-returns-else-levels-eq0
child_value-returns-else-levels-eq0 t c =
    let view = c.args.view in
    let o = c.in-Some.operation in
    let some : 0 < c.args.levels = omega (arith, c.if-levels-eq0.false) in
    let is : expression_in (sections_at (sight_tree view.sight) o) ≡ Some (expr_tree c.in-Some-expression.expression.now) =
    ap (λ (d : DescriptionTree). expression_in (sections_at d o)) (sym c.described.ensures) ∙ sym c.in-Some-expression.ensures in
    one_less c.args.levels view.sight c.bare.result.sight (moment_seen view) (moment_seen c.bare.result) c.args.path.now (expr_tree c.in-Some-expression.expression.now) (typed_word c.value_at.result) some c.bare.ensures.sight c.bare.ensures.moment
    (expression_some (view_tree view) (links_of (view_tree view) (form_of view.sight) c.args.path.now) c.operation.result o c.operation.ensures c.in-Some.is ∙ is) c.value_at.ensures

pub name_value-returns-in-None : goal.name_value-returns-in-None
name_value-returns-in-None t c =
    let view = c.args.view in
    let below = below_within c.args.levels (view_tree view) (scene_at view.sight c.args.path.now) (moment_seen view) in
    let links = child_at_home (view_tree view) (form_of view.sight) c.args.name.now (links_of (view_tree view) (form_of view.sight) c.in-Child.home) in
    c.truth.ensures ∙ child_none below (view_tree view) (form_of view.sight) links c.child.result c.in-None.is c.child.ensures ∙ c.in-Child.ensures below

pub name_value-returns-in-Some : goal.name_value-returns-in-Some
name_value-returns-in-Some t c =
    let view = c.args.view in
    let below = below_within c.args.levels (view_tree view) (scene_at view.sight c.args.path.now) (moment_seen view) in
    let links = child_at_home (view_tree view) (form_of view.sight) c.args.name.now (links_of (view_tree view) (form_of view.sight) c.in-Child.home) in
    child_some c.args.levels view.sight c.bare.result.sight (moment_seen view) (moment_seen c.bare.result) c.args.path.now c.in-Some.below links c.child.result (typed_word c.child_value.result) c.bare.ensures.sight c.bare.ensures.moment c.in-Some.is c.child.ensures c.child_value.ensures
    ∙ c.in-Child.ensures below
