use Rattle.std.proofs.Common.{◌∙◌, ap, sym, option_map}
use Rattle.std.specs.Borrow.{Bor}
use Rattle.lisa_tree.specs.declared.expressions.Expr.{Expr}
use Rattle.lisa_tree.specs.Expressions.{expr_tree}
use Rattle.lisa_tree.specs.Descriptions.{DescriptionTree}
use Rattle.lisa_tree.specs.Operations.{expression_in, sections_at}
use Rattle.typed_values.specs.Effects.{in_kind}
use Rattle.moment_stores.specs.Stores.{moment_of, outer_locals}
use Rattle.scene_paths.specs.Paths.{links_of}
use Rattle.scene_paths.specs.Sights.{sight_tree, form_of, scene_at}
use Rattle.behavior_runs.proofs.Bodies.{child_run}
use Rattle.behavior_runs.proofs.targets.+targets.Goals as goal

pub put_child-returns-then-levels-gt0-clause-moment : goal.put_child-returns-then-levels-gt0-clause-moment
put_child-returns-then-levels-gt0-clause-moment t c =
    let d = sight_tree c.args.sight in
    let links = links_of d (form_of c.args.sight) c.args.path.now in
    let is = sym c.operation.ensures ∙ c.in-Some.is in
    let has =
    sym (c.expression.ensures ∙ ap (λ (x : DescriptionTree). expression_in (sections_at x c.in-Some.operation)) c.described.ensures)
    ∙ ap (option_map (λ (e : Bor Expr). expr_tree e.now)) c.in-Some-expression.is in
    child_run c.enter-outer.result (outer_locals c.args.store.now) (outer_locals c.enter-outer.new.self) (outer_locals c.put.new.store)
    (moment_of c.args.store.now) (moment_of c.enter-outer.new.self) (moment_of c.put.new.store) (moment_of c.exit.new.self)
    c.enter-outer.ensures.place c.enter-outer.ensures.moment c.enter-outer.ensures.outer c.put.ensures.keeps.outer c.exit.ensures.moment
    c.args.levels c.in-Some.operation d (scene_at c.args.sight c.args.path.now) links (expr_tree c.in-Some-expression.place.now) (in_kind c.args.given) c.put.ensures.moment c.if-levels-gt0.true is has
