use Rattle.std.proofs.Common.{◌∙◌, List, [], ap}
use Rattle.std.specs.Prelude.{slice_get, slice_index_or}
use Rattle.std.specs.Borrow.{Bor}
use Rattle.std.specs.Global.{Vec}
use Rattle.lisa_tree.specs.declared.expressions.Expr.{Expr}
use Rattle.lisa_tree.specs.Descriptions.{description_tree}
use Rattle.scene_paths.specs.Conditions.{rows_of}
use Rattle.scene_paths.proofs.Moved.{kept_at}
use Rattle.scene_paths.proofs.Conditioned.{condition_is}
use Rattle.scene_paths.proofs.described.Described.condition.Goals as goal

pub returns : goal.returns
returns c =
    let kept = kept_at c.self.inside.tables.tables.globals.description.now c.args.self.now c.self.view_is c.self.invariant in
    c.condition_at.ensures
    ∙ ap (λ (rows : List (Vec (Bor Expr))). slice_get (slice_index_or (rows_of rows) c.args.operation []) c.args.test) c.deref.ensures.value
    ∙ condition_is (description_tree c.args.self.now) c.self.inside.conditions.items c.args.operation c.args.test kept.of_conditions
