use Rattle.std.proofs.Common.{ap, ◌∙◌}
use Rattle.lisa_tree.specs.declared.expressions.BoundaryField.{BoundaryField}
use Rattle.description_types.specs.Refused.{is_no_boundary}
use Rattle.description_types.proofs.refused.is_refused.Goals as goal

pub returns-in-Boundary : goal.returns-in-Boundary
returns-in-Boundary g c =
    rw c.in-Boundary.is
    (c.is_no_boundary.ensures ∙ ap (λ (b : BoundaryField). is_no_boundary (g.N.Names.tree c.args.names.now) b.pipe b.before b.after) c.deref.ensures)
