use Rattle.std.proofs.Common.{◌+◌, refl}
use Rattle.lowered_layouts.specs.Code.{positions_tree}
use Rattle.lowered_layouts.proofs.Ended.{field_on}
use Rattle.lowered_layouts.proofs.positions.Positions.end_boundary.Goals as goal

pub loop-field-preserved : goal.loop-field-preserved
loop-field-preserved c =
    field_on (positions_tree c.args.self.now) c.args.boundary c.loop-field.field (c.loop-field.field + 1) c.args.draft.now c.loop-field.draft c.end_field.new.draft refl c.loop-field.invariant c.in_ok-end_field.ensures
