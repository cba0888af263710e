use Rattle.std.proofs.Common.{◌∙◌, sym}
use Rattle.scene_paths.specs.Lookups.{tree_of}
use Rattle.lowered_resources.proofs.Coded.{field_least, field_most}
use Rattle.lowered_resources.proofs.targets.Targets.put_output.Goals as goal

pub put_field-requires-clause-least : goal.put_field-requires-clause-least
put_field-requires-clause-least g c =
    field_least (tree_of c.args.self.now.described.now) c.accepted.ensures c.in-Some-field_place.field c.in-Some-shape_at.shape (sym c.shape_at.ensures ∙ c.in-Some-shape_at.is)

pub put_field-requires-clause-most : goal.put_field-requires-clause-most
put_field-requires-clause-most g c =
    field_most (tree_of c.args.self.now.described.now) c.accepted.ensures c.in-Some-field_place.field c.in-Some-shape_at.shape (sym c.shape_at.ensures ∙ c.in-Some-shape_at.is)
