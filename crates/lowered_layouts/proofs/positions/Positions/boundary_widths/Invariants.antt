use Rattle.std.proofs.Common.{◌≡◌, ◌++◌, [], ◌∷◌}
use Rattle.std.specs.List.{flat_map}
use Rattle.item_layouts.proofs.Ranges.{range}
use Rattle.lowered_resources.specs.Places.{field_width}
use Rattle.lowered_layouts.specs.Temps.{boundary_widths}
use Rattle.lowered_layouts.specs.Code.{positions_tree}
use Rattle.lowered_layouts.proofs.positions.Positions.boundary_widths.Given as goal

abbrev pub invariant-loop-field : goal.invariant-loop-field
invariant-loop-field l =
    l.widths.items ++ flat_map (λ f. 1 ∷ field_width (positions_tree l.self) f ∷ []) (range l.field l.self.fields)
    ≡ boundary_widths (positions_tree l.self) l.self.width
