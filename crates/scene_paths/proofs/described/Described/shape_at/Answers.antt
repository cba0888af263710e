use Rattle.std.proofs.Common.{◌∙◌, ℕ, List, option_map, ap}
use Rattle.std.specs.Prelude.{slice_get}
use Rattle.lisa_tree.specs.declared.tokens.Shape.{Shape}
use Rattle.scene_paths.proofs.Moved.{kept_at}
use Rattle.scene_paths.proofs.described.Described.shape_at.Goals as goal

pub returns : goal.returns
returns c =
    let kept = kept_at c.self.inside.tables.tables.globals.description.now c.args.self.now c.self.view_is c.self.invariant in
    c.shape_at.ensures ∙ ap (λ (l : List (Shape × List ℕ)). option_map (λ (f : Shape × List ℕ). f.0) (slice_get l c.args.field)) kept.of_boundary
