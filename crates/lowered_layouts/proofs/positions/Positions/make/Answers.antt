use Rattle.std.proofs.Common.{◌≡◌, ◌∙◌, length, sym, ap}
use Rattle.lisa_tree.specs.Descriptions.{DescriptionTree}
use Rattle.lisa_tree.specs.Resources.{stages, fields}
use Rattle.item_layouts.specs.Layouts.{place_of}
use Rattle.state_items.specs.lisa_meaning.States.{layout_of}
use Rattle.lowered_words.specs.scene_paths.Lookups.{tree_of}
use Rattle.lowered_layouts.specs.Temps.{controls_at}
use Rattle.lowered_layouts.specs.Spots.{place_at}
use Rattle.lowered_layouts.proofs.Counted.{controls_counted, rows_counted}
use Rattle.lowered_layouts.proofs.positions.Positions.make.Goals as goal

pub invariant_of-result : goal.invariant_of-result
invariant_of-result c =
    let tree : DescriptionTree = tree_of c.args.described.now in
    let staged : c.in_ok-stages.stages ≡ length (stages tree) = c.in_ok-stages.ensures ∙ ap (λ (d : DescriptionTree). length (stages d)) (sym c.requires.tree) in
    let fielded : c.field_count-fields.result ≡ length (fields tree) = c.field_count-fields.ensures ∙ ap (λ (d : DescriptionTree). length (fields d)) (sym c.requires.tree) in
    let controls : c.in_ok-controls_at.controls_at ≡ controls_at tree =
    controls_counted tree c.in_ok-boundaries_at.boundaries_at c.in_ok-stages.stages c.field_count-fields.result c.in_ok-controls_at.controls_at c.in_ok-boundaries_at.ensures staged fielded c.in_ok-controls_at.ensures
    in
    record {
      of_stages = staged;
      of_fields = fielded;
      of_boundaries = c.in_ok-boundaries_at.ensures;
      of_controls = controls;
      of_rows = rows_counted tree c.in_ok-controls_at.controls_at c.in_ok-stages.stages c.in_ok-rows_at.rows_at controls staged c.in_ok-rows_at.ensures;
      of_row = c.requires.row;
      of_items = λ s. c.in_ok-items.ensures s ∙ ap (λ (d : DescriptionTree). place_of (layout_of d) (place_at s)) (sym c.requires.tree);
    }
