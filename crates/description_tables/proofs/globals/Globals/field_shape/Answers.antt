use Rattle.std.proofs.Common.{ℕ, List, ap, sym, ◌∙◌}
use Rattle.std.specs.Prelude.{option_map, slice_get}
use Rattle.lisa_tree.specs.declared.tokens.Shape.{Shape}
use Rattle.lisa_tree.specs.Descriptions.{description_tree}
use Rattle.lisa_tree.specs.Resources.{fields}
use Rattle.description_tables.proofs.Fields.{field_is, field_none}
use Rattle.description_tables.proofs.globals.Globals.field_shape.Goals as goal

pub returns-in-Some : goal.returns-in-Some
returns-in-Some c =
    let s = c.args.self.now in
    let n = c.args.name.now in
    c.shape_at.ensures
    ∙ ap (λ (all : List (Shape × List ℕ)). option_map (λ (f : Shape × List ℕ). f.0) (slice_get all c.in-Some.place)) s.of_boundary
    ∙ field_is n (fields (description_tree s.description.now)) c.in-Some.place (sym (s.of_fields n) ∙ sym c.place_of.ensures ∙ c.in-Some.is)

pub returns-in-None : goal.returns-in-None
returns-in-None c =
    let s = c.args.self.now in
    let n = c.args.name.now in
    field_none n (fields (description_tree s.description.now)) (sym (s.of_fields n) ∙ sym c.place_of.ensures ∙ c.in-None.is)
