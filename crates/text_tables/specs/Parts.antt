-- Texts in parts, of which some are kept once for many texts.
use Rattle.std.specs.Prelude.{List, map}
use Rattle.std.specs.Global.{Vec}
use Rattle.std.specs.List.{flat_map}
use Rattle.instruction_texts.specs.declared.shapes.Shape.{Shape}
use Rattle.text_tables.specs.Shared.{shapes_at}
use Rattle.text_tables.specs.declared.texts.Part.{Part}
use Rattle.text_tables.specs.declared.texts.Part.TheVariants as parts
use Rattle.text_tables.specs.declared.texts.Texts.{Texts}

-- the pieces of a part, where these are the lists that texts share
abbrev pub part_pieces : List (Vec Shape) → Part → List Shape
part_pieces shared (parts.Own own) = own.items
part_pieces shared (parts.Shared number) = shapes_at (map (λ v. v.items) shared) number

-- the pieces of a text, part by part
abbrev pub text_pieces : List (Vec Shape) → List Part → List Shape
text_pieces shared all = flat_map (part_pieces shared) all

-- the pieces of each text
abbrev pub all_pieces : Texts → List (List Shape)
all_pieces t = map (λ all. text_pieces t.shared.items all.items) t.texts.items
