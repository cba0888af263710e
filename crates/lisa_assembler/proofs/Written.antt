-- The lines of the entries of a source's lines.
use Rattle.std.proofs.Common.{◌≡◌, ℕ, List, [], ◌∷◌, ◌++◌, map, refl, ap, ◌∙◌, append_assoc}
use Rattle.std.proofs.lemmas.List.{map-append}
use Rattle.lisa_tree.specs.Descriptions.{DescriptionTree}
use Rattle.asm_source.specs.Plain.{PlainValue, Number}
use Rattle.asm_source.specs.Plain as sources
use Rattle.lisa_object.specs.declared.parts.ObjectLine.{ObjectLine}
use Rattle.lisa_object.specs.Objects.{PlainObjectLine, Label, object_line_tree}
use Rattle.placed_programs.specs.Entries.{Entry, Mark, Put, mapped, entry_lines, lines_of}
use Rattle.lisa_assembler.specs.Cells.{value_lines, values_lines}
use Rattle.lisa_assembler.specs.Objects.{object_cell}
use Rattle.lisa_assembler.specs.Sources.{SourceCell, Word}

module _ (d : DescriptionTree) where
  -- the lines of an object for entries of a source
  abbrev pub written : List (Entry SourceCell) → List PlainObjectLine
  written es = lines_of (map (mapped (object_cell d)) es)

  pub written-append : (xs ys : List (Entry SourceCell)) → written (xs ++ ys) ≡ written xs ++ written ys
  written-append [] ys = refl
  written-append (x ∷ xs) ys =
      let own : List PlainObjectLine = entry_lines (mapped (object_cell d) x) in
      let moved : own ++ (written xs ++ written ys) ≡ (own ++ written xs) ++ written ys = simp append_assoc in
      ap (λ (ls : List PlainObjectLine). own ++ ls) (written-append xs ys) ∙ moved

  pub labels_written : (labels : List (List ℕ)) → written (map Mark labels) ≡ map Label labels
  labels_written [] = refl
  labels_written (n ∷ labels) = ap (λ (ls : List PlainObjectLine). Label n ∷ ls) (labels_written labels)

  value_written : (width : ℕ) (v : PlainValue) → entry_lines (mapped (object_cell d) (Put (Word width v))) ≡ value_lines width v
  value_written width (Number n) = refl
  value_written width (sources.Added s) = refl

  pub values_written : (width : ℕ) (vs : List PlainValue) → written (map (λ v. Put (Word width v)) vs) ≡ values_lines width vs
  values_written width [] = refl
  values_written width (v ∷ vs) =
      ap (λ (ls : List PlainObjectLine). ls ++ written (map (λ (w : PlainValue). Put (Word width w)) vs)) (value_written width v)
      ∙ ap (λ (ls : List PlainObjectLine). value_lines width v ++ ls) (values_written width vs)

pub pushed_two : (old mid new : List ObjectLine) (x y : ObjectLine) → mid ≡ old ++ x ∷ [] → new ≡ mid ++ y ∷ [] → map object_line_tree new ≡ map object_line_tree old ++ object_line_tree x ∷ object_line_tree y ∷ []
pushed_two old mid new x y e f =
    let moved : (old ++ x ∷ []) ++ y ∷ [] ≡ old ++ x ∷ y ∷ [] = simp append_assoc in
    ap (map object_line_tree) (f ∙ ap (λ (ls : List ObjectLine). ls ++ y ∷ []) e ∙ moved) ∙ map-append object_line_tree old (x ∷ y ∷ [])

pub pushed_one : (old new : List ObjectLine) (x : ObjectLine) → new ≡ old ++ x ∷ [] → map object_line_tree new ≡ map object_line_tree old ++ object_line_tree x ∷ []
pushed_one old new x e = ap (map object_line_tree) e ∙ map-append object_line_tree old (x ∷ [])
