-- Numbers of a `.word`, one by one.
use Rattle.std.proofs.Common.{◌≡◌, inl, inr, ◌+◌, ◌<◌, ℕ, List, [], ◌∷◌, ◌++◌, length, map, drop, get_or, sym, ap, subst, ◌∙◌, append_assoc}
use Rattle.std.specs.Prelude.{All}
use Rattle.std.proofs.lemmas.List.Elements.{All-cons}
use Rattle.asm_source.specs.Plain.{PlainValue, Number, value_tree}
use Rattle.asm_source.specs.Plain as sources
use Rattle.asm_source.specs.declared.parts.CellValue.{CellValue}
use Rattle.asm_source.specs.declared.flaw.SourceFault.{SourceFault}
use Rattle.lisa_object.specs.Objects.{PlainObjectLine}
use Rattle.lisa_assembler.specs.Cells.{value_lines, values_lines}
use Rattle.lisa_assembler.specs.Faults.{IsRangeFault}
use Rattle.lisa_assembler.specs.Sources.{FitsCell}
use Rattle.lisa_assembler.proofs.Lists.{one}

fault_here : (line width : ℕ) (v : PlainValue) (vs : List PlainValue) (f : SourceFault) → IsRangeFault line width (v ∷ []) f → IsRangeFault line width (v ∷ vs) f
fault_here line width (Number n) vs f (inl x) = inl x
fault_here line width (Number n) vs f (inr x) = absurd x.1
fault_here line width (sources.Added s) vs f x = absurd x

fault_later : (line width : ℕ) (v : PlainValue) (vs : List PlainValue) (f : SourceFault) → FitsCell width v → IsRangeFault line width vs f → IsRangeFault line width (v ∷ vs) f
fault_later line width (Number n) vs f fits x = inr (fits, x)
fault_later line width (sources.Added s) vs f fits x = x

module _ (line width : ℕ) (all : List CellValue) (i : ℕ) (v : CellValue) (within : i < length all) (is : v ≡ get_or all i v) where
  abbrev Rest : List PlainValue
  Rest = map value_tree (drop (i + 1) all)

  here : map value_tree (drop i all) ≡ value_tree v ∷ Rest
  here = ap (map value_tree) (one all i v within is)

  pub range_stops : (f : SourceFault) → ((g : SourceFault) → IsRangeFault line width (map value_tree (drop i all)) g → IsRangeFault line width (map value_tree all) g)
      → IsRangeFault line width (value_tree v ∷ []) f → IsRangeFault line width (map value_tree all) f
  range_stops f whole x = let P : List PlainValue → Type 0 = λ vs. IsRangeFault line width vs f in whole f (subst P (sym here) (fault_here line width (value_tree v) Rest f x))

  pub range_on : FitsCell width (value_tree v) → ((g : SourceFault) → IsRangeFault line width (map value_tree (drop i all)) g → IsRangeFault line width (map value_tree all) g)
      → (g : SourceFault) → IsRangeFault line width Rest g → IsRangeFault line width (map value_tree all) g
  range_on fits whole g x = let P : List PlainValue → Type 0 = λ vs. IsRangeFault line width vs g in whole g (subst P (sym here) (fault_later line width (value_tree v) Rest g fits x))

  pub fits_on : FitsCell width (value_tree v) → (All (FitsCell width) (map value_tree (drop i all)) → All (FitsCell width) (map value_tree all)) → All (FitsCell width) Rest → All (FitsCell width) (map value_tree all)
  fits_on fits whole rest = let P : List PlainValue → Type 0 = λ vs. All (FitsCell width) vs in whole (subst P (sym here) (All-cons (FitsCell width) (value_tree v) Rest fits rest))

  pub lines_on : (old mid new : List PlainObjectLine) → new ≡ mid ++ value_lines width (value_tree v) → mid ++ values_lines width (map value_tree (drop i all)) ≡ old → new ++ values_lines width Rest ≡ old
  lines_on old mid new e whole =
      let own : List PlainObjectLine = value_lines width (value_tree v) in
      let moved : (mid ++ own) ++ values_lines width Rest ≡ mid ++ (own ++ values_lines width Rest) = simp append_assoc in
      ap (λ (ls : List PlainObjectLine). ls ++ values_lines width Rest) e ∙ moved ∙ sym (ap (λ (vs : List PlainValue). mid ++ values_lines width vs) here) ∙ whole
