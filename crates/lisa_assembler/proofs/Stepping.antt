-- A line without a fault is one step.
use Rattle.std.proofs.Common.{◌≡◌, inr, ℕ, List, [], ◌∷◌, ◌++◌, map, Option, None, Some, true, refl, sym, ap, subst, ◌∙◌, rules, append_assoc}
use Rattle.std.specs.Option.{IsSome}
use Rattle.lisa_tree.specs.Descriptions.{DescriptionTree}
use Rattle.lisa_engine.specs.declared.parts.ArrayItem.{ArrayItem}
use Rattle.asm_source.specs.Plain.{PlainLine}
use Rattle.asm_source.specs.declared.flaw.SourceFault.{SourceFault}
use Rattle.lisa_object.specs.Objects.{PlainObjectLine, Label}
use Rattle.placed_programs.specs.Entries.{Entry, Mark}
use Rattle.lisa_assembler.specs.Faults.{IsOutside, IsPartFault, IsCellsFault, IsFaultOf, outside, part, double, range, first_double, has_label}
use Rattle.lisa_assembler.specs.Sources.{SourceCell, ArePartEntries, line_names}
use Rattle.lisa_assembler.specs.Steps.{IsStep}
use Rattle.lisa_assembler.proofs.Written.{written, written-append, labels_written}

module _ (d : DescriptionTree) (here : Option ArrayItem) (names : List (List ℕ)) (l : PlainLine) (inside : IsOutside here l → ⊥) where
  no_fault : ((g : SourceFault) → IsPartFault d here l.line l.part g → ⊥) → first_double names (line_names l) ≡ None → ((g : SourceFault) → IsCellsFault here l.line l.part g → ⊥)
      → (f : SourceFault) → IsFaultOf d here names l f → ⊥
  no_fault whole single fits f (outside h is) = inside h
  no_fault whole single fits f (part h p) = whole f p
  no_fault whole single fits f (double h p n e is) = cc (single, e)
  no_fault whole single fits f (range h e r) = fits f r

  -- a line with labels stands in a section
  labels_placed : (h : Option ArrayItem) → here ≡ h → (l.labels ≡ [] → ⊥) → IsSome here
  labels_placed h is some = by h is
    where
      labelled : (ns : List (List ℕ)) → l.labels ≡ ns → has_label l.labels ≡ true
      labelled [] e = absurd (some e)
      labelled (n ∷ ns) e = ap has_label e

      by : (h : Option ArrayItem) → here ≡ h → IsSome here
      by None e = absurd (inside (e, inr (labelled l.labels refl)))
      by (Some m) e = let P : Option ArrayItem → Type 0 = λ o. IsSome o in subst P (sym e) (search rules)

  pub step : ((g : SourceFault) → IsPartFault d here l.line l.part g → ⊥) → first_double names (line_names l) ≡ None → ((g : SourceFault) → IsCellsFault here l.line l.part g → ⊥)
      → (own : List (Entry SourceCell)) → ArePartEntries d here l.part own
      → (old new : List PlainObjectLine) → new ≡ (old ++ map Label l.labels) ++ written d own
      → IsStep d here names l old new
  step whole single fits own are old new is = record {
    none = no_fault whole single fits;
    single = single;
    entries = map Mark l.labels ++ own;
    are = record { own = own; placed = labels_placed here refl; part = are; is = refl };
    written =
        let moved : (old ++ map Label l.labels) ++ written d own ≡ old ++ (map Label l.labels ++ written d own) = simp append_assoc in
        is
        ∙ moved
        ∙ ap (λ (ls : List PlainObjectLine). old ++ (ls ++ written d own)) (sym (labels_written d l.labels))
        ∙ ap (λ (ls : List PlainObjectLine). old ++ ls) (sym (written-append d (map Mark l.labels) own));
  }
