-- The lists that are kept of a description's forms have one length.
use Rattle.std.proofs.Common.{◌≡◌, ◌<◌, ◌^◌, ℕ, Bool, List, Option, None, Some, length, refl, sym, ap, ◌∙◌, subst, arith}
use Rattle.std.specs.Prelude.{slice_index_or, bit_or, unwrap_or}
use Rattle.std.proofs.lemmas.List.{length-map}
use Rattle.lisa_tree.specs.declared.faults.DescFault.{DescFault}
use Rattle.lisa_tree.specs.declared.faults.DescFault.TheVariants as faults
use Rattle.lisa_tree.specs.Descriptions.{DescriptionTree}
use Rattle.lisa_tree.specs.Operations.{is_alias}
use Rattle.instruction_trees.specs.Bits.{Frame, pattern}
use Rattle.instruction_trees.specs.Trees as plain
use Rattle.instruction_trees.specs.Trees.{form_bits, is_plain}
use Rattle.form_patterns.specs.coding_tables.Codings.{coding_table}
use Rattle.form_patterns.specs.coding_tables.Instructions.{instruction_items, forms_of, form_count}
use Rattle.form_patterns.specs.instruction_forms.declared.form.Form.{Form}
use Rattle.form_patterns.specs.instruction_forms.Trees.{form_tree}
use Rattle.form_patterns.specs.instruction_forms.Described.{instruction_form, AreForms}
use Rattle.pattern_tables.specs.Patterns.{frame_at, AllStand}
use Rattle.pattern_tables.specs.Overlaps.{AnswersOverlap, AnswersUncovered}
use Rattle.pattern_tables.specs.Clashes.{IsFirstClash}
use Rattle.pattern_tables.specs.declared.bit_pattern.BitPattern.{BitPattern}
use Rattle.pattern_tables.specs.declared.overlaps.Overlap.{Overlap}
use Rattle.form_patterns.specs.Instructions.{instruction_frames, instruction_plain, ArePatterns}
use Rattle.lisa_forms.specs.declared.forms.Forms.{Forms}
use Rattle.lisa_forms.specs.Parts.{AreFormsOf}
use Rattle.lisa_forms.specs.Verdicts.{form_name_at}
use Rattle.lisa_forms.specs.Coverage.{overlap, IsJoined, IsOverlapVerdict, IsUncoveredVerdict}

module _ (d : DescriptionTree) where
  pub frames_counted : length (instruction_frames d) ≡ form_count d
  frames_counted = length-map (forms_of d) (λ (f : plain.Form). form_bits (coding_table d) f (instruction_items d))

  pub plain_counted : length (instruction_plain d) ≡ form_count d
  plain_counted = length-map (forms_of d) (λ (f : plain.Form). is_plain (is_alias d) f)

  pub forms_counted : (all : List Form) → AreForms d all → length all ≡ form_count d
  forms_counted all are = sym (length-map all form_tree) ∙ ap length are ∙ length-map (forms_of d) (instruction_form d)

  pub patterns_counted : (width : Option ℕ) (ps : List BitPattern) → ArePatterns d width ps → length ps ≡ form_count d
  patterns_counted width ps are = sym are.level ∙ frames_counted

  -- as many as there are patterns
  pub plain_level : (width : Option ℕ) (ps : List BitPattern) (bs : List Bool) → ArePatterns d width ps → bs ≡ instruction_plain d → length bs ≡ length ps
  plain_level width ps bs are is = ap length is ∙ plain_counted ∙ sym (patterns_counted width ps are)

  -- the word of the first two patterns that clash
  pub joined : (width : Option ℕ) (ps : List BitPattern) (bs : List Bool) (o : Overlap) → ArePatterns d width ps → IsFirstClash ps bs o → IsJoined d o
  joined width ps bs o are clash =
      let e : BitPattern = record { mask = 0; pattern = 0 } in
      let order = clash.clash.order in
      let within = clash.clash.within in
      clash.word e
      ∙ ap (λ (p : ℕ). bit_or p (slice_index_or ps o.second e).pattern) (are.each o.first e (omega (arith, order, within))).patterned
      ∙ ap (λ (q : ℕ). bit_or (pattern (frame_at (instruction_frames d) o.first)) q) (are.each o.second e within).patterned

  -- ---- a form by its number

  pub forms_level : (f : Forms) → AreFormsOf d f → length f.forms.items ≡ form_count d
  forms_level f are = forms_counted f.forms.items are.all_forms

  pub small : (f : Forms) (k : ℕ) → AreFormsOf d f → k < length f.forms.items → k < 2 ^ 32
  small f k are h = let few = are.limits.few_forms in let l = forms_level f are in omega (arith, h, few, l)

  pub first_uncovered_is : (f : Forms) (ps : List BitPattern) (bs : List Bool) (r : Option ℕ) → AreFormsOf d f → ArePatterns d f.width ps → bs ≡ f.plain.items
      → ((width : ℕ) (frames : List Frame) → AllStand width frames ps → AnswersUncovered frames bs r) → AnswersUncovered (instruction_frames d) (instruction_plain d) r
  first_uncovered_is f ps bs r are stand same answers =
      subst (λ (xs : List Bool). AnswersUncovered (instruction_frames d) xs r) (same ∙ are.all_plain) (answers (unwrap_or f.width 0) (instruction_frames d) stand)

  pub uncovered_within : (f : Forms) (r : Option ℕ) (k : ℕ) → AreFormsOf d f → r ≡ Some k → AnswersUncovered (instruction_frames d) (instruction_plain d) r → k < length f.forms.items
  uncovered_within f r k are is answers =
      let first = subst (λ (x : Option ℕ). AnswersUncovered (instruction_frames d) (instruction_plain d) x) is answers in
      let h = first.within in
      let l = forms_level f are in
      let m = frames_counted in
      omega (arith, h, l, m)

  pub verdict_none : (r : Option ℕ) → r ≡ None → AnswersUncovered (instruction_frames d) (instruction_plain d) r → IsUncoveredVerdict d None
  verdict_none r is answers = record { form = None; first = subst (λ (x : Option ℕ). AnswersUncovered (instruction_frames d) (instruction_plain d) x) is answers; is = refl }

  pub verdict_some : (r : Option ℕ) (k : ℕ) (name : List ℕ) → r ≡ Some k → AnswersUncovered (instruction_frames d) (instruction_plain d) r → name ≡ form_name_at d k → IsUncoveredVerdict d (Some (faults.NotAnAlias name))
  verdict_some r k name is answers e = record {
    form = Some k;
    first = subst (λ (x : Option ℕ). AnswersUncovered (instruction_frames d) (instruction_plain d) x) is answers;
    is = ap (λ (n : List ℕ). Some (faults.NotAnAlias n)) e;
  }

  -- ---- overlaps

  pub first_overlap_is : (f : Forms) (ps : List BitPattern) (bs : List Bool) (r : Option Overlap) → AreFormsOf d f → ArePatterns d f.width ps → bs ≡ f.plain.items
      → ((width : ℕ) (frames : List Frame) → AllStand width frames ps → AnswersOverlap frames bs r) → AnswersOverlap (instruction_frames d) (instruction_plain d) r
  first_overlap_is f ps bs r are stand same answers =
      subst (λ (xs : List Bool). AnswersOverlap (instruction_frames d) xs r) (same ∙ are.all_plain) (answers (unwrap_or f.width 0) (instruction_frames d) stand)

  pub overlap_verdict : (f : Forms) (o : Overlap) (ps : List BitPattern) (bs : List Bool) (fault : DescFault) → ArePatterns d f.width ps → AnswersOverlap (instruction_frames d) (instruction_plain d) (Some o)
      → IsFirstClash ps bs o → fault ≡ overlap d o → IsOverlapVerdict d (Some fault)
  overlap_verdict f o ps bs fault stand answers clash e = record { pair = Some o; first = answers; word = joined f.width ps bs o stand clash; is = ap (λ (x : DescFault). Some x) e }
