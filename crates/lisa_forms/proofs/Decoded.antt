-- From frames to the plain trees of a description.
use Rattle.std.proofs.Common.{◌<◌, ◌^◌, ℕ, Bool, List, Option, None, Some, subst, arith}
use Rattle.std.specs.Prelude.{unwrap_or}
use Rattle.lisa_tree.specs.Descriptions.{DescriptionTree}
use Rattle.lisa_tree.specs.Operations.{is_alias}
use Rattle.form_promises.specs.lisa_machine.Verdicts.{IsAccepted}
use Rattle.instruction_trees.specs.Trees.{tree_at}
use Rattle.instruction_trees.proofs.FormWords.{read_values}
use Rattle.form_patterns.specs.coding_tables.Codings.{coding_table}
use Rattle.form_patterns.specs.coding_tables.Instructions.{instruction_items, forms_of}
use Rattle.pattern_tables.specs.declared.bit_pattern.BitPattern.{BitPattern}
use Rattle.pattern_tables.specs.Patterns.{AllStand}
use Rattle.pattern_tables.specs.Overlaps.{AnswersOverlap}
use Rattle.pattern_tables.specs.Tables.{IsDecoded, AnswersForm, HoldPlain}
use Rattle.pattern_tables.specs.Instructions.{form_at}
use Rattle.pattern_tables.proofs.Treed.{decoded_tree, decoded_form, only_decoded, none_decoded}
use Rattle.form_patterns.specs.Instructions.{instruction_frames, instruction_plain}
use Rattle.form_patterns.proofs.Standing.{all_fit}
use Rattle.lisa_forms.specs.declared.coding.Coding.{Coding}
use Rattle.lisa_forms.specs.Codings.{IsCodingOf, IsDecodedAs}
use Rattle.lisa_forms.proofs.Patterned.{frames_counted}
use Rattle.lisa_forms.proofs.Listed.{from_listed, to_listed}

module _ (d : DescriptionTree) (w : ℕ) where
  pub decoded : (r : Option ℕ) → IsAccepted d → AnswersOverlap (instruction_frames d) (instruction_plain d) None → IsDecoded (instruction_frames d) (instruction_plain d) w r → IsDecodedAs d w r
  decoded None accepted apart is = λ t has. none_decoded (coding_table d) (instruction_items d) (is_alias d) (forms_of d) w is t (to_listed d w t accepted has)
  decoded (Some k) accepted apart is = record {
    within = subst (λ (n : ℕ). k < n) (frames_counted d) is.0;
    tree = tree_at (coding_table d) w 0 (form_at (forms_of d) k) (instruction_items d);
    has = from_listed d w (tree_at (coding_table d) w 0 (form_at (forms_of d) k) (instruction_items d)) (decoded_tree (coding_table d) (instruction_items d) (is_alias d) (forms_of d) w k (all_fit d) is);
    formed = decoded_form (coding_table d) (instruction_items d) (is_alias d) (forms_of d) w k (all_fit d) is;
    read = read_values (coding_table d) (instruction_items d) (form_at (forms_of d) k) w;
    only = λ t has. only_decoded (coding_table d) (instruction_items d) (is_alias d) (forms_of d) w k apart is t (to_listed d w t accepted has);
  }

  -- a word of more bits than an instruction is none
  too_wide : (width : ℕ) (ps : List BitPattern) → AllStand width (instruction_frames d) ps → (w < 2 ^ width → ⊥) → IsDecoded (instruction_frames d) (instruction_plain d) w None
  too_wide width ps stand wide k h plain has =
      let e : BitPattern = record { mask = 0; pattern = 0 } in
      let l = stand.level in
      let s = stand.each k e (omega (arith, h, l)) in
      wide (subst (λ (n : ℕ). w < 2 ^ n) s.wide has.below)

  pub wider : (c : Coding) → IsCodingOf d c → (w < 2 ^ unwrap_or c.width 0 → ⊥) → IsDecodedAs d w None
  wider c is wide = decoded None is.accepted is.apart (too_wide (unwrap_or c.width 0) c.patterns.items is.all_patterns wide)

  pub answered : (c : Coding) (r : Option ℕ) → IsCodingOf d c → w < 2 ^ unwrap_or c.width 0 → AnswersForm c.decoder w r → IsDecodedAs d w r
  answered c r is below answers =
      decoded r is.accepted is.apart
      (answers (unwrap_or c.width 0) (instruction_frames d) c.patterns.items (instruction_plain d)
      (subst (λ (bs : List Bool). HoldPlain c.patterns.items bs c.decoder) is.all_plain is.tables) is.all_patterns below)
