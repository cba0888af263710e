-- The word of an instruction is read back and decoded.
use Rattle.std.proofs.Common.{◌≡◌, ◌<◌, ◌+◌, ℕ, List, None, Some, true, map, sym, ap, ◌∙◌, subst}
use Rattle.lisa_tree.specs.Descriptions.{DescriptionTree}
use Rattle.lisa_tree.specs.Operations.{is_alias}
use Rattle.form_promises.specs.lisa_machine.Verdicts.{IsAccepted}
use Rattle.instruction_trees.specs.Trees as plain
use Rattle.instruction_trees.specs.Trees.{Tree, bits, form, is_plain, slice}
use Rattle.instruction_trees.specs.Values.{values, sum_of, weigh}
use Rattle.instruction_trees.specs.Words.{word_of}
use Rattle.instruction_trees.proofs.FormWords.{only_tree, pattern_has, read_values}
use Rattle.form_patterns.specs.coding_tables.Codings.{coding_table}
use Rattle.form_patterns.specs.coding_tables.Instructions.{instruction_items, forms_of, form_count}
use Rattle.pattern_tables.specs.Overlaps.{AnswersOverlap}
use Rattle.pattern_tables.specs.Instructions.{form_at}
use Rattle.pattern_tables.proofs.Treed.{one_plain_tree}
use Rattle.form_patterns.specs.Instructions.{instruction_frames, instruction_plain, field_places}
use Rattle.form_patterns.specs.Filled.{AreValuesOf, IsInstruction}
use Rattle.form_patterns.specs.Rows.{pairs_at}
use Rattle.form_patterns.proofs.Filling.{instruction_of}
use Rattle.lisa_forms.specs.declared.coding.Coding.{Coding}
use Rattle.lisa_forms.specs.Rows.{pattern_at}
use Rattle.lisa_forms.specs.Codings.{HasTree, IsCodingOf, IsDecodedAs}
use Rattle.lisa_forms.specs.Coverage.{IsUncoveredVerdict}
use Rattle.lisa_forms.proofs.Fielded.{tree_word, form_within}
use Rattle.lisa_forms.proofs.Known.{own_word, covered_known}
use Rattle.lisa_forms.proofs.Listed.{to_listed}

module _ (d : DescriptionTree) (k : ℕ) (vs : List ℕ) where
  -- ---- a tree and its word

  read_back : (t : Tree ℕ) → IsInstruction d k vs t → map (slice (word_of (coding_table d) t (instruction_items d))) (field_places d (form_at (forms_of d) k)) ≡ vs
  read_back t is =
      let table = coding_table d in
      let items = instruction_items d in
      let w = word_of table t items in
      ap (λ (f : plain.Form). map (slice w) (field_places d f)) (sym is.formed)
      ∙ sym (read_values table items (form t) w)
      ∙ ap values (sym (only_tree table items t w is.fits (pattern_has (bits table t items))))
      ∙ is.valued

  plain_word : (t : Tree ℕ) → k < form_count d → IsInstruction d k vs t → is_plain (is_alias d) t ≡ true → IsAccepted d → AnswersOverlap (instruction_frames d) (instruction_plain d) None
      → IsDecodedAs d (word_of (coding_table d) t (instruction_items d)) (Some k)
  plain_word t within is plain_one accepted apart =
      let w = word_of (coding_table d) t (instruction_items d) in
      let own : HasTree d w t = own_word d t is.fits plain_one in
      record {
        within = within;
        tree = t;
        has = own;
        formed = is.formed;
        read = is.valued ∙ sym (read_back t is);
        only = λ u has. one_plain_tree (coding_table d) (instruction_items d) (is_alias d) (forms_of d) w apart u t (to_listed d w u accepted has) (to_listed d w t accepted own);
      }

  -- ---- the word that a coding makes

  -- the literal bits and the values at their places
  abbrev pub IsMade : Coding → ℕ → Type 0
  IsMade c w = w ≡ pattern_at c.patterns.items k + sum_of (weigh vs (pairs_at c.places.items k))

  module _ (c : Coding) (w : ℕ) (is : IsCodingOf d c) (made : IsMade c w) (are : AreValuesOf d k vs) where
    pub word_is : (t : Tree ℕ) → IsInstruction d k vs t → w ≡ word_of (coding_table d) t (instruction_items d)
    word_is t of = made ∙ tree_word d c.width c.patterns.items is.has_width is.all_patterns c.places.items is.all_places k t vs (form_within d c is k are.within) of

    pub fields_are : map (slice w) (field_places d (form_at (forms_of d) k)) ≡ vs
    fields_are =
        let own = instruction_of d k vs are in
        ap (λ (n : ℕ). map (slice n) (field_places d (form_at (forms_of d) k))) (word_is own.0 own.1) ∙ read_back own.0 own.1

    pub decoded_as : (t : Tree ℕ) → IsInstruction d k vs t → is_plain (is_alias d) t ≡ true → IsDecodedAs d w (Some k)
    decoded_as t of plain_one = subst (λ (n : ℕ). IsDecodedAs d n (Some k)) (sym (word_is t of)) (plain_word t are.within of plain_one is.accepted is.apart)

    pub covered_as : IsUncoveredVerdict d None → IsDecodedAs d w None → ⊥
    covered_as verdict none =
        let own = instruction_of d k vs are in
        covered_known d own.0 is.accepted verdict own.1.fits (subst (λ (n : ℕ). IsDecodedAs d n None) (word_is own.0 own.1) none)
