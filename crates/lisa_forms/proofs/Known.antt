-- The words of trees are decoded.
use Rattle.std.proofs.Common.{◌≡◌, ◌<◌, ℕ, Bool, true, false, [], Option, None, Some, refl, sym, ap, ◌∙◌, subst, inl, inr}
use Rattle.std.specs.Prelude.{option_map, MatchOption}
use Rattle.std.proofs.lemmas.Bool.{cases_order}
use Rattle.std.proofs.lemmas.List.{get_or-map}
use Rattle.lisa_tree.specs.Descriptions.{DescriptionTree}
use Rattle.lisa_tree.specs.Operations.{is_alias}
use Rattle.form_promises.specs.lisa_machine.Verdicts.{IsAccepted}
use Rattle.instruction_trees.specs.Bits.{Frame, Has}
use Rattle.instruction_trees.specs.Trees as plain
use Rattle.instruction_trees.specs.Trees.{Tree, Done, Fits, IsBelow, form, is_plain, tree_at, bits, form_bits}
use Rattle.instruction_trees.specs.Words.{word_of}
use Rattle.instruction_trees.proofs.Trees.{form_has}
use Rattle.instruction_trees.proofs.Relabelled.{bits_relabel, plain_relabel}
use Rattle.instruction_trees.proofs.FormWords.{pattern_has}
use Rattle.form_patterns.specs.coding_tables.Codings.{coding_table}
use Rattle.form_patterns.specs.coding_tables.Instructions.{instruction_items, forms_of, form_count}
use Rattle.pattern_tables.specs.Overlaps.{AnswersOverlap, AnswersUncovered}
use Rattle.pattern_tables.specs.Tables.{IsDecoded}
use Rattle.pattern_tables.specs.Instructions.{form_at}
use Rattle.pattern_tables.proofs.Treed.{decoded_tree, decoded_word}
use Rattle.form_patterns.specs.Instructions.{instruction_frames, instruction_plain}
use Rattle.form_patterns.proofs.Standing.{all_fit}
use Rattle.lisa_forms.specs.declared.coding.Coding.{Coding}
use Rattle.lisa_forms.specs.Codings.{HasTree, IsCodingOf, IsDecodedAs}
use Rattle.lisa_forms.specs.Coverage.{not_an_alias, IsUncoveredVerdict}
use Rattle.lisa_forms.proofs.Patterned.{frames_counted}
use Rattle.lisa_forms.proofs.Listed.{from_listed, tree_listed}

module _ (d : DescriptionTree) where
  pub own_word : (t : Tree ℕ) → Fits IsBelow (coding_table d) t (instruction_items d) → is_plain (is_alias d) t ≡ true → HasTree d (word_of (coding_table d) t (instruction_items d)) t
  own_word t fits plain = record { fits = fits; is_plain = plain; has = pattern_has (bits (coding_table d) t (instruction_items d)) }

  pub plain_known : (t : Tree ℕ) (found : Option ℕ) → Fits IsBelow (coding_table d) t (instruction_items d) → is_plain (is_alias d) t ≡ true
      → IsDecodedAs d (word_of (coding_table d) t (instruction_items d)) found → MatchOption found ⊥ (λ k. form_at (forms_of d) k ≡ form t)
  plain_known t None fits plain is = is t (own_word t fits plain)
  plain_known t (Some k) fits plain is = sym is.formed ∙ ap (λ (u : Tree ℕ). form u) (sym (is.only t (own_word t fits plain)))

  -- without a plain tree there is no plain form either
  unknown : (w : ℕ) → IsDecodedAs d w None → IsDecoded (instruction_frames d) (instruction_plain d) w None
  unknown w is k within plain has =
      let t = tree_at (coding_table d) w 0 (form_at (forms_of d) k) (instruction_items d) in
      is t (from_listed d w t (decoded_tree (coding_table d) (instruction_items d) (is_alias d) (forms_of d) w k (all_fit d) (within, plain, has)))

  none_uncovered : (form : Option ℕ) → None ≡ option_map (not_an_alias d) form → AnswersUncovered (instruction_frames d) (instruction_plain d) form → AnswersUncovered (instruction_frames d) (instruction_plain d) None
  none_uncovered None e answers = answers
  none_uncovered (Some k) e answers = absurd (cc e)

  pub covered_known : (t : Tree ℕ) → IsAccepted d → IsUncoveredVerdict d None → Fits IsBelow (coding_table d) t (instruction_items d) → IsDecodedAs d (word_of (coding_table d) t (instruction_items d)) None → ⊥
  covered_known t accepted v fits is =
      decoded_word (coding_table d) (instruction_items d) (is_alias d) (forms_of d) t (none_uncovered v.form v.is v.first) (tree_listed d t accepted fits) (unknown (word_of (coding_table d) t (instruction_items d)) is)

  -- ---- a word is decoded as one form

  -- the form of a plain tree that has a word has the word
  has_form : (w k : ℕ) (t : Tree ℕ) → k < form_count d → form t ≡ form_at (forms_of d) k → HasTree d w t → IsDecoded (instruction_frames d) (instruction_plain d) w (Some k)
  has_form w k t within formed has =
      let table = coding_table d in
      let items = instruction_items d in
      let plain_one : (plain.Form → Bool) = λ f. is_plain (is_alias d) f in
      let frame : (plain.Form → Frame) = λ f. form_bits table f items in (
        subst (λ (n : ℕ). k < n) (sym (frames_counted d)) within,
        get_or-map plain_one (forms_of d) k Done false within ∙ ap plain_one (sym formed) ∙ plain_relabel (λ _. tt) (is_alias d) t ∙ has.is_plain,
        subst (λ (fs : Frame). Has w fs) (sym (bits_relabel (λ _. tt) table t items) ∙ ap frame formed ∙ sym (get_or-map frame (forms_of d) k Done [] within)) (form_has table t items w has.has),
      )

  one_number : (w i j : ℕ) → AnswersOverlap (instruction_frames d) (instruction_plain d) None
      → IsDecoded (instruction_frames d) (instruction_plain d) w (Some i) → IsDecoded (instruction_frames d) (instruction_plain d) w (Some j) → i ≡ j
  one_number w i j apart a b = elim (cases_order i j) [
    | inl e ↦ e
    | inr o ↦ (elim o [
      | inl less ↦ absurd (apart i j w (record { order = less; within = b.0; first = a.1; second = b.1; one = a.2; other = b.2 }))
      | inr more ↦ absurd (apart j i w (record { order = more; within = a.0; first = b.1; second = a.1; one = b.2; other = a.2 }))
    ])
  ]

  pub one_form : (c : Coding) (w : ℕ) (r s : Option ℕ) → IsCodingOf d c → IsDecodedAs d w r → IsDecodedAs d w s → r ≡ s
  one_form c w None None is a b = refl
  one_form c w None (Some j) is a b = absurd (a b.tree b.has)
  one_form c w (Some i) None is a b = absurd (b a.tree a.has)
  one_form c w (Some i) (Some j) is a b =
      ap (λ (n : ℕ). Some n) (one_number w i j is.apart (has_form w i a.tree a.within a.formed a.has) (has_form w j b.tree b.within b.formed b.has))
