-- Overlaps of forms are words that two trees share, and the patterns that are kept are those of the forms.
use Rattle.std.proofs.Common.{◌≡◌, ◌<◌, ◌≤◌, ◌+◌, ℕ, suc, Bool, false, List, [], ◌∷◌, length, map, refl, sym, ap, ap₂, ◌∙◌, subst, arith}
use Rattle.std.specs.Prelude.{◌↔◌, Option, unwrap_or}
use Rattle.std.proofs.lemmas.List.{get_or-map}
use Rattle.lisa_tree.specs.Descriptions.{DescriptionTree}
use Rattle.lisa_tree.specs.Operations.{is_alias}
use Rattle.instruction_trees.specs.Bits.{Frame, Has, mask, pattern}
use Rattle.instruction_trees.specs.Trees.{Tree, Done, Form, form, form_bits, is_plain, tree_at}
use Rattle.instruction_trees.proofs.Relabelled.{bits_relabel, plain_relabel}
use Rattle.instruction_trees.proofs.Trees.{form_has}
use Rattle.form_patterns.specs.coding_tables.Codings.{coding_table}
use Rattle.form_patterns.specs.coding_tables.Instructions.{instruction_items, forms_of, form_count}
use Rattle.pattern_tables.specs.declared.bit_pattern.BitPattern.{BitPattern}
use Rattle.pattern_tables.specs.Instructions.{form_at}
use Rattle.pattern_tables.specs.Overlaps.{IsOverlap}
use Rattle.pattern_tables.specs.Probes.{probe_bound}
use Rattle.pattern_tables.specs.Patterns.{frame_at, IsPlain, AllStand}
use Rattle.pattern_tables.proofs.Treed.{decoded_tree, decoded_form}
use Rattle.form_patterns.specs.Instructions.{instruction_frames, instruction_plain, ArePatterns}
use Rattle.form_patterns.proofs.Standing.{all_fit}
use Rattle.lisa_forms.specs.declared.coding.Coding.{Coding}
use Rattle.lisa_forms.specs.Codings.{IsCodingOf, HasTree, SharesWord}
use Rattle.lisa_forms.specs.Rows.{frame_pattern, instruction_patterns}
use Rattle.lisa_forms.proofs.Fielded.{frame_is}
use Rattle.lisa_forms.proofs.Patterned.{frames_counted}
use Rattle.lisa_forms.proofs.Listed.{from_listed}

-- ---- patterns

alike : (p : BitPattern) (fs : Frame) → p.mask ≡ mask fs → p.pattern ≡ pattern fs → p ≡ frame_pattern fs
alike p fs m q = let of : ℕ → ℕ → BitPattern = λ a b. record { mask = a; pattern = b } in ap₂ of m q

stand_alike : (width : ℕ) (frames : List Frame) (ps : List BitPattern) → AllStand width frames ps → ps ≡ map frame_pattern frames
stand_alike width [] [] stand = refl
stand_alike width [] (p ∷ ps) stand = absurd (let l = stand.level in cc l)
stand_alike width (f ∷ frames) [] stand = absurd (let l = stand.level in cc l)
stand_alike width (f ∷ frames) (p ∷ ps) stand =
    let first = stand.each 0 p (omega arith) in
    ap₂ (λ (x : BitPattern) (xs : List BitPattern). x ∷ xs) (alike p f first.masked first.patterned)
    (stand_alike width frames ps (record { level = (let l = stand.level in omega (arith, l)); each = λ k d h. stand.each (suc k) d (omega (arith, h)) }))

module _ (d : DescriptionTree) where
  pub patterns_are : (width : Option ℕ) (ps : List BitPattern) → ArePatterns d width ps → ps ≡ instruction_patterns d
  patterns_are width ps are = stand_alike (unwrap_or width 0) (instruction_frames d) ps are

  pub bounded : (c : Coding) → IsCodingOf d c → (old new : ℕ) → new ≤ old + probe_bound c.patterns.items c.plain.items → new ≤ old + probe_bound (instruction_patterns d) (instruction_plain d)
  bounded c is old new h =
      subst (λ (ps : List BitPattern). new ≤ old + probe_bound ps (instruction_plain d)) (patterns_are c.width c.patterns.items is.all_patterns)
      (subst (λ (bs : List Bool). new ≤ old + probe_bound c.patterns.items bs) is.all_plain h)

  -- ---- overlaps

  inside : (k : ℕ) → k < form_count d → k < length (instruction_frames d)
  inside k h = let e = frames_counted d in omega (arith, e, h)

  has_word : (k w : ℕ) (t : Tree ℕ) → k < form_count d → HasTree d w t → form t ≡ form_at (forms_of d) k → Has w (frame_at (instruction_frames d) k)
  has_word k w t h tree formed =
      subst (λ (fs : Frame). Has w fs)
      (sym (bits_relabel (λ _. tt) (coding_table d) t (instruction_items d)) ∙ ap (λ (f : Form). form_bits (coding_table d) f (instruction_items d)) formed ∙ sym (frame_is d k h))
      (form_has (coding_table d) t (instruction_items d) w tree.has)

  plain_form : (k w : ℕ) (t : Tree ℕ) → k < form_count d → HasTree d w t → form t ≡ form_at (forms_of d) k → IsPlain (instruction_plain d) k
  plain_form k w t h tree formed =
      get_or-map (λ (f : Form). is_plain (is_alias d) f) (forms_of d) k Done false h
      ∙ ap (λ (f : Form). is_plain (is_alias d) f) (sym formed)
      ∙ plain_relabel (λ _. tt) (is_alias d) t
      ∙ tree.is_plain

  pub trees_share : (i j w : ℕ) → IsOverlap (instruction_frames d) (instruction_plain d) i j w ↔ SharesWord d i j w
  trees_share i j w = (
    λ o. (let within : j < form_count d = (let e = frames_counted d in let h = o.within in omega (arith, e, h)) in
        let before : i < length (instruction_frames d) = (let a = o.order in let b = o.within in omega (arith, a, b)) in
        record {
          order = o.order;
          within = within;
          first = tree_at (coding_table d) w 0 (form_at (forms_of d) i) (instruction_items d);
          second = tree_at (coding_table d) w 0 (form_at (forms_of d) j) (instruction_items d);
          first_has = from_listed d w (tree_at (coding_table d) w 0 (form_at (forms_of d) i) (instruction_items d)) (decoded_tree (coding_table d) (instruction_items d) (is_alias d) (forms_of d) w i (all_fit d) (before, o.first, o.one));
          second_has = from_listed d w (tree_at (coding_table d) w 0 (form_at (forms_of d) j) (instruction_items d)) (decoded_tree (coding_table d) (instruction_items d) (is_alias d) (forms_of d) w j (all_fit d) (o.within, o.second, o.other));
          first_formed = decoded_form (coding_table d) (instruction_items d) (is_alias d) (forms_of d) w i (all_fit d) (before, o.first, o.one);
          second_formed = decoded_form (coding_table d) (instruction_items d) (is_alias d) (forms_of d) w j (all_fit d) (o.within, o.second, o.other);
        }),
    λ s. (let before : i < form_count d = (let a = s.order in let b = s.within in omega (arith, a, b)) in
        record {
          order = s.order;
          within = inside j s.within;
          first = plain_form i w s.first before s.first_has s.first_formed;
          second = plain_form j w s.second s.within s.second_has s.second_formed;
          one = has_word i w s.first before s.first_has s.first_formed;
          other = has_word j w s.second s.within s.second_has s.second_formed;
        }),
  )
