-- After any edges, what stands and what moves along has an item.
use Rattle.std.proofs.Common.{◌≡◌, ◌≢◌, ◌<◌, ◌≤◌, ◌+◌, ◌-◌, ◌∙◌, ℕ, zero, suc, Bool, true, false, cond, List, [], ◌∷◌, Option, None, Some, length, map, get_or, nat_eq, nat_lt, nat_le, refl, sym, ap, subst, arith}
use Rattle.std.specs.Prelude.{find, is_some, option_map, slice_get, unwrap_or, AllPairs}
use Rattle.std.specs.Option.{option_map_or}
use Rattle.std.specs.List.{range_with_len}
use Rattle.std.proofs.lemmas.Bool.{and_from, both_ways, eq-eqb, ne_eqb, lt-ltb, le-leb}
use Rattle.std.proofs.lemmas.List.{length-map}
use Rattle.std.proofs.lemmas.List.FromFn.{get_or-map-range_with_len}
use Rattle.std.proofs.lemmas.Option.{slice_get_within, same_Some}
use Rattle.lisa_tree.specs.Descriptions.{DescriptionTree}
use Rattle.lisa_engine.specs.declared.parts.ArrayItem.{ArrayItem}
use Rattle.lisa_engine.specs.Memory.{Memory}
use Rattle.lisa_tree.specs.Resources.{stages, fields}
use Rattle.lisa_tree.specs.Operations.{is_root}
use Rattle.use_promises.specs.machine_parts.Parts.{arrays_of, registers_of}
use Rattle.use_promises.specs.machine_parts.Laws.{HaveWidths}
use Rattle.lisa_forms.specs.activation_trees.declared.parts.Occurrence.{Occurrence}
use Rattle.lisa_forms.specs.activation_trees.Unfolding.{occurrences}
use Rattle.lisa_forms.specs.activation_trees.Items.{stage_or_first, root_stage, is_between, has_bit}
use Rattle.instruction_trees.specs.Trees.{Form, form_bits, instructions}
use Rattle.instruction_trees.specs.Forms.{forms}
use Rattle.lisa_tree.specs.Paths.{node_count}
use Rattle.lisa_forms.specs.coding_tables.Codings.{choice_alternatives, coding_table}
use Rattle.lisa_forms.specs.coding_tables.Instructions.{instruction_choice, instruction_items, forms_of}
use Rattle.lisa_forms.specs.pattern_tables.Tables.{IsDecoded}
use Rattle.lisa_forms.specs.form_patterns.Instructions.{instruction_frames, instruction_plain}
use Rattle.item_layouts.specs.declared.place.ItemPlace.TheVariants.{Bit, Word}
use Rattle.item_layouts.specs.Layouts.{HasPlace}
use Rattle.pipeline_time.specs.Acts.{Node}
use Rattle.pipeline_time.specs.Cores.{all_nodes, node_of, level_of_slots}
use Rattle.pipeline_time.specs.Journal.{standing, slots, stands, stage_word}
use Rattle.pipeline_time.specs.States.{State, edge_of, first_state, after}
use Rattle.pipeline_time.specs.Sound.{IsSound}
use Rattle.pipeline_time.proofs.Tree.{level_within}
use Rattle.pipeline_time.proofs.Agree.{between, good_past}
use Rattle.pipeline_time.proofs.Behind.{stands_behind}
use Rattle.lisa_meaning.specs.Scenes.{form_with}
use Rattle.lisa_meaning.specs.Moments.{Contents, field_at, closed_field, by_boundaries}
use Rattle.lisa_meaning.specs.Trees.{level_of_stage}
use Rattle.lisa_meaning.specs.Cores.{core_of, root_occurrence, root_level, decodes}
use Rattle.lisa_meaning.specs.States.{first_word, layout_of, first_contents, after_edges}
use Rattle.lisa_meaning.specs.Laws.{Listed, node_listed, occurrence_listed, listed_from, TreesAreOccurrences}
use Rattle.lisa_meaning.specs.Showing.{EdgesHaveItems}
use Rattle.lisa_meaning.proofs.Words.{with_form}
use Rattle.lisa_meaning.proofs.Slots.{after_kept, word_has}
use Rattle.lisa_meaning.proofs.Shaped.{first_stored, stored_after}
use Rattle.lisa_meaning.proofs.Showing.{boundaries_same}

-- ---- fields

module _ (d : DescriptionTree) where
  held_again : (g : ℕ → ℕ → ℕ) (s f : ℕ) → s < length (stages d) - 1 → f < length (fields d) → g s f ≡ field_at (by_boundaries d g) s f
  held_again g s f low inside =
      sym
      (ap (λ (row : List ℕ). get_or row f 0) (get_or-map-range_with_len (λ t. map (g t) (range_with_len 0 (length (fields d)))) 0 (length (stages d) - 1) s s [] low (omega arith))
      ∙ get_or-map-range_with_len (g s) 0 (length (fields d)) f f 0 inside (omega arith))

  abbrev Rowed : List (List ℕ) → Type 0
  Rowed all = all ≡ by_boundaries d (field_at all)

  rowed : (g : ℕ → ℕ → ℕ) → Rowed (by_boundaries d g)
  rowed g = boundaries_same d g (field_at (by_boundaries d g)) (held_again g)

  rowed_after : (image : List Memory) (entries : List (List ℕ)) → Rowed (after_edges d image entries).memory.fields
  rowed_after image entries =
      after_kept (core_of d) (λ (s : State Contents). Rowed s.memory.fields)
      (λ state pins kept. rowed (closed_field (edge_of (core_of d) pins state).moment))
      (first_state (core_of d) (first_contents d image)) entries (rowed (λ s f. 0))

-- ---- nodes by their numbers

numbered : (n : ℕ) (nodes : List Node) (xs : List Occurrence) → map node_listed nodes ≡ listed_from n xs → (i k : ℕ) → n + i ≡ k → option_map node_listed (find (λ (node : Node). nat_eq node.number k) nodes) ≡ option_map (occurrence_listed k) (slice_get xs i)
numbered n [] [] e i k at = refl
numbered n [] (x ∷ xs) e i k at = absurd (cc e)
numbered n (node ∷ nodes) [] e i k at = absurd (cc e)
numbered n (node ∷ nodes) (x ∷ xs) e zero k at =
    let h : node_listed node ≡ occurrence_listed n x = cc e in
    let number : node.number ≡ n = ap (λ (l : Listed). l.number) h in
    let same : n ≡ k = omega (arith, at) in
    ap (λ (b : Bool). option_map node_listed (cond b (Some node) (find (λ (other : Node). nat_eq other.number k) nodes))) (eq-eqb node.number k (number ∙ same))
    ∙ ap (λ (l : Listed). Some l) (h ∙ ap (λ (m : ℕ). occurrence_listed m x) same)
numbered n (node ∷ nodes) (x ∷ xs) e (suc i) k at =
    let h : node_listed node ≡ occurrence_listed n x = cc e in
    let rest : map node_listed nodes ≡ listed_from (suc n) xs = cc e in
    let number : node.number ≡ n = ap (λ (l : Listed). l.number) h in
    ap (λ (b : Bool). option_map node_listed (cond b (Some node) (find (λ (other : Node). nat_eq other.number k) nodes))) (ne_eqb node.number k (λ same. omega (arith, at, number, same)))
    ∙ numbered (suc n) nodes xs rest i k (omega (arith, at))

above_told : (k : ℕ) (o : Option Node) (r : Option Occurrence) → option_map node_listed o ≡ option_map (occurrence_listed k) r → unwrap_or (option_map (λ (node : Node). node.above) o) 0 ≡ unwrap_or (option_map (λ (x : Occurrence). level_of_stage x.from) r) 0
above_told k None None e = refl
above_told k None (Some x) e = absurd (cc e)
above_told k (Some node) None e = absurd (cc e)
above_told k (Some node) (Some x) e = ap (λ (l : Listed). l.above) (same_Some (node_listed node) (occurrence_listed k x) e)

level_told : (k : ℕ) (o : Option Node) (r : Option Occurrence) → option_map node_listed o ≡ option_map (occurrence_listed k) r → unwrap_or (option_map (λ (node : Node). node.level) o) 0 ≡ unwrap_or (option_map (λ (x : Occurrence). level_of_stage x.stage) r) 0
level_told k None None e = refl
level_told k None (Some x) e = absurd (cc e)
level_told k (Some node) None e = absurd (cc e)
level_told k (Some node) (Some x) e = ap (λ (l : Listed). l.level) (same_Some (node_listed node) (occurrence_listed k x) e)

-- ---- bits

stage_between : (from stage : Option ℕ) (s : ℕ) → 0 < level_of_stage from → level_of_stage from < suc s → suc s ≤ level_of_stage stage → is_between from s stage ≡ true
stage_between None stage s low above below = absurd (omega (arith, low))
stage_between (Some f) None s low above below = absurd (omega (arith, below))
stage_between (Some f) (Some t) s low above below = and_from (nat_lt f s) (nat_le s t) (lt-ltb f s (omega (arith, above))) (le-leb s t (omega (arith, below)))

module _ (d : DescriptionTree) where
  -- the bit of a level has an item
  abbrev HasBit : ℕ → ℕ → Type 0
  HasBit level k = (s : ℕ) × (level ≡ suc s) × HasPlace (layout_of d) (Bit s k)

  bit_placed : (level k : ℕ) (r : Option Occurrence) → slice_get (occurrences d) k ≡ r → 0 < unwrap_or (option_map (λ (x : Occurrence). level_of_stage x.from) r) 0 → unwrap_or (option_map (λ (x : Occurrence). level_of_stage x.from) r) 0 < level → level ≤ unwrap_or (option_map (λ (x : Occurrence). level_of_stage x.stage) r) 0 → level ≤ length (stages d)
      → HasBit level k
  bit_placed zero k r is low above below within = absurd (omega (arith, above))
  bit_placed (suc s) k None is low above below within = absurd (omega (arith, low))
  bit_placed (suc s) k (Some x) is low above below within = (
    s,
    refl,
    (
      omega (arith, within),
      slice_get_within (occurrences d) k x is,
      ap (λ (o : Option Occurrence). option_map_or (has_bit s) o false) is ∙ stage_between x.from x.stage s low above below,
    ),
  )

  module _ (same : TreesAreOccurrences d) (sound : IsSound (core_of d)) where
    node_told : (k : ℕ) → option_map node_listed (node_of (core_of d) k) ≡ option_map (occurrence_listed k) (slice_get (occurrences d) k)
    node_told k = numbered 0 (all_nodes (core_of d)) (occurrences d) same k k (omega arith)

    bit_itemed : (first : Contents) (entries : List (List ℕ)) (level k : ℕ) (o : Option ℕ) → stands (core_of d) (after (core_of d) first entries).past level k ≡ o → is_some o ≡ true → HasBit level k
    bit_itemed first entries level k None e is = absurd (both_ways false refl is)
    bit_itemed first entries level k (Some w) e is =
        let b = between (core_of d) (after (core_of d) first entries).past level k w (good_past (core_of d) sound first entries) e in
        let above = above_told k (node_of (core_of d) k) (slice_get (occurrences d) k) (node_told k) in
        let own = level_told k (node_of (core_of d) k) (slice_get (occurrences d) k) (node_told k) in
        let within = level_within (core_of d) sound k in
        bit_placed level k (slice_get (occurrences d) k) refl
        (subst (λ (n : ℕ). 0 < n) above b.staged)
        (subst (λ (n : ℕ). n < level) above b.after_activator)
        (subst (λ (n : ℕ). level ≤ n) own b.until_own)
        (let until = b.until_own in omega (arith, until, within))

  -- ---- words

  -- without an instruction no word is one's
  none_decodes : instruction_choice d ≡ None → (w : ℕ) → decodes d w ≡ true → w ≡ 0
  none_decodes none w is = by (form_with d w) refl is (with_form d w)
    where
      count : length (instruction_frames d) ≡ 0
      count =
          length-map (forms_of d) (λ (f : Form). form_bits (coding_table d) f (instruction_items d))
          ∙ ap (λ (o : Option ℕ). length (forms (suc (node_count d)) (coding_table d) (instructions (choice_alternatives d o)))) none

      by : (o : Option ℕ) → form_with d w ≡ o → is_some o ≡ true → IsDecoded (instruction_frames d) (instruction_plain d) w o → w ≡ 0
      by None e some decoded = absurd (both_ways false refl some)
      by (Some k) e some decoded = let low = decoded.0 in absurd (omega (arith, low, count))

  root_told : (xs : List Occurrence) → root_stage d xs ≡ option_map (λ (x : Occurrence). stage_or_first x.stage) (find (λ (x : Occurrence). is_root d x.operation) xs)
  root_told [] = refl
  root_told (x ∷ xs) = by (is_root d x.operation) (root_told xs)
    where
      by : (b : Bool) → root_stage d xs ≡ option_map (λ (y : Occurrence). stage_or_first y.stage) (find (λ (y : Occurrence). is_root d y.operation) xs)
          → cond b (Some (stage_or_first x.stage)) (root_stage d xs) ≡ option_map (λ (y : Occurrence). stage_or_first y.stage) (cond b (Some x) (find (λ (y : Occurrence). is_root d y.operation) xs))
      by true e = refl
      by false e = e

  slots_at : (stage : Option ℕ) → level_of_slots (Some (level_of_stage stage)) ≡ suc (stage_or_first stage)
  slots_at None = refl
  slots_at (Some s) = refl

  -- the word of a level has an item
  abbrev HasWord : ℕ → Type 0
  HasWord level = (s : ℕ) × (level ≡ suc s) × HasPlace (layout_of d) (Word s)

  word_placed : (level c : ℕ) (x : Occurrence) → instruction_choice d ≡ Some c → root_stage d (occurrences d) ≡ Some (stage_or_first x.stage) → suc (stage_or_first x.stage) < level → level ≤ length (stages d) → HasWord level
  word_placed zero c x choice root above within = absurd (omega (arith, above))
  word_placed (suc s) c x choice root above within = (
    s,
    refl,
    (
      stage_or_first x.stage + 1,
      ap (λ (o : Option ℕ). first_word o (root_stage d (occurrences d))) choice ∙ ap (first_word (Some c)) root,
      omega (arith, above),
      omega (arith, within),
    ),
  )

  -- where slots stand, the root has a level, which is that of its occurrence
  word_rooted : (level c : ℕ) (b : Bool) (o : Option Occurrence) → instruction_choice d ≡ Some c → root_occurrence d ≡ o → root_level d ≡ cond b None (option_map (λ (x : Occurrence). level_of_stage x.stage) o) → is_some (root_level d) ≡ true → level_of_slots (root_level d) < level → level ≤ length (stages d) → HasWord level
  word_rooted level c true o choice is e some above within = absurd (both_ways false refl (sym (ap is_some e) ∙ some))
  word_rooted level c false None choice is e some above within = absurd (both_ways false refl (sym (ap is_some e) ∙ some))
  word_rooted level c false (Some x) choice is e some above within =
      word_placed level c x choice
      (root_told (occurrences d) ∙ ap (option_map (λ (y : Occurrence). stage_or_first y.stage)) is)
      (subst (λ (n : ℕ). n < level) (ap level_of_slots e ∙ slots_at x.stage) above) within

  word_itemed : (first : Contents) (entries : List (List ℕ)) (level : ℕ) → stage_word (core_of d) (after (core_of d) first entries).past level ≢ 0 → HasWord level
  word_itemed first entries level some = by (instruction_choice d) refl
    where
      stood : (o : Option ℕ) → unwrap_or o 0 ≢ 0 → is_some o ≡ true
      stood None ne = absurd (ne refl)
      stood (Some w) ne = refl

      by : (o : Option ℕ) → instruction_choice d ≡ o → HasWord level
      by None none = absurd (some (word_has (core_of d) (λ (w : ℕ). w ≡ 0) refl (none_decodes none) first entries level))
      by (Some c) choice =
          let past = (after (core_of d) first entries).past in
          let b = stands_behind (core_of d) first entries level (stood (standing past level (slots (core_of d) past)) some) in
          word_rooted level c (nat_eq (length (stages d)) 0) (root_occurrence d) choice refl refl b.0 b.1 b.2

  -- ---- all of it

  pub edges_have_items : HaveWidths (registers_of d) → AllPairs (λ (a b : ArrayItem). a.name ≢ b.name) (arrays_of d) → TreesAreOccurrences d → IsSound (core_of d) → EdgesHaveItems d
  edges_have_items fit distinct same sound image entries rules none =
      let first = first_contents d image in
      let stored = stored_after d first entries (first_stored d fit distinct image rules none) in
      let past = (after_edges d image entries).past in
      record {
        registers = stored.registers.count;
        fields = rowed_after d image entries;
        bits = λ level k e. bit_itemed same sound first entries level k (stands (core_of d) past level k) refl e;
        words = λ level e. word_itemed first entries level e;
      }
