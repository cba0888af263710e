-- A state has a value for each item and cell, within its width.
use Rattle.std.proofs.Common.{◌≡◌, ◌≢◌, ◌<◌, ◌^◌, ℕ, zero, suc, true, List, [], ◌∷◌, Option, None, Some, length, map, get_or, refl, subst, arith}
use Rattle.std.specs.Prelude.{is_some, not, find, option_map, AllPairs}
use Rattle.std.specs.List.{list_any}
use Rattle.std.proofs.lemmas.Nat.{pow_pos}
use Rattle.std.proofs.lemmas.Option.{same_Some}
use Rattle.lisa_tree.specs.Descriptions.{DescriptionTree}
use Rattle.lisa_engine.specs.declared.parts.ArrayItem.{ArrayItem}
use Rattle.lisa_engine.specs.Memory.{Memory}
use Rattle.lisa_engine.specs.Images.{IsImage, missing_memory, is_array}
use Rattle.lisa_engine.specs.Shape.{IsShaped}
use Rattle.lisa_engine.proofs.Loading as loading
use Rattle.use_promises.specs.machine_parts.Parts.{arrays_of, registers_of}
use Rattle.use_promises.specs.machine_parts.Laws.{HaveWidths}
use Rattle.use_promises.proofs.machine_parts_proofs.Fitting.{firsts_fit}
use Rattle.instruction_trees.specs.Trees.{Form, In, here, there, form_bits}
use Rattle.lisa_forms.specs.coding_tables.Codings.{coding_table}
use Rattle.lisa_forms.specs.coding_tables.Instructions.{instruction_items, forms_of}
use Rattle.lisa_forms.specs.instruction_forms.Widths as widths
use Rattle.lisa_forms.proofs.instruction_forms_proofs.Wide.{whole_width}
use Rattle.lisa_forms.specs.pattern_tables.Tables.{IsDecoded}
use Rattle.lisa_forms.specs.form_patterns.Instructions.{instruction_frames, instruction_plain}
use Rattle.lisa_forms.proofs.form_patterns_proofs.Standing.{all_fit}
use Rattle.lisa_forms.specs.description_sizes.Sizes.{items}
use Rattle.pipeline_time.specs.Running.{Running, behavior, activate}
use Rattle.pipeline_time.specs.Journal.{stands, stage_word}
use Rattle.pipeline_time.specs.States.{State, edge_of, next, first_state, after}
use Rattle.pipeline_time.specs.Bits.{shown}
use Rattle.lisa_meaning.specs.Scenes.{form_with, scene_of}
use Rattle.lisa_meaning.specs.Moments.{Contents, Moment}
use Rattle.lisa_meaning.specs.Cores.{core_of, decodes}
use Rattle.lisa_meaning.specs.States.{first_contents, after_edges, state_of}
use Rattle.lisa_meaning.proofs.Words.{with_form}
use Rattle.lisa_meaning.proofs.Running.{edge_kept}
use Rattle.lisa_meaning.proofs.Slots.{after_kept, word_has}
use Rattle.lisa_meaning.proofs.Stored.{AreStored, IsStored, begins, behavior_kept, boundaries_fit, closes}
use Rattle.lisa_meaning.proofs.Listing.{items_fit}

-- ---- the first state

module _ (d : DescriptionTree) (widths_fit : HaveWidths (registers_of d)) (distinct : AllPairs (λ (a b : ArrayItem). a.name ≢ b.name) (arrays_of d)) where
  none_mapped : (o : Option Memory) → option_map (λ (m : Memory). m.name) o ≡ None → o ≡ None
  none_mapped None e = refl
  none_mapped (Some m) e = absurd (cc e)

  pub first_stored : (image : List Memory) → IsImage image → missing_memory (arrays_of d) image ≡ None → AreStored d (first_contents d image)
  first_stored image rules none = record {
    registers = firsts_fit d widths_fit;
    cells = loading.shape (arrays_of d) image rules distinct (none_mapped (find (λ memory. not (list_any (is_array memory) (arrays_of d))) image) none);
    fields = boundaries_fit d (λ s f. 0) (λ s f shape is. pow_pos shape.width);
  }

-- ---- after edges

module _ (d : DescriptionTree) where
  run_stored : (number word : ℕ) (now : Running Moment) → IsStored d now.moment → IsStored d (behavior (core_of d) number word now).moment
  unfolding behavior
  run_stored number word now kept = behavior_kept d (scene_of d number word) now.moment kept

  waits_stored : (level number word : ℕ) (now : Running Moment) → IsStored d now.moment → IsStored d (activate (core_of d) level number word now).moment
  unfolding activate
  waits_stored zero number word now kept = kept
  waits_stored (suc stage) number word now kept = kept

  next_stored : (state : State Contents) (pins : List ℕ) → AreStored d state.memory → AreStored d (next (core_of d) state pins).memory
  next_stored state pins stored =
      closes d (edge_of (core_of d) pins state).moment
      (edge_kept (core_of d) (λ (now : Running Moment). IsStored d now.moment) run_stored waits_stored (stands (core_of d) state.past) pins state.memory (begins d pins state.memory stored))

  pub stored_after : (first : Contents) (entries : List (List ℕ)) → AreStored d first → AreStored d (after (core_of d) first entries).memory
  stored_after first entries stored = after_kept (core_of d) (λ (s : State Contents). AreStored d s.memory) next_stored (first_state (core_of d) first) entries stored

  -- ---- words

  framed : (w : ℕ) (fs : List Form) → ((f : Form) → In f fs → length (form_bits (coding_table d) f (instruction_items d)) ≡ w)
      → (k : ℕ) → k < length (map (λ (f : Form). form_bits (coding_table d) f (instruction_items d)) fs) → length (get_or (map (λ (f : Form). form_bits (coding_table d) f (instruction_items d)) fs) k []) ≡ w
  framed w [] each k low = absurd (omega (arith, low))
  framed w (f ∷ fs) each zero low = each f here
  framed w (f ∷ fs) each (suc k) low = framed w fs (λ g i. each g (there i)) k (omega (arith, low))

  word_within : (width : ℕ) → widths.HasWidth d (Some width) → (w : ℕ) → decodes d w ≡ true → w < 2 ^ width
  word_within width has w is = by (form_with d w) refl is (with_form d w)
    where
      by : (o : Option ℕ) → form_with d w ≡ o → is_some o ≡ true → IsDecoded (instruction_frames d) (instruction_plain d) w o → w < 2 ^ width
      by None e none decoded = absurd (cc none)
      by (Some k) e some decoded =
          subst (λ (n : ℕ). w < 2 ^ n) (framed width (forms_of d) (λ f i. whole_width d has.0 width has.1 has.2 f (all_fit d f i)) k decoded.0) decoded.2.below

  pub words_within : (width : ℕ) → widths.HasWidth d (Some width) → (first : Contents) (entries : List (List ℕ)) (level : ℕ) → stage_word (core_of d) (after (core_of d) first entries).past level < 2 ^ width
  words_within width has first entries level = word_has (core_of d) (λ (w : ℕ). w < 2 ^ width) (pow_pos width) (λ w is. word_within width has w is) first entries level

  -- ---- all of it

  pub shaped : HaveWidths (registers_of d) → AllPairs (λ (a b : ArrayItem). a.name ≢ b.name) (arrays_of d) → (width : Option ℕ) (image : List Memory) (entries : List (List ℕ)) → widths.HasWidth d width → IsImage image → missing_memory (arrays_of d) image ≡ None → IsShaped (items d width) (arrays_of d) (state_of d image entries)
  shaped fit distinct width image entries has rules none =
      let first = first_contents d image in
      let stored = stored_after first entries (first_stored d fit distinct image rules none) in
      record {
        values = items_fit d (shown (core_of d) (after_edges d image entries)) width has stored.registers stored.fields (words width has);
        cells = stored.cells;
      }
    where
      words : (o : Option ℕ) → widths.HasWidth d o → (w : ℕ) → o ≡ Some w → (t : ℕ) → stage_word (core_of d) (after (core_of d) (first_contents d image) entries).past t < 2 ^ w
      words None h w e t = absurd (cc e)
      words (Some v) h w e t = subst (λ (n : ℕ). stage_word (core_of d) (after (core_of d) (first_contents d image) entries).past t < 2 ^ n) (same_Some v w e) (words_within v h (first_contents d image) entries t)
