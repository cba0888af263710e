-- What a row tells of its word.
use Rattle.std.proofs.Common.{◌≡◌, ◌<◌, ◌≤◌, ◌+◌, ℕ, false, List, Option, None, Some, refl, sym, ap, ◌∙◌, arith, ◌⊎◌, inl, inr}
use Rattle.std.specs.Prelude.{is_some, slice_index}
use Rattle.std.specs.Option.{option_and_then}
use Rattle.lisa_tree.specs.Descriptions.{DescriptionTree}
use Rattle.instruction_forms.specs.Trees.{FormTree}
use Rattle.instruction_forms.specs.Described.{instruction_form}
use Rattle.scene_paths.specs.lisa_meaning.Scenes.{instruction_with}
use Rattle.step_program.specs.Programs.{Program}
use Rattle.step_program.specs.Effects.{Moment, value}
use Rattle.step_pieces.specs.Formed.{Lies}
use Rattle.lowered_time.specs.Lowering.{bit}
use Rattle.lowered_time.specs.Forming.{IsLeaf}
use Rattle.lowered_words.specs.Ways.{Way, part_by, way_place}
use Rattle.lowered_words.specs.Choosing.{Choice, choice}
use Rattle.lowered_words.specs.Rows.{HasRow, decoded_at, flag_at, flag_in, flag, choice_flag, has_part, row_size, row_widths}
use Rattle.lowered_words.specs.Laws.{LeavesOthers, TellsWord, AreLeaves}
use Rattle.lowered_words.proofs.Reaching.{has_place, place_within, part_there}
use Rattle.lowered_words.proofs.Choices.{chosen_part, chooses_is}
use Rattle.lowered_words.proofs.Instructed.{IsInstructionForm, instruction_plain_form}
use Rattle.lowered_words.proofs.Leaving.{RowTemps, row_temps}

module _ (d : DescriptionTree) where
  pub row_lasts : (base word : ℕ) (now after : Moment) → ((k : ℕ) → base ≤ k → k < base + row_size d → slice_index after.temps k ≡ slice_index now.temps k) → HasRow d base word now → HasRow d base word after
  row_lasts base word now after same has = record {
    held = same base (omega arith) (omega arith) ∙ has.held;
    decoded = same (decoded_at base) (omega arith) (omega arith) ∙ has.decoded;
    flags = λ w place is. same (flag_at base place) (omega arith) (let low = place_within d w place is in omega (arith, low)) ∙ has.flags w place is;
  }

  -- what loads another row leaves it
  pub row_left : (base from other word : ℕ) (now after : Moment) → LeavesOthers d base from now after → other + row_size d ≤ from
      → (other + row_size d ≤ base) ⊎ (base + row_size d ≤ other) → HasRow d other word now → HasRow d other word after
  row_left base from other word now after leaves low (inl before) has = row_lasts other word now after (λ k h l. leaves.below k (omega (arith, l, before))) has
  row_left base from other word now after leaves low (inr behind) has = row_lasts other word now after (λ k h l. leaves.between k (omega (arith, h, behind)) (omega (arith, l, low))) has

  -- no instruction has a part by a way that has no place
  module _ (word : ℕ) (w : Way) (none : way_place d w ≡ None) where
    nowhere : (f g : FormTree) → IsInstructionForm d f → part_by f w ≡ Some g → ⊥
    nowhere f g i e =
        let there = part_there (instruction_form d i.form) w g (sym (ap (λ (h : FormTree). part_by h w) i.is) ∙ e) in
        let place = has_place d i.form w i.plain there in
        let two : Some place.0 ≡ None = sym place.1 ∙ none in
        cc two

    no_part : has_part d word w ≡ false
    no_part = by (instruction_with d word) refl
      where
        of : (f : FormTree) → IsInstructionForm d f → (o : Option FormTree) → part_by f w ≡ o → is_some o ≡ false
        of f i None e = refl
        of f i (Some g) e = absurd (nowhere f g i e)

        by : (o : Option FormTree) → instruction_with d word ≡ o → is_some (option_and_then (λ f. part_by f w) o) ≡ false
        by None e = refl
        by (Some f) e = of f (instruction_plain_form d word f e) (part_by f w) refl

  module _ (p : Program) (before pins : List ℕ) (base word : ℕ) (now : Moment) (has : HasRow d base word now) where
    flag_tells : (w : Way) → value p before pins now (flag d base w) ≡ bit (has_part d word w)
    flag_tells w = by (way_place d w) refl
      where
        by : (o : Option ℕ) → way_place d w ≡ o → value p before pins now (flag_in base o) ≡ bit (has_part d word w)
        by None is = sym (ap bit (no_part word w is))
        by (Some place) is = has.flags w place is

    choice_tells : (c : Option Choice) → value p before pins now (choice_flag d base c) ≡ bit (chosen_part d word c)
    choice_tells None = refl
    choice_tells (Some c) = flag_tells c.way

    pub row_tells : TellsWord d p before pins base word now
    row_tells = record {
      parts = flag_tells;
      chosen = λ k x there past. choice_tells (choice d k) ∙ sym (ap bit (chooses_is d word k x there past));
    }

  module _ (wide : ℕ) (p : Program) (base : ℕ) (lies : Lies p.temps base (row_widths d wide)) where
    flag_leaf : (w : Way) → IsLeaf p 1 (flag d base w)
    flag_leaf w = by (way_place d w) refl
      where
        row : RowTemps d wide base p.temps
        row = row_temps d wide base p.temps lies

        by : (o : Option ℕ) → way_place d w ≡ o → IsLeaf p 1 (flag_in base o)
        by None is = record { fits = ((omega arith, omega arith), omega arith); wide = refl; leaf = omega arith }
        by (Some place) is =
            let low = place_within d w place is in
            let room = row.room in
            record { fits = omega (arith, low, room); wide = row.flags (flag_at base place) (omega arith) (omega (arith, low)); leaf = omega arith }

    choice_leaf : (c : Option Choice) → IsLeaf p 1 (choice_flag d base c)
    choice_leaf None = record { fits = ((omega arith, omega arith), omega arith); wide = refl; leaf = omega arith }
    choice_leaf (Some c) = flag_leaf c.way

    pub row_leaves : AreLeaves d wide p base
    row_leaves =
        let row = row_temps d wide base p.temps lies in
        let room = row.room in
        record {
          word = record { fits = omega (arith, room); wide = row.word; leaf = omega arith };
          decoded = record { fits = omega (arith, room); wide = row.flags (decoded_at base) (omega arith) (omega arith); leaf = omega arith };
          parts = flag_leaf;
          chosen = λ k. choice_leaf (choice d k);
        }
