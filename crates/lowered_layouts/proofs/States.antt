-- Where a state has what hardware has, its items and cells are those of the hardware's state.
use Rattle.std.proofs.Common.{◌≡◌, ◌<◌, ◌∙◌, ℕ, zero, suc, Bool, List, [], ◌∷◌, Option, None, Some, length, get_or, refl, sym, ap, arith}
use Rattle.std.specs.Prelude.{slice_get, ◌↔◌}
use Rattle.std.specs.Option.{unwrap_or}
use Rattle.std.proofs.lemmas.List.{length-map, ext_get_or}
use Rattle.std.proofs.lemmas.Option.{same_Some, slice_get-get_or, get_or_from_slice_get}
use Rattle.lisa_tree.specs.Descriptions.{DescriptionTree}
use Rattle.lisa_engine.specs.declared.parts.ArrayItem.{ArrayItem}
use Rattle.lisa_engine.specs.State as engine
use Rattle.lisa_engine.specs.Memory.{Memory}
use Rattle.lisa_engine.specs.Images.{first_cells}
use Rattle.machine_parts.specs.Parts.{registers_of}
use Rattle.item_layouts.specs.declared.place.ItemPlace.{ItemPlace}
use Rattle.item_layouts.specs.declared.place.ItemPlace.TheVariants.{Register, Field, Word, Bit}
use Rattle.item_layouts.specs.Layouts.{HasPlace, place_of, value_at, item_places, item_values}
use Rattle.item_layouts.proofs.Listed.{found, value_is}
use Rattle.pipeline_time.specs.Bits.{Hardware, first_hardware}
use Rattle.step_program.specs.Programs.{Program}
use Rattle.step_program.specs.Effects.{p_first}
use Rattle.state_items.specs.lisa_meaning.Moments.{Contents}
use Rattle.state_items.specs.lisa_meaning.Cores.{core_of}
use Rattle.state_items.specs.lisa_meaning.States.{layout_of, values_of, first_contents, shown_state}
use Rattle.lowered_time.specs.Lowering.{bit}
use Rattle.lowered_layouts.specs.Items.{bit_place, word_place, field_place, IsArranged}
use Rattle.lowered_layouts.specs.States.{HasContents, HasHardware}
use Rattle.lowered_layouts.proofs.Items.{place_there, register_at, field_is, items_long}

module _ (d : DescriptionTree) (declared : Option ℕ) (width : ℕ) (p : Program) (arranged : IsArranged d declared width p) (hard : Hardware Contents) (state : engine.State) where
  abbrev shown : List ℕ
  shown = item_values (layout_of d) (values_of hard)

  shown_at : (x : ItemPlace) (i : ℕ) → place_of (layout_of d) x ≡ Some i → get_or shown i 0 ≡ value_at (values_of hard) x
  shown_at x i e = get_or_from_slice_get shown i (value_at (values_of hard) x) 0 (value_is (layout_of d) (values_of hard) x i e)

  shown_long : length shown ≡ length p.items
  shown_long = length-map (item_places (layout_of d)) (value_at (values_of hard)) ∙ sym (items_long d declared width p arranged)

  item_is : HasHardware d p hard state → (x : ItemPlace) (i : ℕ) → place_of (layout_of d) x ≡ Some i → HasPlace (layout_of d) x → get_or state.items i 0 ≡ value_at (values_of hard) x
  item_is has (Register k) i e there =
      let here : k ≡ i = same_Some k i (sym (register_at d k there) ∙ e) in
      ap (λ (n : ℕ). get_or state.items n 0) (sym here) ∙ has.contents.registers k there
  item_is has (Field s f) i e there =
      let here : field_place d s f ≡ i = ap (λ (o : Option ℕ). unwrap_or o 0) e in
      ap (λ (n : ℕ). get_or state.items n 0) (sym here) ∙ has.contents.fields s f there
  item_is has (Word s) i e there = has.words (suc s) i e
  item_is has (Bit s k) i e there = has.bits (suc s) k i e

  pub items_same : HasHardware d p hard state → state.items ≡ shown
  items_same has =
      ext_get_or 0 state.items shown (has.item_count ∙ sym shown_long)
      (λ k low.
      (let count = has.item_count in
      let long = items_long d declared width p arranged in
      let x = get_or (item_places (layout_of d)) k (Register 0) in
      let at : slice_get (item_places (layout_of d)) k ≡ Some x = slice_get-get_or (item_places (layout_of d)) k (Register 0) (omega (arith, low, count, long)) in
      let placed : place_of (layout_of d) x ≡ Some k = (found (layout_of d) x k).1 at in
      item_is has x k placed (place_there d x k placed) ∙ sym (shown_at x k placed)))

  pub hardware_had : state.items ≡ shown → state.cells ≡ hard.memory.cells → HasHardware d p hard state
  hardware_had items cells = record {
    contents = record {
      registers = λ k low. item (Register k) k (register_at d k low);
      fields = λ s f has. item (Field s f) (field_place d s f) (field_is d s f has);
      cells = cells;
    };
    bits = bits;
    words = words;
    item_count = ap (λ (ns : List ℕ). length ns) items ∙ shown_long;
  }
    where
      item : (x : ItemPlace) (i : ℕ) → place_of (layout_of d) x ≡ Some i → get_or state.items i 0 ≡ value_at (values_of hard) x
      item x i e = ap (λ (ns : List ℕ). get_or ns i 0) items ∙ shown_at x i e

      bits : (level k place : ℕ) → bit_place d level k ≡ Some place → get_or state.items place 0 ≡ bit (hard.bits level k)
      bits zero k place e = absurd (cc e)
      bits (suc s) k place e = item (Bit s k) place e

      words : (level place : ℕ) → word_place d level ≡ Some place → get_or state.items place 0 ≡ hard.words level
      words zero place e = absurd (cc e)
      words (suc s) place e = item (Word s) place e

pub first_had : (d : DescriptionTree) (declared : Option ℕ) (width : ℕ) (p : Program) → IsArranged d declared width p → p.first ≡ (shown_state d (first_hardware (core_of d) (first_contents d []))).items
    → (image : List Memory) → HasHardware d p (first_hardware (core_of d) (first_contents d image)) (p_first p image)
first_had d declared width p arranged first image =
    hardware_had d declared width p arranged (first_hardware (core_of d) (first_contents d image)) (p_first p image) first (ap (λ (arrays : List ArrayItem). first_cells arrays image) arranged.arrays)
