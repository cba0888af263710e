-- The items of a state fit registers and fields.
use Rattle.std.proofs.Common.{◌≡◌, ◌<◌, ◌^◌, ℕ, List, Some, length, map, get_or, sym, ap, ◌∙◌, subst}
use Rattle.std.specs.Prelude.{slice_get}
use Rattle.lisa_tree.specs.declared.tokens.Shape.{Shape}
use Rattle.lisa_tree.specs.Descriptions.{DescriptionTree}
use Rattle.lisa_engine.specs.Memory.{Memory}
use Rattle.lisa_engine.specs.declared.parts.Item.{Item}
use Rattle.machine_parts.specs.Parts.{registers_of}
use Rattle.item_promises.proofs.lisa_machine_proofs.Sound.{sound}
use Rattle.item_promises.proofs.use_promises_proofs.Shown.{shown_fits}
use Rattle.item_layouts.specs.declared.place.ItemPlace.{ItemPlace}
use Rattle.item_layouts.specs.declared.place.ItemPlace.TheVariants.{Register, Field, Word, Bit}
use Rattle.item_layouts.specs.Layouts.{item_places, value_at}
use Rattle.pipeline_time.specs.Bits.{shown}
use Rattle.activation_plans.specs.lisa_meaning.Values.{shape_at}
use Rattle.activation_plans.specs.lisa_meaning.Cores.{core_of}
use Rattle.activation_plans.specs.lisa_meaning.States.{layout_of, values_of, first_contents, after_edges, state_of}
use Rattle.activation_plans.proofs.lisa_meaning_proofs.Shown.{registers_fit, arrays_distinct}
use Rattle.activation_plans.proofs.lisa_meaning_proofs.Stored.{AreStored}
use Rattle.activation_plans.proofs.lisa_meaning_proofs.Shaped.{first_stored, stored_after}
use Rattle.lisa_sim.specs.Holding.{CanTake, CanHold}
use Rattle.lisa_sim.specs.Runnings.{CanRun}
use Rattle.lisa_sim.proofs.Puttings.{at_map}

module _ (d : DescriptionTree) (image : List Memory) (runs : CanRun d image) (entries : List (List ℕ)) where
  stored : AreStored d (after_edges d image entries).memory
  stored =
      let s = sound d runs.accepted in
      let shows = shown_fits d s.names s.widths s.depths in
      stored_after d (first_contents d image) entries (first_stored d (registers_fit d shows) (arrays_distinct d shows) image runs.rules runs.found)

  pub can_hold : (places : List ItemPlace) (items : List ℕ) → places ≡ item_places (layout_of d) → items ≡ (state_of d image entries).items → CanHold d places items
  can_hold places items places_are items_are i p at = by p at
    where
      value_is : (i : ℕ) (q : ItemPlace) → slice_get places i ≡ Some q → get_or items i 0 ≡ value_at (values_of (shown (core_of d) (after_edges d image entries))) q
      value_is i q here =
          let v = value_at (values_of (shown (core_of d) (after_edges d image entries))) in
          let is : items ≡ map v places = items_are ∙ ap (map v) (sym places_are) in
          ap (λ (xs : List ℕ). get_or xs i 0) is ∙ at_map v places i q here

      by : (q : ItemPlace) → slice_get places i ≡ Some q → CanTake d q (get_or items i 0)
      by (Register k) here = λ item low. subst (λ (n : ℕ). n < 2 ^ (get_or (registers_of d) k item).width) (sym (value_is i (Register k) here)) (stored.registers.within k item low)
      by (Field s f) here = λ shape is. subst (λ (n : ℕ). n < 2 ^ shape.width) (sym (value_is i (Field s f) here)) (stored.fields s f shape is)
      by (Word s) here = tt
      by (Bit s k) here = tt
