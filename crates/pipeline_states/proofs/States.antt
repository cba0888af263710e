-- What is shown is the state after the edges.
use Rattle.std.proofs.Common.{◌≡◌, ◌≤◌, ℕ, suc, List, [], ◌∷◌, Bool, cond, Option, Some, length, map, refl, sym, ap, ap₂, ◌∙◌, arith, subst}
use Rattle.std.specs.Prelude.{slice_get}
use Rattle.lisa_tree.specs.Descriptions.{DescriptionTree}
use Rattle.lisa_engine.specs.Memory.{Memory}
use Rattle.lisa_engine.specs.Images.{IsImage, missing_memory}
use Rattle.lisa_engine.specs.State.{State}
use Rattle.lisa_tree.specs.Resources.{stages}
use Rattle.lisa_meaning.specs.machine_parts.Parts.{arrays_of}
use Rattle.item_layouts.specs.declared.place.ItemPlace.{ItemPlace}
use Rattle.item_layouts.specs.declared.place.ItemPlace.TheVariants.{Register, Field, Word, Bit}
use Rattle.item_layouts.specs.Layouts.{HasPlace, item_places, value_at, item_values}
use Rattle.item_layouts.proofs.Listed.{listed}
use Rattle.pipeline_time.specs.Bits.{Hardware, shown}
use Rattle.lisa_activation.specs.declared.kept.Queues.{Queues}
use Rattle.pipeline_runs.specs.Pipelines.{ShowsHardware}
use Rattle.lisa_meaning.specs.Moments.{Contents}
use Rattle.lisa_meaning.specs.Cores.{core_of}
use Rattle.lisa_meaning.specs.States.{layout_of, values_of, shown_state, after_edges, state_of}
use Rattle.lisa_meaning.specs.Showing.{EdgesHaveItems, ItemsShowAll}
use Rattle.pipeline_states.specs.Showing.{values_in, state_in, IsReached}

map_same : {X Y : Type 0} (f g : X → Y) (xs : List X) → ((i : ℕ) (x : X) → slice_get xs i ≡ Some x → f x ≡ g x) → map f xs ≡ map g xs
map_same f g [] same = refl
map_same {Y = Y} f g (x ∷ xs) same = ap₂ (λ (y : Y) (ys : List Y). y ∷ ys) (same 0 x refl) (map_same f g xs (λ i y is. same (suc i) y is))

module _ (d : DescriptionTree) (few : length (stages d) ≤ 8) where
  module _ (memory : Contents) (queues : Queues) (words : List ℕ) (hard : Hardware Contents) (shows : ShowsHardware memory queues words hard) where
    value_same : (p : ItemPlace) → HasPlace (layout_of d) p → value_at (values_in memory queues words) p ≡ value_at (values_of hard) p
    value_same (Register k) has = ap (λ (m : Contents). value_at (values_in m queues words) (Register k)) shows.memory_is
    value_same (Field s f) has = ap (λ (m : Contents). value_at (values_in m queues words) (Field s f)) shows.memory_is
    value_same (Word s) has = let low = has.3 in shows.words_are s (omega (arith, low, few))
    value_same (Bit s k) has = let low = has.0 in ap (λ (b : Bool). cond b 1 0) (shows.holds.stand s k (omega (arith, low, few)))

    items_same : map (value_at (values_in memory queues words)) (item_places (layout_of d)) ≡ item_values (layout_of d) (values_of hard)
    items_same =
        map_same (value_at (values_in memory queues words)) (value_at (values_of hard)) (item_places (layout_of d))
        (λ i p is. value_same p ((listed (layout_of d) p).1 (i, is)))

    pub state_same : (places : List ItemPlace) → places ≡ item_places (layout_of d) → state_in places memory queues words ≡ shown_state d hard
    state_same places are =
        let items = ap (map (value_at (values_in memory queues words))) are ∙ items_same in
        let cells = ap (λ (m : Contents). m.cells) shows.memory_is in
        ap₂ (λ (i : List ℕ) (c : List (List ℕ)). let s : State = record { items = i; cells = c } in s) items cells

  -- ---- after edges

  module _ (image : List Memory) (rules : IsImage image) (found : missing_memory (arrays_of d) image ≡ Option.None) (have : EdgesHaveItems d) (all : ItemsShowAll d) where
    -- where it shows the state after some edges, it shows all that the machine is after them
    pub shows_after : (places : List ItemPlace) (memory : Contents) (queues : Queues) (words : List ℕ)
        → places ≡ item_places (layout_of d)
        → IsReached d image memory queues words
        → (entries : List (List ℕ))
        → state_in places memory queues words ≡ state_of d image entries
        → ShowsHardware memory queues words (shown (core_of d) (after_edges d image entries))
    shows_after places memory queues words are reached entries same =
        let here = shown (core_of d) (after_edges d image reached.entries) in
        let there = shown (core_of d) (after_edges d image entries) in
        let states : shown_state d here ≡ shown_state d there = sym (state_same memory queues words here reached.shows places are) ∙ same in
        let is = all here there (have image reached.entries rules found) (have image entries rules found) states in
        subst (λ (h : Hardware Contents). ShowsHardware memory queues words h) is reached.shows
