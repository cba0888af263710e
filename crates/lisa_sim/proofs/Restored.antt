-- A pipeline that is taken to another state.
use Rattle.std.proofs.Common.{◌≡◌, ◌<◌, ℕ, zero, suc, Bool, List, [], ◌∷◌, length, map, get_or, replicate, refl, sym, ap, ap₂, ◌∙◌, subst, arith}
use Rattle.lisa_tree.specs.Descriptions.{DescriptionTree}
use Rattle.lisa_engine.specs.Memory.{Memory}
use Rattle.lisa_engine.specs.Touches.{put_back}
use Rattle.lisa_engine.specs.declared.parts.Touch.{Touch}
use Rattle.item_layouts.specs.declared.place.ItemPlace.{ItemPlace}
use Rattle.item_layouts.specs.Layouts.{ItemValues, item_places, item_values, value_at}
use Rattle.pipeline_time.specs.Bits.{Hardware, shown}
use Rattle.pipeline_time.specs.States.{after}
use Rattle.lisa_activation.specs.declared.kept.Queues.{Queues}
use Rattle.pipeline_runs.specs.Pipelines.{AreBits, AreWords, ShowsHardware}
use Rattle.activation_plans.specs.lisa_meaning.Moments.{Contents}
use Rattle.activation_plans.specs.lisa_meaning.Cores.{core_of}
use Rattle.activation_plans.specs.lisa_meaning.States.{layout_of, values_of, first_contents, after_edges, state_of}
use Rattle.activation_plans.specs.lisa_meaning.Showing.{HasItems, EdgesHaveItems}
use Rattle.behavior_runs.specs.moment_stores.Changes.{with_cells}
use Rattle.pipeline_states.specs.Putting.{IsPut, PutItemsAreHeld}
use Rattle.pipeline_states.specs.Showing.{IsReached}
use Rattle.pipeline_states.specs.Taken.{bit_in, word_in}
use Rattle.pipeline_states.specs.Hardware.{ItemsAreTaken}
use Rattle.lisa_sim.specs.Runnings.{CanRun, IsBefore}

-- what a restored pipeline shows, where it has a state's memory, bits and words
abbrev pub Restores : DescriptionTree → Contents → Queues → List ℕ → (ℕ → ℕ → Bool) → ℕ → List ℕ → Type 0
Restores t memory queues words test many given =
    (first : Contents) (entries : List (List ℕ))
    → memory ≡ (after (core_of t) first entries).memory
    → AreBits test many (shown (core_of t) (after (core_of t) first entries)).bits
    → AreWords given (shown (core_of t) (after (core_of t) first entries)).words
    → ShowsHardware memory queues words (shown (core_of t) (after (core_of t) first entries))

-- some state has these bits
abbrev pub IsSome : DescriptionTree → (ℕ → ℕ → Bool) → ℕ → Type 0
IsSome t test many = (first : Contents) × ((entries : List (List ℕ)) × AreBits test many (shown (core_of t) (after (core_of t) first entries)).bits)

-- ---- to the first state

module _ (d : DescriptionTree) where
  no_bits : (first : Contents) (many : ℕ) → AreBits (bit_in [] []) many (shown (core_of d) (after (core_of d) first [])).bits
  no_bits first many stage number low less = refl

  zeros : (n k : ℕ) → get_or {A = ℕ} (replicate n 0) k 0 ≡ 0
  zeros zero k = refl
  zeros (suc n) zero = refl
  zeros (suc n) (suc k) = zeros n k

  no_words : (first : Contents) → AreWords (replicate 8 0) (shown (core_of d) (after (core_of d) first [])).words
  no_words first stage low = zeros 8 stage

  pub first_some : (t : DescriptionTree) (many : ℕ) → t ≡ d → Contents → IsSome t (bit_in [] []) many
  first_some t many tree first = subst (λ (t : DescriptionTree). IsSome t (bit_in [] []) many) (sym tree) (first, ([], no_bits first many))

  pub first_shown : (t : DescriptionTree) (image : List Memory) (memory : Contents) (queues : Queues) (words : List ℕ) (many : ℕ) → t ≡ d → memory ≡ first_contents d image
      → Restores t memory queues words (bit_in [] []) many (replicate 8 0) → ShowsHardware memory queues words (shown (core_of d) (after_edges d image []))
  first_shown t image memory queues words many tree is restores =
      subst (λ (t : DescriptionTree). Restores t memory queues words (bit_in [] []) many (replicate 8 0)) tree restores
      (first_contents d image) [] is (no_bits (first_contents d image) many) (no_words (first_contents d image))

-- ---- to an earlier state

module _ (d : DescriptionTree) (image : List Memory) (runs : CanRun d image) (have : EdgesHaveItems d) (taken : ItemsAreTaken d) (places : List ItemPlace) (items : List ℕ) (touches : List Touch) (entries : List (List ℕ)) (cells : List (List ℕ))
    (are : places ≡ item_places (layout_of d)) (before : IsBefore d image cells items touches entries) where
  has : HasItems d (shown (core_of d) (after_edges d image entries))
  has = have image entries runs.rules runs.found

  pub items_at : items ≡ map (value_at (values_of (shown (core_of d) (after_edges d image entries)))) places
  items_at = before.items_are ∙ ap (map (value_at (values_of (shown (core_of d) (after_edges d image entries))))) (sym are)

  pub counted : length places ≡ length items
  counted = ap length are ∙ sym (ap length before.items_are ∙ counts (item_places (layout_of d)))
    where
      counts : (ps : List ItemPlace) → length (map (value_at (values_of (shown (core_of d) (after_edges d image entries)))) ps) ≡ length ps
      counts [] = refl
      counts (p ∷ ps) = ap suc (counts ps)

  bits_are : (many : ℕ) → AreBits (bit_in places items) many (shown (core_of d) (after_edges d image entries)).bits
  bits_are many stage number low less =
      ap₂ (λ (ps : List ItemPlace) (xs : List ℕ). bit_in ps xs stage number) are before.items_are
      ∙ (taken (shown (core_of d) (after_edges d image entries)) has).bits stage number

  words_are : (words : List ℕ) → ((stage : ℕ) → stage < 8 → get_or words stage 0 ≡ word_in places items stage) → AreWords words (shown (core_of d) (after_edges d image entries)).words
  words_are words told stage low =
      told stage low
      ∙ ap₂ (λ (ps : List ItemPlace) (xs : List ℕ). word_in ps xs stage) are before.items_are
      ∙ (taken (shown (core_of d) (after_edges d image entries)) has).words stage

  pub back_some : (t : DescriptionTree) (many : ℕ) → t ≡ d → IsSome t (bit_in places items) many
  back_some t many tree = subst (λ (t : DescriptionTree). IsSome t (bit_in places items) many) (sym tree) (first_contents d image, (entries, bits_are many))

  module _ (held : PutItemsAreHeld d) (old new : Contents) (queues : Queues) (words : List ℕ) (reached : IsReached d image old queues words) (same : old.cells ≡ cells)
      (put : (v : ItemValues) → items ≡ map (value_at v) places → IsPut places v (length places) old (with_cells old.cells new)) (back : new.cells ≡ put_back touches old.cells) where
    memory_is : new ≡ (after_edges d image entries).memory
    memory_is =
        let was = shown (core_of d) (after_edges d image reached.entries) in
        let here = shown (core_of d) (after_edges d image entries) in
        let at = put (values_of here) items_at in
        let placed = subst (λ (ps : List ItemPlace). IsPut ps (values_of here) (length ps) old (with_cells old.cells new)) are at in
        let from = subst (λ (c : Contents). IsPut (item_places (layout_of d)) (values_of here) (length (item_places (layout_of d))) c (with_cells old.cells new)) reached.shows.memory_is placed in
        let both = held was here (with_cells old.cells new) (have image reached.entries runs.rules runs.found) has from in
        let rows = back ∙ ap (put_back touches) same ∙ before.back in
        λ i. record { registers = both.0 i; cells = rows i; fields = both.1 i }

    pub back_shown : (t : DescriptionTree) (queues' : Queues) (words' given : List ℕ) (many : ℕ) → t ≡ d → ((stage : ℕ) → stage < 8 → get_or given stage 0 ≡ word_in places items stage)
        → Restores t new queues' words' (bit_in places items) many given → ShowsHardware new queues' words' (shown (core_of d) (after_edges d image entries))
    back_shown t queues' words' given many tree told restores =
        subst (λ (t : DescriptionTree). Restores t new queues' words' (bit_in places items) many given) tree restores
        (first_contents d image) entries memory_is (bits_are many) (words_are given told)
