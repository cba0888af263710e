-- What is shown, and what items tell.
use Rattle.std.specs.Prelude.{ℕ, suc, ◌≡◌, ◌≤◌, List, [], ◌∷◌, ◌++◌, None, length}
use Rattle.lisa_tree.specs.Descriptions.{DescriptionTree}
use Rattle.lisa_engine.specs.Memory.{Memory}
use Rattle.lisa_engine.specs.Images.{IsImage, missing_memory}
use Rattle.lisa_tree.specs.Resources.{stages}
use Rattle.lisa_meaning.specs.machine_parts.Parts.{arrays_of}
use Rattle.item_layouts.specs.Layouts.{item_places, item_values}
use Rattle.pipeline_time.specs.Bits.{Hardware, shown}
use Rattle.pipeline_time.specs.States.{after}
use Rattle.lisa_activation.specs.declared.kept.Queues.{Queues}
use Rattle.pipeline_runs.specs.Pipelines.{ShowsHardware}
use Rattle.lisa_meaning.specs.Moments.{Contents}
use Rattle.lisa_meaning.specs.Cores.{core_of}
use Rattle.lisa_meaning.specs.States.{layout_of, values_of, shown_state, after_edges, state_of}
use Rattle.lisa_meaning.specs.Showing.{HasItems, EdgesHaveItems, ItemsShowAll}
use Rattle.pipeline_states.specs.Showing.{state_in, IsReached}
use Rattle.pipeline_states.specs.Taken.{bit_in, word_in}

abbrev pub StatesAreShown : DescriptionTree → Type 0
StatesAreShown d =
    (memory : Contents) (queues : Queues) (words : List ℕ) (hard : Hardware Contents)
    → length (stages d) ≤ 8
    → ShowsHardware memory queues words hard
    → state_in (item_places (layout_of d)) memory queues words ≡ shown_state d hard

abbrev pub AllIsShown : DescriptionTree → Type 0
AllIsShown d =
    (image : List Memory) (memory : Contents) (queues : Queues) (words : List ℕ) (entries : List (List ℕ))
    → length (stages d) ≤ 8
    → IsImage image
    → missing_memory (arrays_of d) image ≡ None
    → EdgesHaveItems d
    → ItemsShowAll d
    → IsReached d image memory queues words
    → state_in (item_places (layout_of d)) memory queues words ≡ state_of d image entries
    → ShowsHardware memory queues words (shown (core_of d) (after_edges d image entries))

-- whether a bit is set, and what the word of a stage is
pub record AreTaken (d : DescriptionTree) (hard : Hardware Contents) : Type 0 where
  pub bits : (s k : ℕ) → bit_in (item_places (layout_of d)) (item_values (layout_of d) (values_of hard)) s k ≡ hard.bits (suc s) k
  pub words : (s : ℕ) → word_in (item_places (layout_of d)) (item_values (layout_of d) (values_of hard)) s ≡ hard.words (suc s)

abbrev pub ItemsAreTaken : DescriptionTree → Type 0
ItemsAreTaken d = (hard : Hardware Contents) → HasItems d hard → AreTaken d hard

-- what a pipeline shows before an edge with these pins, and after it
pub record IsEdge (d : DescriptionTree) (memory : Contents) (queues : Queues) (words pins : List ℕ) (memory' : Contents) (queues' : Queues) (words' : List ℕ) : Type 0 where
  pub leads : (first : Contents) (entries : List (List ℕ)) → ShowsHardware memory queues words (shown (core_of d) (after (core_of d) first entries))
      → ShowsHardware memory' queues' words' (shown (core_of d) (after (core_of d) first (entries ++ pins ∷ [])))

-- it is reached again, and where it showed the state after some edges, it shows that after one more
pub record IsOneEdgeOn (d : DescriptionTree) (image : List Memory) (memory : Contents) (queues : Queues) (words pins : List ℕ) (memory' : Contents) (queues' : Queues) (words' : List ℕ) : Type 0 where
  pub reached : IsReached d image memory' queues' words'
  pub states : (entries : List (List ℕ)) → state_in (item_places (layout_of d)) memory queues words ≡ state_of d image entries
      → state_in (item_places (layout_of d)) memory' queues' words' ≡ state_of d image (entries ++ pins ∷ [])

abbrev pub EdgesAreShown : DescriptionTree → Type 0
EdgesAreShown d =
    (image : List Memory) (memory : Contents) (queues : Queues) (words pins : List ℕ) (memory' : Contents) (queues' : Queues) (words' : List ℕ)
    → length (stages d) ≤ 8
    → IsImage image
    → missing_memory (arrays_of d) image ≡ None
    → EdgesHaveItems d
    → ItemsShowAll d
    → IsReached d image memory queues words
    → IsEdge d memory queues words pins memory' queues' words'
    → IsOneEdgeOn d image memory queues words pins memory' queues' words'
