use Rattle.std.proofs.Common.{refl, ◌++◌, ◌∷◌, []}
use Rattle.item_layouts.specs.Layouts.{item_places}
use Rattle.pipeline_time.specs.Bits.{shown}
use Rattle.lisa_meaning.specs.Cores.{core_of}
use Rattle.lisa_meaning.specs.States.{layout_of, first_contents, after_edges}
use Rattle.pipeline_states.proofs.States.{state_same, shows_after}
use Rattle.pipeline_states.proofs.shown.edges_are_shown.Goals as goal

pub returns : goal.returns
returns c d image memory queues words pins memory' queues' words' few rules found have all reached edge = record {
  reached = record { entries = reached.entries ++ pins ∷ []; shows = edge.leads (first_contents d image) reached.entries reached.shows };
  states = λ entries same.
      let here = shows_after d few image rules found have all (item_places (layout_of d)) memory queues words refl reached entries same in
      let there = edge.leads (first_contents d image) entries here in
      state_same d few memory' queues' words' (shown (core_of d) (after_edges d image (entries ++ pins ∷ []))) there (item_places (layout_of d)) refl;
}
