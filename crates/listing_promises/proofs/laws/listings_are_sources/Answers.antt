use Rattle.std.specs.Prelude.{All}
use Rattle.instruction_trees.specs.Values.{values}
use Rattle.lisa_linker.specs.Memories.{AreMemories}
use Rattle.lisa_assembler.specs.Memories.{memory_items}
use Rattle.lisa_assembler.specs.Places.{HasWords}
use Rattle.assembler_commands.proofs.MemoryRules.{memories_are}
use Rattle.listing_promises.proofs.ReadListing.{listed_image}
use Rattle.listing_promises.proofs.laws.listings_are_sources.Goals as goal

pub returns : goal.returns
returns c = λ d image text accepted spelled has apart rules none listed.
    let places : AreMemories (memory_items d) = memories_are d (c.machines_show.ensures d accepted) (c.sizes_are_limited.ensures d has).2.few_cells in
    let words : All HasWords (memory_items d) = λ k a low. let place = places.places k a low in record { narrow = place.narrow; wide = place.wide } in
    listed_image d accepted has apart (λ k t instruction. c.texts_are_lines.ensures d k (values t) t accepted spelled has instruction) places (c.spelled_is_well_formed.ensures spelled.bytes d spelled.spells).resources
    (λ t fits. c.instructions_are_of_one_form.ensures.some d t accepted fits) image text rules none listed
    (λ bytes lines o digest said made. c.objects_of_sources_keep_rules.ensures d bytes lines o accepted has words digest said made)
    (λ sources parts objects are made. c.sources_link_to_their_image.ensures d sources parts objects accepted has are made)
