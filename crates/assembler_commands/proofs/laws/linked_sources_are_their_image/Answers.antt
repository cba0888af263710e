use Rattle.std.specs.Prelude.{All}
use Rattle.source_promises.specs.lisa_assembler.Memories.{memory_items}
use Rattle.source_promises.specs.lisa_assembler.Places.{HasWords}
use Rattle.assembler_commands.proofs.MemoryRules.{memories_are}
use Rattle.assembler_commands.proofs.SourceImages.{linked_text}
use Rattle.assembler_commands.proofs.laws.linked_sources_are_their_image.Goals as goal

pub returns : goal.returns
returns c =
    linked_text c.objects_are_unique.ensures c.objects_of_sources_keep_rules.ensures
    (λ d accepted has k a low. let place = (memories_are d (c.machines_show.ensures d accepted) (c.sizes_are_limited.ensures d has).2.few_cells).places k a low in record { narrow = place.narrow; wide = place.wide })
    c.sources_link_to_their_image.ensures
