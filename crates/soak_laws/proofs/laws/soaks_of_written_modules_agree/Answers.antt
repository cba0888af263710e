use Rattle.generator_commands.specs.lisa_forms.Verdicts.{HasForms}
use Rattle.lisa_linker.specs.Memories.{AreMemories}
use Rattle.lisa_machine.specs.Verdicts.{IsAccepted}
use Rattle.lisa_tree.specs.Descriptions.{DescriptionTree}
use Rattle.generator_commands.specs.lisa_assembler.Memories.{memory_items}
use Rattle.generator_commands.proofs.assembler_commands_proofs.MemoryRules.{memories_are}
use Rattle.generator_commands.proofs.DigestRules.{digest_rules}
use Rattle.soak_laws.proofs.Agreed.{agree}
use Rattle.soak_laws.proofs.laws.soaks_of_written_modules_agree.Goals as goal

pub returns : goal.returns
returns c =
    let places : (d : DescriptionTree) → IsAccepted d → HasForms d → AreMemories (memory_items d) = λ d good has. memories_are d (c.machines_show.ensures d good) (c.sizes_are_limited.ensures d has).2.few_cells in
    agree places
    (λ d bytes lines o good has said is.
    c.objects_of_sources_keep_rules.ensures d bytes lines o good has (λ k a low. let place = (places d good has).places k a low in record { narrow = place.narrow; wide = place.wide }) (digest_rules d) said is)
