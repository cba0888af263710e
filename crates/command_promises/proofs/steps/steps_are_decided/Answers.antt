use Rattle.command_promises.proofs.Decided.{modules_decided, links_decided, sources_decided, schedules_decided, memories_decided}
use Rattle.command_promises.proofs.DecidedFiles.{images_decided, module_images_decided, objects_decided}
use Rattle.command_promises.proofs.DecidedTools.{boards_decided, names_decided, files_decided, exported_decided, dumps_decided}
use Rattle.command_promises.proofs.Singles.{descriptions_single, assemblies_single}
use Rattle.description_digest.specs.Digests.{digest_of}
use Rattle.command_promises.proofs.steps.steps_are_decided.Goals as goal

pub returns-clause-descriptions : goal.returns-clause-descriptions
returns-clause-descriptions c = descriptions_single

pub returns-clause-modules : goal.returns-clause-modules
returns-clause-modules c = modules_decided

pub returns-clause-images : goal.returns-clause-images
returns-clause-images c = images_decided

pub returns-clause-module_images : goal.returns-clause-module_images
returns-clause-module_images c = module_images_decided

pub returns-clause-objects : goal.returns-clause-objects
returns-clause-objects c = λ d files. objects_decided (digest_of d) files

pub returns-clause-links : goal.returns-clause-links
returns-clause-links c = links_decided

pub returns-clause-sources : goal.returns-clause-sources
returns-clause-sources c = sources_decided

pub returns-clause-assemblies : goal.returns-clause-assemblies
returns-clause-assemblies c = assemblies_single c.sources_have_one_answer.ensures.object c.sources_have_one_answer.ensures.fault c.sources_have_one_answer.ensures.either

pub returns-clause-schedules : goal.returns-clause-schedules
returns-clause-schedules c = schedules_decided

pub returns-clause-boards : goal.returns-clause-boards
returns-clause-boards c = boards_decided

pub returns-clause-dumps : goal.returns-clause-dumps
returns-clause-dumps c = dumps_decided

pub returns-clause-memory_names : goal.returns-clause-memory_names
returns-clause-memory_names c = names_decided

pub returns-clause-memory_files : goal.returns-clause-memory_files
returns-clause-memory_files c = files_decided

pub returns-clause-exported : goal.returns-clause-exported
returns-clause-exported c = exported_decided

pub returns-clause-memories : goal.returns-clause-memories
returns-clause-memories c = memories_decided
