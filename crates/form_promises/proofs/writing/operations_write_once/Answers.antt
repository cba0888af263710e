use Rattle.std.proofs.Common.{◌≡◌, ℕ, [], Option, None, Some, true, refl}
use Rattle.std.specs.Prelude.{slice_index_or}
use Rattle.lisa_tree.specs.Descriptions as trees
use Rattle.lisa_tree.specs.Descriptions.{CodingTree, DescriptionTree}
use Rattle.lisa_tree.specs.Operations.{coding_in, sections_at}
use Rattle.lisa_machine.specs.coded_names.Codings.{is_coding}
use Rattle.form_texts.specs.coding_checks.Written.{not_written}
use Rattle.instruction_trees.specs.Trees.{coding}
use Rattle.form_texts.specs.coding_tables.Codings.{coding_table}
use Rattle.form_texts.specs.instruction_texts.Once.{IsWrittenOnce}
use Rattle.form_texts.specs.Syntaxes.{syntax_table}
use Rattle.lisa_machine.specs.Freedom.{IsFree}
use Rattle.lisa_machine.specs.Soundness.{IsSound}
use Rattle.lisa_machine.proofs.Sound.{sound}
use Rattle.form_promises.proofs.Spelled.{written_once}
use Rattle.form_promises.proofs.writing.operations_write_once.Goals as goal

of_coding : (d : DescriptionTree) → IsSound d → IsFree (not_written d) d → (o : ℕ) (part : Option CodingTree) → coding_in (sections_at d o) ≡ part → is_coding part ≡ true → IsWrittenOnce (coding (coding_table d) o) (slice_index_or (syntax_table d) o [])
of_coding d s free o None is e = absurd (cc e)
of_coding d s free o (Some (trees.Root place group)) is e = absurd (cc e)
of_coding d s free o (Some (trees.Items all)) is e = written_once d o all is s free

pub returns : goal.returns
returns c = λ d accepted free o coded. of_coding d (sound d accepted) free o (coding_in (sections_at d o)) refl coded
