use Rattle.std.proofs.Common.{None}
use Rattle.lisa_tree.specs.Descriptions.{DescriptionTree}
use Rattle.form_texts.specs.coding_checks.Uneven.{IsFirstGroupWidth, group_width}
use Rattle.lisa_machine.specs.Freedom.{IsFree}
use Rattle.lisa_machine.proofs.Sound.{sound}
use Rattle.form_promises.proofs.Readable.{form_readable}
use Rattle.form_promises.proofs.writing.instructions_are_readable.Goals as goal

even_of : (d : DescriptionTree) (first : IsFirstGroupWidth d None) → IsFree (group_width first.widths d) d
even_of d first = cc first.is

pub returns : goal.returns
returns c = λ d accepted even free o own t fits clean. form_readable d (sound d accepted) even.widths (even_of d even) free o own t fits clean
