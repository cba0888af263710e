use Rattle.lisa_printer.proofs.TextLaws.{even_flat}
use Rattle.lisa_printer.proofs.laws.even_semantics_keep_brackets_few.Goals as goal

pub returns : goal.returns
returns c = even_flat
