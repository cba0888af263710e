use Rattle.std.proofs.Common.{arith}
use Rattle.lisa_debug.proofs.WordLists.{too_many}
use Rattle.lisa_debug.proofs.command.read_words.Goals as goal

pub returns-in_default-2-clause-read : goal.returns-in_default-2-clause-read
returns-in_default-2-clause-read c = too_many c.args.items.now c.args.arrays.now c.args.edge c.args.words.now (omega arith)
