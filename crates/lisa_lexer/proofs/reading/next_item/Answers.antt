use Rattle.lisa_lexer.proofs.Loop.{item_part}
use Rattle.lisa_lexer.proofs.reading.next_item.Goals as goal

pub returns-clause-part : goal.returns-clause-part
returns-clause-part c = item_part c.args.at c.args.bytes.now c.item_at.result c.requires.some c.item_at.ensures
