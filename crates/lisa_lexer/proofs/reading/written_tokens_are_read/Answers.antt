use Rattle.lisa_lexer.proofs.WrittenLaws.{written}
use Rattle.lisa_lexer.proofs.reading.written_tokens_are_read.Goals as goal

pub returns : goal.returns
returns c = written
