use Rattle.lisa_lexer.proofs.Lexed.{lexes_same, lexes_whole, breaks_same, has_outcome}
use Rattle.lisa_lexer.proofs.reading.tokens_are_unique.Goals as goal

pub returns-clause-some : goal.returns-clause-some
returns-clause-some c = has_outcome c.args.bytes.now

pub returns-clause-one : goal.returns-clause-one
returns-clause-one c = λ ts us d e. lexes_same d e

pub returns-clause-whole : goal.returns-clause-whole
returns-clause-whole c = λ ts fault d e. lexes_whole d e

pub returns-clause-first : goal.returns-clause-first
returns-clause-first c = λ f g d e. breaks_same d e
