use Rattle.lisa_lexer.proofs.Loop.{is_found, is_first, gives_tokens, gives_fault}
use Rattle.lisa_lexer.proofs.reading.tokens.Goals as goal

pub returns-clause-found : goal.returns-clause-found
returns-clause-found c = is_found c.args.bytes.now c.all_tokens.result c.all_tokens.ensures

pub returns-clause-fault : goal.returns-clause-fault
returns-clause-fault c = is_first c.args.bytes.now c.all_tokens.result c.all_tokens.ensures

pub returns-clause-only : goal.returns-clause-only
returns-clause-only c = λ ts d. gives_tokens c.args.bytes.now c.all_tokens.result ts c.all_tokens.ensures d

pub returns-clause-only_fault : goal.returns-clause-only_fault
returns-clause-only_fault c = λ fault d. gives_fault c.args.bytes.now c.all_tokens.result fault c.all_tokens.ensures d
