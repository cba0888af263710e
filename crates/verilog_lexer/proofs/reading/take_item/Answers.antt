use Rattle.std.proofs.Common.{◌≡◌, [], ◌∷◌, ◌++◌, ap, ◌∙◌, sym, map, List, Ok, ℕ}
use Rattle.std.proofs.lemmas.Result.{err_from_is_err_and}
use Rattle.std.proofs.lemmas.List.{map-append}
use Rattle.verilog_text.specs.declared.tokens.VToken.{VToken}
use Rattle.verilog_text.specs.Tokens.{vtok_of_part}
use Rattle.verilog_lexer.specs.Reading.{item_at, Take}
use Rattle.verilog_lexer.specs.Answers.{placed, with_front}
use Rattle.verilog_lexer.proofs.Loop.{skips_on, takes_on, fails_on}
use Rattle.verilog_lexer.proofs.reading.take_item.Goals as goal

pub returns-in_err-len-clause-fault : goal.returns-in_err-len-clause-fault
returns-in_err-len-clause-fault c =
    let p = err_from_is_err_and c.from_residual.result c.from_residual.ensures.1 in
    rw (p.1, p.2) (fails_on [] c.args.at c.args.rest.now c.requires.some c.in_err-len.field-0.0 c.in_err-len.ensures.exact)

pub returns-in-Skip-clause-same : goal.returns-in-Skip-clause-same
returns-in-Skip-clause-same c = skips_on (map placed c.args.tokens.now.items) c.args.at c.args.rest.now c.requires.some c.in-Skip.len (rw c.in-Skip.is at c.in_ok-len.ensures.exact)

pub returns-in_ok-push-in-Take-clause-same : goal.returns-in_ok-push-in-Take-clause-same
returns-in_ok-push-in-Take-clause-same c =
    let there : item_at c.args.at c.args.rest.now ≡ Ok (Take c.in-Take.len (vtok_of_part c.in-Take.part)) = rw c.in-Take.is at c.in_ok-len.ensures.exact in
    rw (c.in_ok-push-in-Take.ensures.items, map-append) (takes_on (map placed c.args.tokens.now.items) c.args.at c.args.rest.now c.requires.some c.in-Take.len (vtok_of_part c.in-Take.part) there)
