use Rattle.std.proofs.Common.{◌≡◌, [], Ok}
use Rattle.std.proofs.lemmas.Result.{err_from_is_err_and}
use Rattle.lisa_lexer.specs.declared.items.Item.TheVariants.{Take}
use Rattle.lisa_lexer.specs.Lexing.{item_at}
use Rattle.lisa_lexer.proofs.Loop.{skips_on, takes_on, fails_on}
use Rattle.lisa_lexer.proofs.reading.take_item.Goals as goal

pub returns-in_err-len-clause-fault : goal.returns-in_err-len-clause-fault
returns-in_err-len-clause-fault c =
    let p = err_from_is_err_and c.from_residual.result c.from_residual.ensures.1 in
    rw (p.1, p.2) (fails_on [] c.args.at c.args.rest.now c.requires.some c.in_err-len.field-0.0 c.in_err-len.ensures.exact)

pub returns-in-Skip-clause-same : goal.returns-in-Skip-clause-same
returns-in-Skip-clause-same c = skips_on c.args.tokens.now.items c.args.at c.args.rest.now c.requires.some c.in-Skip.len (rw c.in-Skip.is at c.in_ok-len.ensures.exact)

pub returns-in_ok-push-in-Take-clause-same : goal.returns-in_ok-push-in-Take-clause-same
returns-in_ok-push-in-Take-clause-same c =
    let there : item_at c.args.at c.args.rest.now ≡ Ok (Take c.in-Take.len c.in-Take.part) = rw c.in-Take.is at c.in_ok-len.ensures.exact in
    rw c.in_ok-push-in-Take.ensures.items (takes_on c.args.tokens.now.items c.args.at c.args.rest.now c.requires.some c.in-Take.len c.in-Take.part there)
