use Rattle.std.proofs.Common.{◌≡◌, rules, ◌∷◌, [], arith, sym, ◌∙◌}
use Rattle.std.proofs.lemmas.Result.{err_from_is_err_and}
use Rattle.lisa_tree.specs.Tokens.{toks}
use Rattle.lisa_words.proofs.ManyLaws.{goes_on, is_done}
use Rattle.lisa_section_reader.specs.Resources.{ends}
use Rattle.lisa_section_reader.specs.Syntaxes.{syntax_item_of, syntax_of}
use Rattle.lisa_section_reader.proofs.ListLaws.{fails_within}
use Rattle.lisa_section_reader.proofs.SyntaxLaws.{item_shrinks, syntax_start, syntax_fail}
use Rattle.lisa_section_reader.proofs.syntaxes.syntax.Goals as goal

pub each-init : goal.each-init
each-init c =
    let one : c.push.new.self.items ≡ c.in_ok-first.first ∷ [] = search rules in
    (rw one (syntax_start (toks c.args.tokens.now) (toks c.in_ok-first.rest.now) c.in_ok-first.first c.in_ok-first.ensures.exact), omega (arith, c.in_ok-first.ensures.shorter))

pub returns-in_err-next-clause-exact : goal.returns-in_err-next-clause-exact
returns-in_err-next-clause-exact c =
    let p = err_from_is_err_and c.from_residual-in_err-next.result c.from_residual-in_err-next.ensures.1 in
    rw (p.1, p.2) (fails_within syntax_item_of ends item_shrinks c.each.all.items (toks c.each.rest.now) (syntax_of (toks c.args.tokens.now)) c.each.invariant.0 c.in_err-next.field-0.0 (sym c.each-test.true ∙ c.ends.ensures) c.in_err-next.ensures.exact)

pub each-preserved : goal.each-preserved
each-preserved c =
    (rw c.in_ok-push-2.ensures.items (goes_on syntax_item_of ends item_shrinks c.each.all.items (toks c.each.rest.now) (syntax_of (toks c.args.tokens.now)) c.each.invariant.0 c.in_ok-next.next (toks c.in_ok-next.after.now) (sym c.each-test.true ∙ c.ends.ensures) c.in_ok-next.ensures.exact), omega (arith, c.each.invariant.1, c.in_ok-next.ensures.shorter))

pub returns-clause-exact : goal.returns-clause-exact
returns-clause-exact c = is_done syntax_item_of ends item_shrinks c.each.all.items (toks c.each.rest.now) (syntax_of (toks c.args.tokens.now)) c.each.invariant.0 (sym c.each-test.false ∙ c.ends.ensures)

pub returns-in_err-first-clause-exact : goal.returns-in_err-first-clause-exact
returns-in_err-first-clause-exact c =
    let p = err_from_is_err_and c.from_residual.result c.from_residual.ensures.1 in
    rw (p.1, p.2) (syntax_fail (toks c.args.tokens.now) c.in_err-first.field-0.0 c.in_err-first.ensures.exact)
