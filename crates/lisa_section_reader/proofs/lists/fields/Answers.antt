use Rattle.std.proofs.Common.{◌≡◌, rules, [], not, arith, sym, ap, ◌∙◌}
use Rattle.std.proofs.lemmas.Result.{err_from_is_err_and}
use Rattle.lisa_tree.specs.Tokens.{toks}
use Rattle.lisa_words.proofs.ManyLaws.{goes_on, is_done}
use Rattle.lisa_section_reader.specs.Lists.{field_of, ends_fields, fields_of}
use Rattle.lisa_section_reader.proofs.ListLaws.{field_shrinks, fields_start, fails_within}
use Rattle.lisa_section_reader.proofs.lists.fields.Goals as goal

pub each-init : goal.each-init
each-init c =
    let none : c.new-all.result.items ≡ [] = search rules in
    (rw none (fields_start (toks c.args.tokens.now)), omega arith)

pub returns-in_err-next-clause-exact : goal.returns-in_err-next-clause-exact
returns-in_err-next-clause-exact c =
    let p = err_from_is_err_and c.from_residual.result c.from_residual.ensures.1 in
    rw (p.1, p.2) (fails_within field_of ends_fields field_shrinks c.each.all.items (toks c.each.rest.now) (fields_of (toks c.args.tokens.now)) c.each.invariant.0 c.in_err-next.field-0.0 (ap not (sym c.each-test.true ∙ c.is_typed.ensures)) c.in_err-next.ensures.exact)

pub each-preserved : goal.each-preserved
each-preserved c =
    (rw c.in_ok-push.ensures.items (goes_on field_of ends_fields field_shrinks c.each.all.items (toks c.each.rest.now) (fields_of (toks c.args.tokens.now)) c.each.invariant.0 c.in_ok-next.next (toks c.in_ok-next.after.now) (ap not (sym c.each-test.true ∙ c.is_typed.ensures)) c.in_ok-next.ensures.exact), omega (arith, c.each.invariant.1, c.in_ok-next.ensures.shorter))

pub returns-clause-exact : goal.returns-clause-exact
returns-clause-exact c = is_done field_of ends_fields field_shrinks c.each.all.items (toks c.each.rest.now) (fields_of (toks c.args.tokens.now)) c.each.invariant.0 (ap not (sym c.each-test.false ∙ c.is_typed.ensures))
