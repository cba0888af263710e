use Rattle.std.proofs.Common.{◌≡◌, rules, ◌∷◌, [], not, arith, sym, ap, ◌∙◌}
use Rattle.std.proofs.lemmas.Result.{err_from_is_err_and}
use Rattle.lisa_tree.specs.Tokens.{toks}
use Rattle.lisa_words.proofs.ManyLaws.{goes_on, is_done}
use Rattle.lisa_section_reader.specs.Lists.{behind_of, ends_names, names_of}
use Rattle.lisa_section_reader.proofs.ListLaws.{behind_shrinks, names_start, names_fail, fails_within}
use Rattle.lisa_section_reader.proofs.lists.names.Goals as goal

pub each-init : goal.each-init
each-init c =
    let one : c.push.new.self.items ≡ c.in_ok-first.first ∷ [] = search rules in
    (rw one (names_start c.args.sign (toks c.args.tokens.now) (toks c.in_ok-first.rest.now) c.in_ok-first.first c.in_ok-first.ensures.exact), omega (arith, c.in_ok-first.ensures.shorter))

pub returns-in_err-next-clause-exact : goal.returns-in_err-next-clause-exact
returns-in_err-next-clause-exact c =
    let p = err_from_is_err_and c.from_residual-in_err-next.result c.from_residual-in_err-next.ensures.1 in
    rw (p.1, p.2) (fails_within (behind_of c.args.sign) (ends_names c.args.sign) (behind_shrinks c.args.sign) c.each.all.items (toks c.each.rest.now) (names_of c.args.sign (toks c.args.tokens.now)) c.each.invariant.0 c.in_err-next.field-0.0 (ap not (sym c.each-test.true ∙ c.follows.ensures)) c.in_err-next.ensures.exact)

pub each-preserved : goal.each-preserved
each-preserved c =
    (rw c.in_ok-push-2.ensures.items (goes_on (behind_of c.args.sign) (ends_names c.args.sign) (behind_shrinks c.args.sign) c.each.all.items (toks c.each.rest.now) (names_of c.args.sign (toks c.args.tokens.now)) c.each.invariant.0 c.in_ok-next.next (toks c.in_ok-next.after.now) (ap not (sym c.each-test.true ∙ c.follows.ensures)) c.in_ok-next.ensures.exact), omega (arith, c.each.invariant.1, c.in_ok-next.ensures.shorter))

pub returns-clause-exact : goal.returns-clause-exact
returns-clause-exact c = is_done (behind_of c.args.sign) (ends_names c.args.sign) (behind_shrinks c.args.sign) c.each.all.items (toks c.each.rest.now) (names_of c.args.sign (toks c.args.tokens.now)) c.each.invariant.0 (ap not (sym c.each-test.false ∙ c.follows.ensures))

pub returns-in_err-first-clause-exact : goal.returns-in_err-first-clause-exact
returns-in_err-first-clause-exact c =
    let p = err_from_is_err_and c.from_residual.result c.from_residual.ensures.1 in
    rw (p.1, p.2) (names_fail c.args.sign (toks c.args.tokens.now) c.in_err-first.field-0.0 c.in_err-first.ensures.exact)
