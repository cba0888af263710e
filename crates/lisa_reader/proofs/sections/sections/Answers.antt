use Rattle.std.proofs.Common.{◌≡◌, rules, ◌++◌, ◌∷◌, [], map, arith, sym, ap, ◌∙◌, option_map}
use Rattle.std.proofs.lemmas.Result.{err_from_is_err_and}
use Rattle.lisa_tree.specs.Descriptions.{section_tree}
use Rattle.lisa_tree.specs.Tokens.{toks}
use Rattle.lisa_section_reader.proofs.ListLaws.{with_none}
use Rattle.lisa_reader.specs.Reading.{before, sections_of}
use Rattle.lisa_reader.proofs.SectionLaws.{goes_on, fails_on, is_done}
use Rattle.lisa_reader.proofs.sections.sections.Goals as goal

pub each-init : goal.each-init
each-init c =
    let none : c.new-all.result.items ≡ [] = search rules in
    (rw none (with_none (sections_of (toks c.args.tokens.now))), omega arith)

pub returns-in_err-next-clause-exact : goal.returns-in_err-next-clause-exact
returns-in_err-next-clause-exact c =
    let p = err_from_is_err_and c.from_residual.result c.from_residual.ensures.1 in
    rw (p.1, p.2) (fails_on (map section_tree c.each.all.items) (toks c.each.rest.now) (sections_of (toks c.args.tokens.now)) c.each.invariant.0 c.in_err-next.field-0.0 (sym c.each-test.true ∙ c.ends.ensures) c.in_err-next.ensures.exact)

pub each-preserved : goal.each-preserved
each-preserved c =
    (rw c.in_ok-keep.ensures.kept (goes_on (map section_tree c.each.all.items) (toks c.each.rest.now) (sections_of (toks c.args.tokens.now)) c.each.invariant.0 (option_map section_tree c.in_ok-next.next) (toks c.in_ok-next.after.now) (sym c.each-test.true ∙ c.ends.ensures) c.in_ok-next.ensures.exact), omega (arith, c.each.invariant.1, c.in_ok-next.ensures.shorter))

pub returns-clause-exact : goal.returns-clause-exact
returns-clause-exact c = is_done (map section_tree c.each.all.items) (toks c.each.rest.now) (sections_of (toks c.args.tokens.now)) c.each.invariant.0 (sym c.each-test.false ∙ c.ends.ensures)
