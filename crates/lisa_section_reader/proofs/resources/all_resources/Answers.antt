use Rattle.std.proofs.Common.{◌≡◌, rules, ◌++◌, ◌∷◌, [], map, arith, sym, ◌∙◌}
use Rattle.std.proofs.lemmas.List.{map-append}
use Rattle.std.proofs.lemmas.Result.{err_from_is_err_and}
use Rattle.lisa_tree.specs.Descriptions.{resource_tree}
use Rattle.lisa_tree.specs.Tokens.{toks}
use Rattle.lisa_words.proofs.ManyLaws.{goes_on, is_done}
use Rattle.lisa_section_reader.specs.Resources.{resource_of, ends, resources_of}
use Rattle.lisa_section_reader.proofs.ListLaws.{fails_within}
use Rattle.lisa_section_reader.proofs.ResourceLaws.{resource_shrinks, resources_start}
use Rattle.lisa_section_reader.proofs.resources.all_resources.Goals as goal

pub each-init : goal.each-init
each-init c =
    let none : c.new-all.result.items ≡ [] = search rules in
    (rw none (resources_start (toks c.args.tokens.now)), omega arith)

pub returns-in_err-next-clause-exact : goal.returns-in_err-next-clause-exact
returns-in_err-next-clause-exact c =
    let p = err_from_is_err_and c.from_residual.result c.from_residual.ensures.1 in
    rw (p.1, p.2) (fails_within resource_of ends resource_shrinks (map resource_tree c.each.all.items) (toks c.each.rest.now) (resources_of (toks c.args.tokens.now)) c.each.invariant.0 c.in_err-next.field-0.0 (sym c.each-test.true ∙ c.ends.ensures) c.in_err-next.ensures.exact)

pub each-preserved : goal.each-preserved
each-preserved c =
    let more : map resource_tree c.push.new.self.items ≡ map resource_tree c.each.all.items ++ resource_tree c.in_ok-next.next ∷ [] = rw c.in_ok-push.ensures.items (map-append resource_tree c.each.all.items (c.in_ok-next.next ∷ [])) in
    (rw more (goes_on resource_of ends resource_shrinks (map resource_tree c.each.all.items) (toks c.each.rest.now) (resources_of (toks c.args.tokens.now)) c.each.invariant.0 (resource_tree c.in_ok-next.next) (toks c.in_ok-next.after.now) (sym c.each-test.true ∙ c.ends.ensures) c.in_ok-next.ensures.exact), omega (arith, c.each.invariant.1, c.in_ok-next.ensures.shorter))

pub returns-clause-exact : goal.returns-clause-exact
returns-clause-exact c = is_done resource_of ends resource_shrinks (map resource_tree c.each.all.items) (toks c.each.rest.now) (resources_of (toks c.args.tokens.now)) c.each.invariant.0 (sym c.each-test.false ∙ c.ends.ensures)
