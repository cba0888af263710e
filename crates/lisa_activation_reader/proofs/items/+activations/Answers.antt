use Rattle.std.proofs.Common.{◌≡◌, arith, sym, ◌∙◌}
use Rattle.std.proofs.lemmas.Result.{err_from_is_err_and}
use Rattle.lisa_tree.specs.Activations.{End, Then, act_tree, act_trees}
use Rattle.lisa_activation_reader.specs.Gives.{glue}
use Rattle.lisa_activation_reader.proofs.ActEquation.{acts_is}
use Rattle.lisa_activation_reader.proofs.ActLoop.{goes_on, fails_on, is_done, act_trees-push}
use Rattle.lisa_activation_reader.proofs.items.+activations.Goals as goal

pub item-returns-clause-exact : goal.item-returns-clause-exact
item-returns-clause-exact t c = rw acts_is c.by_front.ensures.exact

pub items-returns-in_err-next-clause-exact : goal.items-returns-in_err-next-clause-exact
items-returns-in_err-next-clause-exact t c =
    let p = err_from_is_err_and c.from_residual-in_err-next.result c.from_residual-in_err-next.ensures.1 in
    rw (p.1, p.2) (fails_on _ _ _ _ c.each.invariant.0 c.in_err-next.field-0.0 (sym c.each-test.true ∙ c.has_comma.ensures) c.in_err-next.ensures.exact)

pub items-each-preserved : goal.items-each-preserved
items-each-preserved t c =
    let more : act_trees c.push-in-each.new.self.items ≡ glue (act_trees c.each.all.items) (Then (act_tree c.in_ok-next.next) End) = rw c.in_ok-push-2.ensures.items (act_trees-push c.each.all.items c.in_ok-next.next) in
    (rw more (goes_on _ _ _ _ c.each.invariant.0 _ _ (sym c.each-test.true ∙ c.has_comma.ensures) c.in_ok-next.ensures.exact), omega (arith, c.each.invariant.1, c.in_ok-next.ensures.shorter))

pub items-returns-clause-exact : goal.items-returns-clause-exact
items-returns-clause-exact t c = is_done _ _ _ _ c.each.invariant.0 (sym c.each-test.false ∙ c.has_comma.ensures)
