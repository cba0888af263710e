use Rattle.std.proofs.Common.{◌≡◌, rules, ◌++◌, ◌∷◌, [], map, List, Option, Some, sym, ap, ◌∙◌}
use Rattle.std.proofs.lemmas.List.{map-append}
use Rattle.std.proofs.lemmas.Result.{err_from_is_err_and}
use Rattle.lisa_tree.specs.Descriptions.{OperationTree, operation_tree}
use Rattle.lisa_tree.specs.Grammar.{Toks}
use Rattle.lisa_tree.specs.Tokens.{toks}
use Rattle.lisa_words.proofs.ManyLaws.{goes_on}
use Rattle.lisa_words.proofs.ManyLaws as laws
use Rattle.lisa_section_reader.proofs.ListLaws.{fails_within}
use Rattle.lisa_reader.specs.Reading.{operation_of, is_done, operations_of}
use Rattle.lisa_reader.proofs.OperationLaws.{operation_shrinks}
use Rattle.lisa_reader.proofs.DescriptionLaws.{operations_start, done_nil}
use Rattle.lisa_reader.proofs.operations.operations.Goals as goal

pub each-init : goal.each-init
each-init c =
    let none : c.new-all.result.items ≡ [] = search rules in
    rw none (operations_start (toks c.args.tokens.now))

pub returns-in_err-next : goal.returns-in_err-next
returns-in_err-next c =
    let p = err_from_is_err_and c.from_residual.result c.from_residual.ensures.1 in
    rw (p.1, p.2) (fails_within operation_of is_done operation_shrinks (map operation_tree c.each.all.items) (toks c.each.rest.now) (operations_of (toks c.args.tokens.now)) c.each.invariant c.in_err-next.field-0.0 (sym c.each-test.true ∙ c.is_done.ensures) c.in_err-next.ensures.exact)

pub each-preserved : goal.each-preserved
each-preserved c =
    let more : map operation_tree c.push.new.self.items ≡ map operation_tree c.each.all.items ++ operation_tree c.in_ok-next.next ∷ [] = rw c.in_ok-push.ensures.items (map-append operation_tree c.each.all.items (c.in_ok-next.next ∷ [])) in
    rw more (goes_on operation_of is_done operation_shrinks (map operation_tree c.each.all.items) (toks c.each.rest.now) (operations_of (toks c.args.tokens.now)) c.each.invariant (operation_tree c.in_ok-next.next) (toks c.in_ok-next.after.now) (sym c.each-test.true ∙ c.is_done.ensures) c.in_ok-next.ensures.exact)

pub returns : goal.returns
returns c =
    let over = sym c.each-test.false ∙ c.is_done.ensures in
    laws.is_done operation_of is_done operation_shrinks (map operation_tree c.each.all.items) (toks c.each.rest.now) (operations_of (toks c.args.tokens.now)) c.each.invariant over
    ∙ ap (λ (l : Toks). Some (map operation_tree c.each.all.items, l)) (done_nil (toks c.each.rest.now) (sym over))
