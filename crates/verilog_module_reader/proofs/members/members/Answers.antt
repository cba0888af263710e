use Rattle.std.proofs.Common.{◌≡◌, rules, ◌++◌, ◌∷◌, [], map, arith, sym, ◌∙◌}
use Rattle.std.proofs.lemmas.List.{map-append}
use Rattle.std.proofs.lemmas.Result.{err_from_is_err_and}
use Rattle.lisa_words.proofs.ManyLaws.{goes_on, is_done}
use Rattle.verilog_places.specs.Trees.{placed_member}
use Rattle.verilog_expression_reader.specs.Past.{placed_toks}
use Rattle.verilog_module_reader.specs.Members.{member_of, ends_module, members_of}
use Rattle.verilog_module_reader.proofs.PartLaws.{fails_within}
use Rattle.verilog_module_reader.proofs.MemberLaws.{member_shrinks, members_start}
use Rattle.verilog_module_reader.proofs.members.members.Goals as goal

pub each-init : goal.each-init
each-init c =
    let none : c.new-all.result.items ≡ [] = search rules in
    (rw none (members_start c.args.budget (placed_toks c.args.tokens.now)), omega arith)

pub returns-in_err-next-clause-exact : goal.returns-in_err-next-clause-exact
returns-in_err-next-clause-exact c =
    let p = err_from_is_err_and c.from_residual.result c.from_residual.ensures.1 in
    rw (p.1, p.2) (fails_within (member_of c.args.budget) ends_module (member_shrinks c.args.budget) (map placed_member c.each.all.items) (placed_toks c.each.rest.now) (members_of c.args.budget (placed_toks c.args.tokens.now)) c.each.invariant.0 c.in_err-next.field-0.0 (sym c.each-test.true ∙ c.ends_module.ensures) c.in_err-next.ensures.exact)

pub each-preserved : goal.each-preserved
each-preserved c =
    let more : map placed_member c.push.new.self.items ≡ map placed_member c.each.all.items ++ placed_member c.in_ok-next.next ∷ [] = rw c.in_ok-push.ensures.items (map-append placed_member c.each.all.items (c.in_ok-next.next ∷ [])) in
    (rw more (goes_on (member_of c.args.budget) ends_module (member_shrinks c.args.budget) (map placed_member c.each.all.items) (placed_toks c.each.rest.now) (members_of c.args.budget (placed_toks c.args.tokens.now)) c.each.invariant.0 (placed_member c.in_ok-next.next) (placed_toks c.in_ok-next.after.now) (sym c.each-test.true ∙ c.ends_module.ensures) c.in_ok-next.ensures.exact), omega (arith, c.each.invariant.1, c.in_ok-next.ensures.shorter))

pub returns-clause-exact : goal.returns-clause-exact
returns-clause-exact c = is_done (member_of c.args.budget) ends_module (member_shrinks c.args.budget) (map placed_member c.each.all.items) (placed_toks c.each.rest.now) (members_of c.args.budget (placed_toks c.args.tokens.now)) c.each.invariant.0 (sym c.each-test.false ∙ c.ends_module.ensures)
