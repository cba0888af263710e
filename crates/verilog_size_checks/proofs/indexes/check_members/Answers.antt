use Rattle.std.proofs.Common.{List, ℕ, Option, ◌+◌, drop, map, ap, subst, sym, ◌∙◌}
use Rattle.std.specs.Prelude.{flat_map}
use Rattle.std.specs.Option.{option_or}
use Rattle.verilog_text.specs.Conditions.{member_indexes}
use Rattle.verilog_places.specs.Trees.{placed_member, bare_member, bare_members}
use Rattle.verilog_size_checks.specs.Scopes.{module_in}
use Rattle.verilog_size_checks.specs.Sought.{first_of, index_fault, TellsIndex}
use Rattle.verilog_size_checks.proofs.ActionLaws.{members_at}
use Rattle.verilog_size_checks.proofs.TellingLaws.{passed, index_front}
use Rattle.verilog_size_checks.proofs.indexes.check_members.Goals as goal

pub returns-in_err-check_member-clause-wrong : goal.returns-in_err-check_member-clause-wrong
returns-in_err-check_member-clause-wrong c =
    let find = index_fault (module_in c.args.scope.now) in
    let here = member_indexes (bare_member (placed_member c.member-item.result)) in
    let rest = flat_map member_indexes (bare_members (map placed_member (drop (c.each.member-index + 1) c.args.members.now))) in
    let e = members_at find c.args.members.now c.each.member-index c.member-item.result c.each-test.true c.member-item.is in
    passed _ _ _ c.from_residual.ensures
    (subst (λ (o : Option (List ℕ × ℕ × ℕ)). TellsIndex o c.in_err-check_member.field-0.0) (sym e ∙ c.each.invariant) (index_front (first_of find here) (first_of find rest) _ c.in_err-check_member.ensures.wrong))

pub each-preserved : goal.each-preserved
each-preserved c =
    let find = index_fault (module_in c.args.scope.now) in
    let rest = flat_map member_indexes (bare_members (map placed_member (drop (c.each.member-index + 1) c.args.members.now))) in
    let e = members_at find c.args.members.now c.each.member-index c.member-item.result c.each-test.true c.member-item.is in
    ap (λ (o : Option (List ℕ × ℕ × ℕ)). option_or o (first_of find rest)) (sym c.in_ok-check_member.ensures.right) ∙ sym e ∙ c.each.invariant
