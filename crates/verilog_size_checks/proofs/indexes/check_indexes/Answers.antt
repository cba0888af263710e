use Rattle.std.proofs.Common.{◌≡◌, List, map, None, subst}
use Rattle.std.specs.Prelude.{flat_map}
use Rattle.verilog_text.specs.Conditions.{member_indexes}
use Rattle.verilog_places.specs.declared.modules.PlacedMember.{PlacedMember}
use Rattle.verilog_places.specs.Trees.{placed_member, bare_members, placed_module}
use Rattle.verilog_size_checks.specs.Scopes.{module_in}
use Rattle.verilog_size_checks.specs.Sought.{first_of, index_fault, TellsIndex}
use Rattle.verilog_size_checks.proofs.SizeLaws.{indexes_hold, index_told}
use Rattle.verilog_size_checks.proofs.TellingLaws.{passed}
use Rattle.verilog_size_checks.proofs.indexes.check_indexes.Goals as goal

pub returns-in_err-check_members-clause-wrong : goal.returns-in_err-check_members-clause-wrong
returns-in_err-check_members-clause-wrong c =
    let p = placed_module c.args.scope.now.tree.now in
    passed _ _ _ c.from_residual.ensures
    (index_told p _
    (subst (λ (xs : List PlacedMember). TellsIndex (first_of (index_fault (module_in c.args.scope.now)) (flat_map member_indexes (bare_members (map placed_member xs)))) c.in_err-check_members.field-0.0)
    c.deref.ensures.value c.in_err-check_members.ensures.wrong))

pub returns-clause-right : goal.returns-clause-right
returns-clause-right c =
    let p = placed_module c.args.scope.now.tree.now in
    indexes_hold p
    (subst (λ (xs : List PlacedMember). first_of (index_fault (module_in c.args.scope.now)) (flat_map member_indexes (bare_members (map placed_member xs))) ≡ None)
    c.deref.ensures.value c.in_ok-check_members.ensures.right)
