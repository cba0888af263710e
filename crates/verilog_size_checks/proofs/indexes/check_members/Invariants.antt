use Rattle.std.proofs.Common.{◌≡◌, drop, map}
use Rattle.std.specs.Prelude.{flat_map}
use Rattle.verilog_text.specs.Conditions.{member_indexes}
use Rattle.verilog_places.specs.Trees.{placed_member, bare_members}
use Rattle.verilog_size_checks.specs.Sought.{first_of, index_fault}
use Rattle.verilog_size_checks.specs.Scopes.{module_in}
use Rattle.verilog_size_checks.proofs.indexes.check_members.Given as goal

abbrev pub invariant-each : goal.invariant-each
invariant-each l = first_of (index_fault (module_in l.scope)) (flat_map member_indexes (bare_members (map placed_member (drop l.member-index l.members)))) ≡ first_of (index_fault (module_in l.scope)) (flat_map member_indexes (bare_members (map placed_member l.members)))
