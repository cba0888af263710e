use Rattle.std.proofs.Common.{◌≡◌, ◌++◌, map, drop}
use Rattle.std.specs.Prelude.{flat_map}
use Rattle.verilog_places.specs.Trees.{bare_member, bare_module, placed_member, placed_module}
use Rattle.verilog_checks.specs.Views.{told, told_by}
use Rattle.verilog_checks.proofs.survey.events.Given as goal

abbrev pub invariant-each : goal.invariant-each
invariant-each l = map told l.out.items ++ flat_map told_by (map bare_member (map placed_member (drop l.member-index l.module.members.items))) ≡ flat_map told_by (bare_module (placed_module l.module)).members
