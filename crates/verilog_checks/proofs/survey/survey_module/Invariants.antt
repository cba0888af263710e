use Rattle.std.proofs.Common.{◌≡◌, ◌++◌, map, drop, length}
use Rattle.std.specs.Prelude.{flat_map}
use Rattle.verilog_text.specs.Conditions.{head_declares, declares, member_declares}
use Rattle.verilog_places.specs.Trees.{bare_member, bare_module, placed_member, placed_module}
use Rattle.verilog_checks.specs.Views.{declared_by, counted_use, counted_uses}
use Rattle.verilog_checks.proofs.survey.survey_module.Given as goal

abbrev pub invariant-each : goal.invariant-each
invariant-each l = (map declared_by l.declared.items ++ flat_map member_declares (map bare_member (map placed_member (drop l.member-index l.module.members.items))) ≡ declares (bare_module (placed_module l.module)))
    × (map counted_use l.uses.items ++ counted_uses (length l.declared.items) (map bare_member (map placed_member (drop l.member-index l.module.members.items)))
    ≡ counted_uses (length (head_declares (bare_module (placed_module l.module)))) (bare_module (placed_module l.module)).members)
