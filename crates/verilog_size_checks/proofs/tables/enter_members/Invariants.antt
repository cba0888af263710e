use Rattle.std.proofs.Common.{◌≡◌, ℕ, List, map, drop}
use Rattle.std.specs.Option.{option_or}
use Rattle.name_tables.specs.TableViews.{value_of}
use Rattle.verilog_places.specs.Trees.{placed_member}
use Rattle.verilog_size_checks.specs.Sought.{first_of, member_value}
use Rattle.verilog_size_checks.proofs.tables.enter_members.Given as goal

abbrev pub invariant-each : goal.invariant-each
invariant-each l = (n : List ℕ) → option_or (value_of l.table n) (first_of (member_value l.kind n) (map placed_member (drop l.member-index l.members)))
    ≡ option_or (value_of l.initial.table n) (first_of (member_value l.kind n) (map placed_member l.members))
