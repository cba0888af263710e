use Rattle.std.proofs.Common.{◌≡◌, ℕ, List, ◌++◌, map, drop}
use Rattle.std.specs.Prelude.{flat_map}
use Rattle.verilog_text.specs.Trees.{member_tree}
use Rattle.verilog_text.specs.Clocked.{blocks, updates, env_of}
use Rattle.verilog_clock.specs.Compiled.{acts_updates}
use Rattle.verilog_clock.specs.Named.{AreWithin, placed}
use Rattle.verilog_clock.specs.Scopes.{module_in}
use Rattle.verilog_clock.proofs.actions.compile_blocks.Given as goal

abbrev pub invariant-each : goal.invariant-each
invariant-each l = (values : List ℕ) (cells : List (List ℕ)) → AreWithin (module_in l.scope) values cells
    → acts_updates values cells l.acts.items ++ map (placed (module_in l.scope)) (flat_map (updates (env_of (module_in l.scope) values cells)) (blocks (map (member_tree (module_in l.scope).clock) (drop l.member-index l.members))))
    ≡ map (placed (module_in l.scope)) (flat_map (updates (env_of (module_in l.scope) values cells)) (blocks (map (member_tree (module_in l.scope).clock) l.members)))
