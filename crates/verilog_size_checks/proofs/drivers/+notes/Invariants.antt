use Rattle.std.proofs.Common.{◌≡◌, drop}
use Rattle.name_tables.specs.Keys.{insert_all}
use Rattle.verilog_text.specs.Conditions.{targets}
use Rattle.verilog_places.specs.Trees.{placed_actions, bare_actions}
use Rattle.verilog_size_checks.proofs.drivers.+notes.Given as goal

abbrev pub invariant-note_actions-each : goal.invariant-note_actions-each
invariant-note_actions-each l = insert_all l.names.keys.items (targets (bare_actions (placed_actions (drop l.action-index l.actions)))) ≡ insert_all l.initial.names.keys.items (targets (bare_actions (placed_actions l.actions)))
