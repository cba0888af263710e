use Rattle.std.proofs.Common.{◌≡◌, length}
use Rattle.std.specs.Prelude.{option_map, IfSome}
use Rattle.vcd_trace.proofs.ReplayLaws.{Replayed}
use Rattle.vcd_trace.proofs.replay.read_times.Given as goal

abbrev pub invariant-loop-event : goal.invariant-loop-event
invariant-loop-event l =
    Replayed l.codes.variables.now l.events l.event-index l.present.items (option_map (λ values. values.items) l.before) l.begun l.times.items
    × IfSome l.before (λ values. length values.items ≡ length l.slots.items)
