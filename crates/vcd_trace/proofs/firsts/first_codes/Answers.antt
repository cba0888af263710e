use Rattle.std.proofs.Common.{◌∷◌, ◌+◌, ◌∙◌, ap, drop}
use Rattle.vcd_trace.specs.Written.{Change}
use Rattle.vcd_trace.specs.declared.parts.Event.{Event}
use Rattle.vcd_trace.proofs.ReplayLaws.{opened}
use Rattle.vcd_trace.proofs.FirstLaws.{seen_change, seen_time}
use Rattle.vcd_trace.proofs.firsts.first_codes.Goals as goal
use Rattle.vcd_trace.proofs.firsts.first_codes.Goals.{in-Change+in_ok-insert-in-Change, in-Time+else-timed}

pub loop-event-preserved : goal.loop-event-preserved
loop-event-preserved c =
    let es = c.args.events.now in
    let i = c.loop-event.event-index in
    let here = opened es i c.event-item.result c.loop-event-test.true c.event-item.is in
    elim c.match-event.branch [
      | in-Change+in_ok-insert-in-Change w ↦
          rw (w.codes-is, w.timed-is)
          (seen_change es i c.loop-event.codes c.loop-event.timed c.loop-event.invariant w.in-Change.change w.insert.new.self w.change.inside.code
          (here ∙ ap (λ (e : Event). e ∷ drop (i + 1) es) w.in-Change.is) (ap (λ (v : Change). v.code) w.change.view_is) w.in_ok-insert-in-Change.ensures.updates)
      | in-Time+else-timed w ↦
          rw (w.codes-is, w.timed-is)
          (seen_time es i c.loop-event.codes c.loop-event.timed c.loop-event.invariant _ (here ∙ ap (λ (e : Event). e ∷ drop (i + 1) es) w.in-Time.is) w.if-timed.false)
    ]
