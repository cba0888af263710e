use Rattle.std.proofs.Common.{◌≡◌, refl, sym, subst, None, [], ◌∷◌, ◌+◌, ◌∙◌, List, ℕ, ap, drop, length, map}
use Rattle.std.specs.Prelude.{option_map}
use Rattle.vcd_trace.specs.Written.{Changed}
use Rattle.vcd_trace.specs.CodeTables.{slot_of, values_in}
use Rattle.vcd_trace.specs.declared.parts.Event.{Event}
use Rattle.vcd_trace.proofs.ReplayLaws.{Replayed, opened, replay_first, replay_change, replay_ended, replay_done}
use Rattle.vcd_trace.proofs.replay.read_times.Goals as goal
use Rattle.vcd_trace.proofs.replay.read_times.Goals.{in-Change, in-Time+in_ok-end_time-in-Time}

pub loop-event-init : goal.loop-event-init
loop-event-init c =
    let vs = c.args.codes.now.variables.now in
    let es = c.args.events.now in (
      subst (λ (t : List Changed). Replayed vs es 0 c.in_ok-present.present.items None None t) (sym c.new-times.ensures.items)
          (subst (λ (p : List ℕ). Replayed vs es 0 p None None []) (sym (c.in_ok-present.ensures.items_if_clones_equal (λ y e. e))) (replay_first vs es (length vs) refl)),
      tt,
    )

pub loop-event-preserved : goal.loop-event-preserved
loop-event-preserved c =
    let vs = c.args.codes.now.variables.now in
    let es = c.args.events.now in
    let i = c.loop-event.event-index in
    let here = opened es i c.event-item.result c.loop-event-test.true c.event-item.is in
    elim c.match-event.branch [
      | in-Change w ↦
          rw (w.present-is, w.before-is, w.begun-is, w.times-is) (
            replay_change vs es i c.loop-event.present.items (option_map (λ values. values.items) c.loop-event.before) c.loop-event.times.items c.loop-event.begun w.in-Change.change w.put_new_value.new.present.items
                c.loop-event.invariant.0 (here ∙ ap (λ (e : Event). e ∷ drop (i + 1) es) w.in-Change.is) w.put_new_value.ensures,
            c.loop-event.invariant.1,
          )
      | in-Time+in_ok-end_time-in-Time w ↦
          let slots : w.deref.result.now ≡ map (slot_of vs) vs = w.deref.ensures.value ∙ c.in_ok-slots.ensures.slots in
          let present : w.deref-in-Time.result.now ≡ c.loop-event.present.items = w.deref-in-Time.ensures.value in
          let now : values_in w.deref-in-Time.result.now w.deref.result.now ≡ values_in c.loop-event.present.items (map (slot_of vs) vs) = λ j. values_in (present j) (slots j) in
          rw (w.present-is, w.before-is, w.begun-is, w.times-is) (
            rw (w.in_ok-end_time-in-Time.ensures.before, w.in_ok-end_time-in-Time.ensures.times)
                (replay_ended vs es i c.loop-event.present.items (option_map (λ values. values.items) c.loop-event.before) c.loop-event.times.items (values_in w.deref-in-Time.result.now w.deref.result.now) now
                c.loop-event.begun w.in-Time.moment c.loop-event.invariant.0 (here ∙ ap (λ (e : Event). e ∷ drop (i + 1) es) w.in-Time.is)),
            rw w.deref.ensures.value at w.in_ok-end_time-in-Time.ensures.same,
          )
    ]

pub returns : goal.returns
returns c =
    let vs = c.args.codes.now.variables.now in
    let slots : c.deref-2.result.now ≡ map (slot_of vs) vs = c.deref-2.ensures.value ∙ c.in_ok-slots.ensures.slots in
    let present : c.deref-3.result.now ≡ c.loop-event.present.items = c.deref-3.ensures.value in
    c.in_ok-end_time.ensures.times
    ∙ replay_done vs c.args.events.now c.loop-event.event-index c.loop-event.present.items (option_map (λ values. values.items) c.loop-event.before) c.loop-event.times.items
    (values_in c.deref-3.result.now c.deref-2.result.now) (λ j. values_in (present j) (slots j)) c.loop-event.begun c.loop-event.invariant.0 c.loop-event-test.false
