use Rattle.std.proofs.Common.{◌≡◌, ◌+◌, ◌∙◌, length, ap, sym, subst, arith}
use Rattle.std.proofs.Common.{◌<◌}
use Rattle.std.specs.Prelude.{All}
use Rattle.lisa_engine.specs.PinValues.{IsPlaceAfter}
use Rattle.lisa_engine.specs.Machines.{Course, course_of, state_at}
use Rattle.lisa_debug.specs.Kept.{HasMade, LeadsOver}
use Rattle.lisa_debug.specs.declared.journal.Entry.{Entry}
use Rattle.lisa_debug.proofs.Rows.{kept_items}
use Rattle.lisa_debug.proofs.Steps.{leads_over, live_more}
use Rattle.lisa_debug.proofs.session.Session.make_edge.Goals as goal

pub position-position-requires : goal.position-position-requires
position-position-requires g c = c.requires.live.limit

pub advance-next-requires-clause-schedule : goal.advance-next-requires-clause-schedule
advance-next-requires-clause-schedule g c = c.requires.live.schedule

pub advance-next-requires-clause-limit : goal.advance-next-requires-clause-limit
advance-next-requires-clause-limit g c = omega (arith, c.requires.limit, c.position-position.ensures)

pub advance-next-requires-clause-now : goal.advance-next-requires-clause-now
advance-next-requires-clause-now g c = c.requires.live.now ∙ ap (state_at (course_of (g.E.Engine.machine c.args.self.now.engine) c.args.self.now.schedule)) (sym c.position-position.ensures)

pub advance-next-requires-clause-played : goal.advance-next-requires-clause-played
advance-next-requires-clause-played g c = record {
  after = subst (λ k. IsPlaceAfter c.args.self.now.schedule k c.args.next) (sym c.position-position.ensures) c.requires.played.after;
  values = c.deref_mut-2.ensures.value ∙ c.requires.played.values;
}

pub advance-next-requires-clause-row : goal.advance-next-requires-clause-row
advance-next-requires-clause-row g c = omega (arith, ap length c.deref_mut.ensures.value, c.requires.live.row)

pub advance-next-requires-clause-room : goal.advance-next-requires-clause-room
advance-next-requires-clause-room g c = omega (arith, ap length c.deref_mut-2.ensures.value, c.requires.live.room)

pub changes_since-requires : goal.changes_since-requires
changes_since-requires g c =
    let row_long : length c.advance-next.new.row ≡ c.args.self.now.journal.row.len = omega (arith, c.deref_mut.ensures.len) in
    let row_is : c.deref.result.now ≡ c.advance-next.new.row
    = c.deref.ensures.value ∙ kept_items c.args.self.now.journal.row.len c.advance-next.new.row c.args.self.now.journal.row.items row_long in
    let items_are : (g.E.Engine.machine c.advance-next.new.engine).items ≡ (g.E.Engine.machine c.args.self.now.engine).items = ap (λ k. k.machine.items) c.advance-next.ensures.made.same in
    omega (arith, ap length row_is, ap length items_are, c.requires.live.row, ap length c.deref_mut.ensures.value)

pub returns-clause-came : goal.returns-clause-came
returns-clause-came g c =
    let row_long : length c.advance-next.new.row ≡ c.args.self.now.journal.row.len = omega (arith, c.deref_mut.ensures.len) in
    let row_is : c.deref.result.now ≡ c.advance-next.new.row
    = c.deref.ensures.value ∙ kept_items c.args.self.now.journal.row.len c.advance-next.new.row c.args.self.now.journal.row.items row_long in
    let items_are : (g.E.Engine.machine c.advance-next.new.engine).items ≡ (g.E.Engine.machine c.args.self.now.engine).items = ap (λ k. k.machine.items) c.advance-next.ensures.made.same in
    let pins_long : length c.advance-next.new.pins ≡ c.args.self.now.journal.pins.len = omega (arith, c.deref_mut-2.ensures.len) in
    let row_total : length c.advance-next.new.row ≡ length c.args.self.now.journal.row.items = omega (arith, ap length c.deref_mut.ensures.value) in
    let pins_total : length c.advance-next.new.pins ≡ length c.args.self.now.journal.pins.items = omega (arith, ap length c.deref_mut-2.ensures.value) in
    let course : Course = (course_of (g.E.Engine.machine c.args.self.now.engine) c.args.self.now.schedule) in
    let now : Course = course_of (g.E.Engine.machine c.advance-next.new.engine) c.args.self.now.schedule in
    let entry : Entry = record { changes = c.in_ok-changes.changes; touches = c.in_ok-touches.touches } in
    let made : HasMade course now (g.E.Engine.present c.args.self.now.engine) (g.E.Engine.present c.advance-next.new.engine) (g.E.Engine.touch_list c.advance-next.new.engine) (length c.args.self.now.journal.entries.items) c.advance-next.new.row
    = subst (λ k. HasMade course now (g.E.Engine.present c.args.self.now.engine) (g.E.Engine.present c.advance-next.new.engine) (g.E.Engine.touch_list c.advance-next.new.engine) k c.advance-next.new.row)
    c.position-position.ensures c.advance-next.ensures.made in
    let places : All (λ change. change.item < length course.machine.items) entry.changes.items
    = subst (λ items. All (λ change. change.item < length items) entry.changes.items) items_are c.in_ok-changes.ensures.places in
    let over : LeadsOver course (length c.args.self.now.journal.entries.items) entry
    = leads_over course now (g.E.Engine.present c.args.self.now.engine) (g.E.Engine.present c.advance-next.new.engine) (g.E.Engine.touch_list c.advance-next.new.engine) (length c.args.self.now.journal.entries.items) c.advance-next.new.row entry
    made c.requires.live.now (c.in_ok-changes.ensures.back ∙ row_is) (c.in_ok-touches.ensures.items ∙ c.touched.ensures) places in
    live_more entry c.requires.live made over c.requires.limit c.in_ok-push.ensures.items
    (ap length (kept_items c.args.self.now.journal.row.len c.advance-next.new.row c.args.self.now.journal.row.items row_long) ∙ row_total)
    (ap length (kept_items c.args.self.now.journal.pins.len c.advance-next.new.pins c.args.self.now.journal.pins.items pins_long) ∙ pins_total)

pub returns-clause-played : goal.returns-clause-played
returns-clause-played g c =
    let pins_long : length c.advance-next.new.pins ≡ c.args.self.now.journal.pins.len = omega (arith, c.deref_mut-2.ensures.len) in
    record {
      after = subst (λ k. IsPlaceAfter c.args.self.now.schedule (k + 1) c.advance-next.result) c.position-position.ensures c.advance-next.ensures.played.after;
      values = kept_items c.args.self.now.journal.pins.len c.advance-next.new.pins c.args.self.now.journal.pins.items pins_long ∙ c.advance-next.ensures.played.values;
    }
