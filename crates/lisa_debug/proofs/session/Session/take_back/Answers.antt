use Rattle.std.proofs.Common.{◌≡◌, ◌-◌, ◌∙◌, length, ap, sym, subst, arith, refl, suc}
use Rattle.std.proofs.Common.{◌<◌, get_or}
use Rattle.std.specs.Prelude.{All}
use Rattle.lisa_engine.specs.PinValues.{pins_at}
use Rattle.lisa_engine.specs.Touches.{TakesBack}
use Rattle.lisa_engine.specs.Machines.{course_of, entries_to}
use Rattle.lisa_debug.specs.Kept.{restored, LeadsOver}
use Rattle.lisa_debug.proofs.Rows.{kept_items}
use Rattle.lisa_debug.proofs.Steps.{same_course, last_is, rest_is, may_retreat, live_less}
use Rattle.lisa_debug.proofs.session.Session.take_back.Goals as goal

pub returns-in_default : goal.returns-in_default
returns-in_default g c = absurd (omega (arith, c.in_default.ensures.cases.0, c.requires.some))

pub keep_row-requires : goal.keep_row-requires
keep_row-requires g c = omega (arith, ap length c.deref_mut.ensures.value, c.requires.live.row)

pub restore-requires : goal.restore-requires
restore-requires g c =
    let last : c.in-Some.entry ≡ get_or c.args.self.now.journal.entries.items (length c.args.self.now.journal.entries.items - 1) c.in-Some.entry
    = last_is c.args.self.now.journal.entries.items c.pop.new.self.items c.in-Some.entry c.in-Some.ensures.items in
    let row_long : length c.keep_row.new.row ≡ c.args.self.now.journal.row.len = omega (arith, c.deref_mut.ensures.len) in
    let row_is : c.deref_mut-2.result.now ≡ c.keep_row.new.row
    = c.deref_mut-2.ensures.value ∙ kept_items c.args.self.now.journal.row.len c.keep_row.new.row c.args.self.now.journal.row.items row_long in
    let wide : length c.deref_mut-2.result.now ≡ length (g.E.Engine.machine c.args.self.now.engine).items
    = omega (arith, ap length row_is, ap length c.deref_mut.ensures.value, c.requires.live.row) in
    let over : LeadsOver (course_of (g.E.Engine.machine c.args.self.now.engine) c.args.self.now.schedule) (length c.args.self.now.journal.entries.items - 1) c.in-Some.entry
    = subst (LeadsOver (course_of (g.E.Engine.machine c.args.self.now.engine) c.args.self.now.schedule) (length c.args.self.now.journal.entries.items - 1)) (sym last) (c.requires.live.entries (length c.args.self.now.journal.entries.items - 1) c.in-Some.entry (omega (arith, c.requires.some))) in
    subst (λ cs. All (λ change. change.item < length c.deref_mut-2.result.now) cs) (sym c.deref.ensures.value)
    (subst (λ n. All (λ change. change.item < n) c.in-Some.entry.changes.items) (sym wide) over.places)

pub retreat-requires : goal.retreat-requires
retreat-requires g c =
    let last : c.in-Some.entry ≡ get_or c.args.self.now.journal.entries.items (length c.args.self.now.journal.entries.items - 1) c.in-Some.entry
    = last_is c.args.self.now.journal.entries.items c.pop.new.self.items c.in-Some.entry c.in-Some.ensures.items in
    let row_long : length c.keep_row.new.row ≡ c.args.self.now.journal.row.len = omega (arith, c.deref_mut.ensures.len) in
    let row_is : c.deref_mut-2.result.now ≡ c.keep_row.new.row
    = c.deref_mut-2.ensures.value ∙ kept_items c.args.self.now.journal.row.len c.keep_row.new.row c.args.self.now.journal.row.items row_long in
    let restored_long : length c.restore.new.row ≡ c.args.self.now.journal.row.len = omega (arith, ap length row_is, c.deref_mut.ensures.len) in
    let given_is : c.deref-2.result.now ≡ restored c.in-Some.entry.changes.items (g.E.Engine.present c.args.self.now.engine).items
    = c.deref-2.ensures.value ∙ kept_items c.args.self.now.journal.row.len c.restore.new.row _ restored_long ∙ c.restore.ensures
    ∙ (λ i. restored (c.deref.ensures.value i) ((row_is ∙ c.keep_row.ensures) i)) in
    let takes : TakesBack (g.E.Engine.machine c.args.self.now.engine)
    (g.E.Engine.present c.args.self.now.engine) c.deref-2.result.now c.deref-3.result.now (entries_to (course_of (g.E.Engine.machine c.args.self.now.engine) c.args.self.now.schedule) (length c.args.self.now.journal.entries.items - 1))
    (pins_at (length (g.E.Engine.machine c.args.self.now.engine).pins) c.args.self.now.schedule (suc (length c.args.self.now.journal.entries.items - 1)))
    = subst (λ ts. TakesBack (g.E.Engine.machine c.args.self.now.engine)
    (g.E.Engine.present c.args.self.now.engine) c.deref-2.result.now ts (entries_to (course_of (g.E.Engine.machine c.args.self.now.engine) c.args.self.now.schedule) (length c.args.self.now.journal.entries.items - 1))
    (pins_at (length (g.E.Engine.machine c.args.self.now.engine).pins) c.args.self.now.schedule (suc (length c.args.self.now.journal.entries.items - 1))))
    (sym c.deref-3.ensures.value) (may_retreat c.deref-2.result.now c.in-Some.entry c.requires.live c.requires.some last given_is) in
    (entries_to (course_of (g.E.Engine.machine c.args.self.now.engine) c.args.self.now.schedule) (length c.args.self.now.journal.entries.items - 1), pins_at (length (g.E.Engine.machine c.args.self.now.engine).pins) c.args.self.now.schedule (suc (length c.args.self.now.journal.entries.items - 1)), takes)

pub returns : goal.returns
returns g c =
    let last : c.in-Some.entry ≡ get_or c.args.self.now.journal.entries.items (length c.args.self.now.journal.entries.items - 1) c.in-Some.entry
    = last_is c.args.self.now.journal.entries.items c.pop.new.self.items c.in-Some.entry c.in-Some.ensures.items in
    let row_long : length c.keep_row.new.row ≡ c.args.self.now.journal.row.len = omega (arith, c.deref_mut.ensures.len) in
    let row_is : c.deref_mut-2.result.now ≡ c.keep_row.new.row
    = c.deref_mut-2.ensures.value ∙ kept_items c.args.self.now.journal.row.len c.keep_row.new.row c.args.self.now.journal.row.items row_long in
    let restored_long : length c.restore.new.row ≡ c.args.self.now.journal.row.len = omega (arith, ap length row_is, c.deref_mut.ensures.len) in
    let given_is : c.deref-2.result.now ≡ restored c.in-Some.entry.changes.items (g.E.Engine.present c.args.self.now.engine).items
    = c.deref-2.ensures.value ∙ kept_items c.args.self.now.journal.row.len c.restore.new.row _ restored_long ∙ c.restore.ensures
    ∙ (λ i. restored (c.deref.ensures.value i) ((row_is ∙ c.keep_row.ensures) i)) in
    let takes : TakesBack (g.E.Engine.machine c.args.self.now.engine)
    (g.E.Engine.present c.args.self.now.engine) c.deref-2.result.now c.deref-3.result.now (entries_to (course_of (g.E.Engine.machine c.args.self.now.engine) c.args.self.now.schedule) (length c.args.self.now.journal.entries.items - 1))
    (pins_at (length (g.E.Engine.machine c.args.self.now.engine).pins) c.args.self.now.schedule (suc (length c.args.self.now.journal.entries.items - 1)))
    = subst (λ ts. TakesBack (g.E.Engine.machine c.args.self.now.engine)
    (g.E.Engine.present c.args.self.now.engine) c.deref-2.result.now ts (entries_to (course_of (g.E.Engine.machine c.args.self.now.engine) c.args.self.now.schedule) (length c.args.self.now.journal.entries.items - 1))
    (pins_at (length (g.E.Engine.machine c.args.self.now.engine).pins) c.args.self.now.schedule (suc (length c.args.self.now.journal.entries.items - 1))))
    (sym c.deref-3.ensures.value) (may_retreat c.deref-2.result.now c.in-Some.entry c.requires.live c.requires.some last given_is) in
    let row_total : length c.restore.new.row ≡ length c.args.self.now.journal.row.items = omega (arith, ap length row_is, ap length c.deref_mut.ensures.value) in
    live_less c.requires.live (same_course c.args.self.now.schedule c.retreat.ensures.machine)
    (c.retreat.ensures.back (entries_to (course_of (g.E.Engine.machine c.args.self.now.engine) c.args.self.now.schedule) (length c.args.self.now.journal.entries.items - 1)) (pins_at (length (g.E.Engine.machine c.args.self.now.engine).pins) c.args.self.now.schedule (suc (length c.args.self.now.journal.entries.items - 1))) takes
    ∙ (λ i. (c.retreat.ensures.machine i).defined (entries_to (course_of (g.E.Engine.machine c.args.self.now.engine) c.args.self.now.schedule) (length c.args.self.now.journal.entries.items - 1))))
    (rest_is c.args.self.now.journal.entries.items c.pop.new.self.items c.in-Some.entry c.in-Some.ensures.items)
    (ap length (kept_items c.args.self.now.journal.row.len c.restore.new.row _ restored_long) ∙ row_total) refl
