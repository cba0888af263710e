use Rattle.std.proofs.Common.{arith, ◌≡◌, ◌<◌, ◌≤◌, ◌+◌, ap, sym, length, get_or, [], subst, ◌∙◌, Ok, take}
use Rattle.std.specs.List.{flat_map, enumerate_from}
use Rattle.lisa_io.proofs.Known.{puts_exit, puts_early}
use Rattle.lisa_io.specs.Contents.{Puts}
use Rattle.lisa_io.specs.declared.outside.Failed.{Failed}
use Rattle.lisa_engine.specs.State.{cells_of}
use Rattle.lisa_engine.specs.Changes.{touched_line}
use Rattle.lisa_engine.specs.declared.parts.Touch.{Touch}
use Rattle.lisa_engine.specs.declared.parts.ArrayItem.{ArrayItem}
use Rattle.lisa_engine.proofs.Places.{any_default}
use Rattle.lisa_engine.proofs.Touched.{IsIn, is_in}
use Rattle.lisa_engine.proofs.ChangedCells.{IsDone, puts_over, moved, all_done, cut_here, later_here, one_skipped, one_done, cells_more}
use Rattle.lisa_engine.proofs.trace.put_changed_array.Goals as goal
use Rattle.lisa_engine.proofs.trace.put_changed_array.Goals.{then-next-index+in_ok-put_changed_cell, else-next-index}

pub returns-then-touch-array-clause-puts : goal.returns-then-touch-array-clause-puts
returns-then-touch-array-clause-puts g c =
    let cells = cells_of (g.E.Engine.present c.args.engine.now) c.args.array in
    let touch : Touch = get_or c.args.row.now c.loop-place.place (record { array = 0; index = 0; before = 0 }) in
    let is : touch ≡ get_or c.args.row.now c.loop-place.place touch = any_default c.args.row.now c.loop-place.place (record { array = 0; index = 0; before = 0 }) touch c.loop-place-test.true in
    puts_over
    (all_done c.args.row.now cells c.args.name.now c.args.array c.loop-place.place c.loop-place.next c.loop-place.invariant.1
    (later_here c.args.row.now c.args.array c.args.from c.loop-place.place touch c.requires.sorted c.requires.from c.loop-place.auto.place c.loop-place-test.true is c.if-touch-array.true))
    c.loop-place.invariant.0

pub returns-then-touch-array-clause-cut : goal.returns-then-touch-array-clause-cut
returns-then-touch-array-clause-cut g c =
    let cells = cells_of (g.E.Engine.present c.args.engine.now) c.args.array in
    let touch : Touch = get_or c.args.row.now c.loop-place.place (record { array = 0; index = 0; before = 0 }) in
    let is : touch ≡ get_or c.args.row.now c.loop-place.place touch = any_default c.args.row.now c.loop-place.place (record { array = 0; index = 0; before = 0 }) touch c.loop-place-test.true in
    cut_here c.args.row.now cells c.args.name.now c.args.array c.loop-place.place c.loop-place.next c.loop-place.invariant.1
    (later_here c.args.row.now c.args.array c.args.from c.loop-place.place touch c.requires.sorted c.requires.from c.loop-place.auto.place c.loop-place-test.true is c.if-touch-array.true) (omega arith)

pub cell-requires-clause-index_in_range : goal.cell-requires-clause-index_in_range
cell-requires-clause-index_in_range g c =
    let touch : Touch = get_or c.args.row.now c.loop-place.place (record { array = 0; index = 0; before = 0 }) in
    let there : IsIn (g.E.Engine.present c.args.engine.now).cells touch = is_in (g.met.E.Engine.shaped c.args.engine.now).cells touch (c.requires.places c.loop-place.place (record { array = 0; index = 0; before = 0 }) c.loop-place-test.true) in
    subst (λ a. touch.index < length (get_or (g.E.Engine.present c.args.engine.now).cells a [])) c.if-touch-array.false there.index

pub returns-in_err-put_changed_cell-clause-puts : goal.returns-in_err-put_changed_cell-clause-puts
returns-in_err-put_changed_cell-clause-puts g c =
    let cells = cells_of (g.E.Engine.present c.args.engine.now) c.args.array in
    let touch : Touch = get_or c.args.row.now c.loop-place.place (record { array = 0; index = 0; before = 0 }) in
    let is : touch ≡ get_or c.args.row.now c.loop-place.place touch = any_default c.args.row.now c.loop-place.place (record { array = 0; index = 0; before = 0 }) touch c.loop-place-test.true in
    let there : IsIn (g.E.Engine.present c.args.engine.now).cells touch = is_in (g.met.E.Engine.shaped c.args.engine.now).cells touch (c.requires.places c.loop-place.place (record { array = 0; index = 0; before = 0 }) c.loop-place-test.true) in
    let in_array : touch.index < length cells = subst (λ a. touch.index < length (get_or (g.E.Engine.present c.args.engine.now).cells a [])) c.if-touch-array.false there.index in
    puts_exit _ _ c.from_residual.ensures.1
    (puts_early (touched_line c.args.row.now c.args.name.now c.args.array) (enumerate_from 0 cells) (touch.index + 1) _ _ _ _ _
    (cells_more c.args.row.now cells c.args.name.now c.args.array c.loop-place.place c.loop-place.next c.loop-place.invariant.1 c.requires.sorted touch c.loop-place-test.true is c.if-touch-array.false
    c.if-next-index.true in_array c.cell.result tt _ _ _ _ _ _ _ c.cell.ensures c.loop-place.invariant.0 c.in_err-put_changed_cell.ensures))

pub loop-place-preserved : goal.loop-place-preserved
loop-place-preserved g c =
    let cells = cells_of (g.E.Engine.present c.args.engine.now) c.args.array in
    let touch : Touch = get_or c.args.row.now c.loop-place.place (record { array = 0; index = 0; before = 0 }) in
    let is : touch ≡ get_or c.args.row.now c.loop-place.place touch = any_default c.args.row.now c.loop-place.place (record { array = 0; index = 0; before = 0 }) touch c.loop-place-test.true in
    let there : IsIn (g.E.Engine.present c.args.engine.now).cells touch = is_in (g.met.E.Engine.shaped c.args.engine.now).cells touch (c.requires.places c.loop-place.place (record { array = 0; index = 0; before = 0 }) c.loop-place-test.true) in
    let in_array : touch.index < length cells = subst (λ a. touch.index < length (get_or (g.E.Engine.present c.args.engine.now).cells a [])) c.if-touch-array.false there.index in
    elim c.if-next-index.branch [
      | then-next-index+in_ok-put_changed_cell w ↦
          moved g.O.Sink.written g.O.Sink.faults (λ n. flat_map (touched_line c.args.row.now c.args.name.now c.args.array) (take n (enumerate_from 0 cells)))
          (λ n. IsDone c.args.row.now cells c.args.array (c.loop-place.place + 1) n) w.out-is w.next-is
          (cells_more c.args.row.now cells c.args.name.now c.args.array c.loop-place.place c.loop-place.next c.loop-place.invariant.1 c.requires.sorted touch c.loop-place-test.true is c.if-touch-array.false
          w.if-next-index.true in_array w.cell.result tt _ _ _ _ _ _ _ w.cell.ensures c.loop-place.invariant.0 w.in_ok-put_changed_cell.ensures)
          (one_done c.args.row.now cells c.args.name.now c.args.array c.loop-place.place c.loop-place.next c.loop-place.invariant.1 c.requires.sorted touch c.loop-place-test.true is c.if-touch-array.false
          w.if-next-index.true in_array)
      | else-next-index w ↦
          moved g.O.Sink.written g.O.Sink.faults (λ n. flat_map (touched_line c.args.row.now c.args.name.now c.args.array) (take n (enumerate_from 0 cells)))
          (λ n. IsDone c.args.row.now cells c.args.array (c.loop-place.place + 1) n) w.out-is w.next-is
          c.loop-place.invariant.0
          (one_skipped c.args.row.now cells c.args.name.now c.args.array c.loop-place.place c.loop-place.next c.loop-place.invariant.1 c.requires.sorted touch c.loop-place-test.true is c.if-touch-array.false
          w.if-next-index.false)
    ]

pub returns-clause-puts : goal.returns-clause-puts
returns-clause-puts g c =
    let cells = cells_of (g.E.Engine.present c.args.engine.now) c.args.array in
    puts_over
    (all_done c.args.row.now cells c.args.name.now c.args.array c.loop-place.place c.loop-place.next c.loop-place.invariant.1 (λ k d from h. absurd (omega arith)))
    c.loop-place.invariant.0
