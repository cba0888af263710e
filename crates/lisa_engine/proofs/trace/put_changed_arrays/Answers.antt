use Rattle.std.proofs.Common.{arith, ◌≡◌, ◌<◌, ◌≤◌, ◌+◌, ap, sym, length, get_or, [], Ok, refl}
use Rattle.std.specs.List.{zip}
use Rattle.std.proofs.lemmas.Slice.Zip.{length-zip}
use Rattle.lisa_io.proofs.Known.{puts_exit, puts_early}
use Rattle.lisa_engine.specs.State.{cells_of}
use Rattle.lisa_engine.specs.Changes.{touched_array}
use Rattle.lisa_engine.proofs.Lines.{zip_at, places_more, places_whole}
use Rattle.lisa_engine.proofs.Places.{found_at}
use Rattle.lisa_engine.proofs.ChangedCells.{puts_over, puts_failed}
use Rattle.lisa_engine.proofs.trace.put_changed_arrays.Goals as goal

pub returns-in_err-from : goal.returns-in_err-from
returns-in_err-from g c =
    let cells = (g.E.Engine.present c.args.engine.now).cells in
    let shape = (g.met.E.Engine.shaped c.args.engine.now).cells in
    let within : c.loop-place.place < length (g.E.Engine.machine c.args.engine.now).arrays = omega (arith, ap length c.arrays-array-items.ensures) in
    let here : c.loop-place.place < length cells = omega (arith, within, shape.count) in
    let pair : (c.array-item.result, get_or cells c.loop-place.place []) ≡ get_or (zip (g.E.Engine.machine c.args.engine.now).arrays cells) c.loop-place.place (c.array-item.result, get_or cells c.loop-place.place [])
    = sym (zip_at (g.E.Engine.machine c.args.engine.now).arrays cells c.loop-place.place c.array-item.result (get_or cells c.loop-place.place []) within shape.count
    (rw c.arrays-array-items.ensures at c.array-item.is) (found_at cells c.loop-place.place [] _ here refl)) in
    puts_exit _ _ c.from_residual.ensures.1
    (puts_early (touched_array c.args.row.now) _ (c.loop-place.place + 1) _ _ _ _ _
    (places_more (touched_array c.args.row.now) (zip (g.E.Engine.machine c.args.engine.now).arrays cells) c.loop-place.place (c.array-item.result, get_or cells c.loop-place.place [])
    tt _ _ _ _ _ _ _ (omega (arith, length-zip (g.E.Engine.machine c.args.engine.now).arrays cells, here, within)) pair c.loop-place.invariant.0 (puts_failed (rw c.as_bytes.ensures at c.in_err-from.ensures.puts))))

pub loop-place-preserved : goal.loop-place-preserved
loop-place-preserved g c =
    let cells = (g.E.Engine.present c.args.engine.now).cells in
    let shape = (g.met.E.Engine.shaped c.args.engine.now).cells in
    let within : c.loop-place.place < length (g.E.Engine.machine c.args.engine.now).arrays = omega (arith, ap length c.arrays-array-items.ensures) in
    let here : c.loop-place.place < length cells = omega (arith, within, shape.count) in
    let pair : (c.array-item.result, get_or cells c.loop-place.place []) ≡ get_or (zip (g.E.Engine.machine c.args.engine.now).arrays cells) c.loop-place.place (c.array-item.result, get_or cells c.loop-place.place [])
    = sym (zip_at (g.E.Engine.machine c.args.engine.now).arrays cells c.loop-place.place c.array-item.result (get_or cells c.loop-place.place []) within shape.count
    (rw c.arrays-array-items.ensures at c.array-item.is) (found_at cells c.loop-place.place [] _ here refl)) in (
      places_more (touched_array c.args.row.now) (zip (g.E.Engine.machine c.args.engine.now).arrays cells) c.loop-place.place (c.array-item.result, get_or cells c.loop-place.place [])
          tt _ _ _ _ _ _ _ (omega (arith, length-zip (g.E.Engine.machine c.args.engine.now).arrays cells, here, within)) pair c.loop-place.invariant.0 (puts_over refl (rw c.as_bytes.ensures at c.in_ok-from.ensures.puts)),
      c.in_ok-from.ensures.cut,
    )

pub returns : goal.returns
returns g c =
    let cells = (g.E.Engine.present c.args.engine.now).cells in
    places_whole (touched_array c.args.row.now) (zip (g.E.Engine.machine c.args.engine.now).arrays cells) c.loop-place.place _ _ _ _ _
    (omega (arith, ap length c.arrays-array-items.ensures, length-zip (g.E.Engine.machine c.args.engine.now).arrays cells)) c.loop-place.invariant.0
