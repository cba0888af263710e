use Rattle.std.proofs.Common.{ℕ, ◌<◌, List, ◌∷◌, [], ◌++◌, ap, sym, subst, ◌∙◌, arith, rules, length}
use Rattle.lisa_engine.specs.Touches.{Tracks, set_cell}
use Rattle.lisa_engine.specs.declared.parts.Touch.{Touch}
use Rattle.verilog_clock.specs.Compiled.{rows}
use Rattle.verilog_clock.proofs.Cells.{tracks_more, in_depth}
use Rattle.verilog_clock.proofs.writes.put_cell.Goals as goal

pub returns-clause-touches : goal.returns-clause-touches
returns-clause-touches c before tracks =
    let arrays = c.args.arrays.now in
    let cells = rows c.args.cells.now in
    let a = c.args.array in
    let i = c.args.index in
    let within : a < length arrays = omega arith in
    let less : i < c.index-arrays-array.result.depth = c.if-not-is_below.ensures.value.0 (search rules) in
    let base = tracks_more arrays cells c.requires.shape a i c.args.value c.args.touches.now.items before within
    (in_depth arrays a i c.index-arrays-array.result within c.index-arrays-array.is less) tracks in
    let touched = c.push_reserved.ensures.items ∙ ap (λ (b : ℕ). c.args.touches.now.items ++ (let t : Touch = record { array = a; index = i; before = b } in t) ∷ []) c.cell_at-before.ensures in
    subst (λ (cs : List (List ℕ)). Tracks arrays before cs c.push_reserved.new.self.items) (sym c.set_one.ensures.cells)
    (subst (λ (ts : List Touch). Tracks arrays before (set_cell cells a i c.args.value) ts) (sym touched) base)
