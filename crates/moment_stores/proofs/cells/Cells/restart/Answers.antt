use Rattle.std.proofs.Common.{◌≡◌, ◌++◌, ◌∙◌, ℕ, List, ap, sym, subst, arith, length, map, take, drop}
use Rattle.std.specs.Global.{Vec}
use Rattle.std.specs.Vec.{vec_capacity}
use Rattle.lisa_engine.specs.Shape.{AreCells}
use Rattle.lisa_engine.specs.declared.parts.ArrayItem.{ArrayItem}
use Rattle.moment_stores.specs.Rows.{rows}
use Rattle.moment_stores.specs.Cells.{AreTracked}
use Rattle.moment_stores.proofs.Tables.{written_back}
use Rattle.moment_stores.proofs.CellLemmas.{lens_same, tracked_cells}
use Rattle.moment_stores.proofs.cells.Cells.restart.Goals as goal

pub copy_rows-requires : goal.copy_rows-requires
copy_rows-requires c =
    let self = c.forget.new.self in
    let shape : AreCells self.arrays.now (rows c.args.from.now) = subst (λ (a : List ArrayItem). AreCells a (rows c.args.from.now)) (sym c.forget.ensures.arrays) c.requires in
    ap (λ (xs : List (Vec ℕ)). map length (rows xs)) c.deref_mut.ensures.value ∙ lens_same self.arrays.now (rows self.values.items) (rows c.args.from.now) self.tracked.shape shape

pub invariant_of-self : goal.invariant_of-self
invariant_of-self c =
    let self = c.forget.new.self in
    let cells = c.copy_rows.new.cells in
    let same_cells : length cells ≡ length self.values.items = omega (arith, c.copy_rows.auto.cells, c.deref_mut.ensures.len, ap length c.deref_mut.ensures.value) in
    let back : take self.values.len (cells ++ drop (length cells) self.values.items) ≡ cells = written_back cells self.values.items self.values.len same_cells self.values.ok.0 in
    let shape : AreCells self.arrays.now (rows c.args.from.now) = subst (λ (a : List ArrayItem). AreCells a (rows c.args.from.now)) (sym c.forget.ensures.arrays) c.requires in
    record {
      few = self.few;
      tracked = subst (λ (xs : List (List ℕ)). AreTracked self.arrays.now xs (rows self.marks.items) self.touches.items (vec_capacity self.touches)) (sym (ap rows back ∙ c.copy_rows.ensures))
          (tracked_cells self.arrays.now (rows self.values.items) (rows c.args.from.now) (rows self.marks.items) self.touches.items (vec_capacity self.touches) self.tracked shape
          (lens_same self.arrays.now (rows c.args.from.now) (rows self.values.items) shape self.tracked.shape));
    }
