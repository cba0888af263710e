use Rattle.std.proofs.Common.{◌≡◌, ◌++◌, ◌∙◌, ℕ, List, ap, sym, subst, arith, length, take, drop}
use Rattle.std.specs.Prelude.{All}
use Rattle.std.specs.Global.{Vec}
use Rattle.std.specs.Vec.{vec_capacity}
use Rattle.lisa_engine.specs.Shape.{AreCells}
use Rattle.lisa_engine.specs.Touches.{IsPlaced, put_back}
use Rattle.lisa_engine.specs.declared.parts.ArrayItem.{ArrayItem}
use Rattle.moment_stores.specs.Rows.{rows}
use Rattle.moment_stores.specs.Cells.{AreTracked}
use Rattle.moment_stores.proofs.Tables.{written_back}
use Rattle.moment_stores.proofs.CellLemmas.{lens_same, tracked_cells, put_back_shape}
use Rattle.moment_stores.proofs.cells.Cells.retreat.Goals as goal

pub invariant_of-self : goal.invariant_of-self
invariant_of-self c =
    let self = c.forget.new.self in
    let cells = c.take_back.new.cells in
    let touches = c.args.touches.now in
    let same_cells : length cells ≡ length self.values.items = omega (arith, c.take_back.auto.cells, c.deref_mut.ensures.len, ap length c.deref_mut.ensures.value) in
    let back : take self.values.len (cells ++ drop (length cells) self.values.items) ≡ cells = written_back cells self.values.items self.values.len same_cells self.values.ok.0 in
    let placed : All (IsPlaced self.arrays.now) touches = subst (λ (a : List ArrayItem). All (IsPlaced a) touches) (sym c.forget.ensures.arrays) c.requires in
    let shape : AreCells self.arrays.now (put_back touches (rows self.values.items)) = put_back_shape self.arrays.now touches (rows self.values.items) placed self.tracked.shape in
    let put : rows cells ≡ put_back touches (rows self.values.items) = c.take_back.ensures ∙ ap (λ (xs : List (Vec ℕ)). put_back touches (rows xs)) c.deref_mut.ensures.value in
    record {
      few = self.few;
      tracked = subst (λ (xs : List (List ℕ)). AreTracked self.arrays.now xs (rows self.marks.items) self.touches.items (vec_capacity self.touches)) (sym (ap rows back ∙ put))
          (tracked_cells self.arrays.now (rows self.values.items) (put_back touches (rows self.values.items)) (rows self.marks.items) self.touches.items (vec_capacity self.touches) self.tracked shape
          (lens_same self.arrays.now (put_back touches (rows self.values.items)) (rows self.values.items) shape self.tracked.shape));
    }
