use Rattle.std.proofs.Common.{◌≡◌, ◌++◌, ◌∙◌, ℕ, Bool, List, ap, sym, subst, arith, length, map, take, drop}
use Rattle.std.specs.Global.{Vec}
use Rattle.std.specs.Vec.{vec_capacity}
use Rattle.moment_stores.specs.Rows.{rows}
use Rattle.moment_stores.specs.Cells.{AreTracked}
use Rattle.moment_stores.proofs.Tables.{written_back}
use Rattle.moment_stores.proofs.CellLemmas.{forgotten}
use Rattle.moment_stores.proofs.cells.Cells.forget.Goals as goal

pub invariant_of-self : goal.invariant_of-self
invariant_of-self c =
    let self = c.args.self.now in
    let marks = c.clear_marks.new.marks in
    let same_marks : length marks ≡ length self.marks.items = omega (arith, c.clear_marks.auto.marks, c.deref_mut.ensures.len, ap length c.deref_mut.ensures.value) in
    let back : take self.marks.len (marks ++ drop (length marks) self.marks.items) ≡ marks = written_back marks self.marks.items self.marks.len same_marks self.marks.ok.0 in
    let same : map length (rows marks) ≡ map length (rows self.marks.items) = c.clear_marks.ensures.same ∙ ap (λ (xs : List (Vec Bool)). map length (rows xs)) c.deref_mut.ensures.value in
    record {
      few = self.few;
      tracked = subst (λ (xs : List (Vec Bool)). AreTracked self.arrays.now (rows self.values.items) (rows xs) c.clear.new.self.items (vec_capacity c.clear.new.self)) (sym back)
          (subst (λ (room : ℕ). AreTracked self.arrays.now (rows self.values.items) (rows marks) c.clear.new.self.items room) (sym c.clear.ensures.capacity)
          (forgotten self.arrays.now (rows self.values.items) (rows self.marks.items) (rows marks) self.touches.items c.clear.new.self.items (vec_capacity self.touches) self.tracked same c.clear_marks.ensures.none c.clear.ensures.items));
    }
