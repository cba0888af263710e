use Rattle.std.proofs.Common.{◌≡◌, ◌<◌, ◌^◌, ◌++◌, ◌∙◌, ℕ, Bool, List, ap, sym, subst, arith, length, take, drop, get_or}
use Rattle.std.specs.Global.{Vec}
use Rattle.std.specs.Vec.{vec_capacity}
use Rattle.lisa_engine.specs.Touches.{put_back, set_cell}
use Rattle.lisa_engine.specs.declared.parts.ArrayItem.{ArrayItem}
use Rattle.moment_stores.specs.Rows.{rows}
use Rattle.moment_stores.specs.Cells.{AreTracked}
use Rattle.moment_stores.proofs.Tables.{written_back}
use Rattle.moment_stores.proofs.CellLemmas.{tracked_set, put_back_touched}
use Rattle.moment_stores.proofs.cells.Cells.put.Goals as goal

pub invariant_of-self-2 : goal.invariant_of-self-2
invariant_of-self-2 c =
    let self = c.args.self.now in
    let arrays = self.arrays.now in
    let values = c.set_in.new.all in
    let marks = c.note.new.marks in
    let same_values : length values ≡ length self.values.items = omega (arith, c.set_in.auto.all, c.deref_mut-2.ensures.len, ap length c.deref_mut-2.ensures.value) in
    let same_marks : length marks ≡ length self.marks.items = omega (arith, c.note.auto.marks, c.deref_mut.ensures.len, ap length c.deref_mut.ensures.value) in
    let back_values : take self.values.len (values ++ drop (length values) self.values.items) ≡ values = written_back values self.values.items self.values.len same_values self.values.ok.0 in
    let back_marks : take self.marks.len (marks ++ drop (length marks) self.marks.items) ≡ marks = written_back marks self.marks.items self.marks.len same_marks self.marks.ok.0 in
    let put : rows values ≡ set_cell (rows self.values.items) c.args.array c.args.index c.args.word.bits = c.set_in.ensures ∙ ap (λ (xs : List (Vec ℕ)). set_cell (rows xs) c.args.array c.args.index c.args.word.bits) c.deref_mut-2.ensures.value in
    let noted : AreTracked arrays (rows self.values.items) (rows marks) c.note.new.touches.items (vec_capacity c.note.new.touches) =
    subst (λ (xs : List (Vec ℕ)). AreTracked arrays (rows xs) (rows marks) c.note.new.touches.items (vec_capacity c.note.new.touches)) c.deref.ensures.value c.note.ensures.tracked in
    let fits : (item : ArrayItem) → c.args.array < length arrays → c.args.word.bits < 2 ^ (get_or arrays c.args.array item).width =
    λ item less. subst (λ (w : ℕ). c.args.word.bits < 2 ^ w) (c.requires item less) c.args.word.fits in
    record {
      few = self.few;
      tracked = subst (λ (xs : List (List ℕ)). AreTracked arrays xs (rows (take self.marks.len (marks ++ drop (length marks) self.marks.items))) c.note.new.touches.items (vec_capacity c.note.new.touches)) (sym (ap rows back_values ∙ put))
          (subst (λ (xs : List (Vec Bool)). AreTracked arrays (set_cell (rows self.values.items) c.args.array c.args.index c.args.word.bits) (rows xs) c.note.new.touches.items (vec_capacity c.note.new.touches)) (sym back_marks)
          (tracked_set arrays (rows self.values.items) (rows marks) c.note.new.touches.items _ c.args.array c.args.index c.args.word.bits noted fits));
    }

pub returns-clause-before : goal.returns-clause-before
returns-clause-before c =
    let self = c.args.self.now in
    let values = c.set_in.new.all in
    let same_values : length values ≡ length self.values.items = omega (arith, c.set_in.auto.all, c.deref_mut-2.ensures.len, ap length c.deref_mut-2.ensures.value) in
    let back_values : take self.values.len (values ++ drop (length values) self.values.items) ≡ values = written_back values self.values.items self.values.len same_values self.values.ok.0 in
    let put : rows values ≡ set_cell (rows self.values.items) c.args.array c.args.index c.args.word.bits = c.set_in.ensures ∙ ap (λ (xs : List (Vec ℕ)). set_cell (rows xs) c.args.array c.args.index c.args.word.bits) c.deref_mut-2.ensures.value in
    let before : put_back c.note.new.touches.items (rows self.values.items) ≡ put_back self.touches.items (rows self.values.items) =
    subst (λ (xs : List (Vec ℕ)). put_back c.note.new.touches.items (rows xs) ≡ put_back self.touches.items (rows xs)) c.deref.ensures.value c.note.ensures.before in
    ap (put_back c.note.new.touches.items) (ap rows back_values ∙ put)
    ∙ put_back_touched c.note.new.touches.items (rows self.values.items) c.args.array c.args.index c.args.word.bits c.note.ensures.noted ∙ before
