-- A cell that is written, with its touch.
use Rattle.std.proofs.Common.{◌≡◌, ℕ, ◌+◌, ◌<◌, ◌≤◌, List, [], ◌∷◌, ◌++◌, length, map, get_or, set, sym, ap, ap₂, ◌∙◌, subst, ⊎_elim, arith}
use Rattle.std.specs.Prelude.{All}
use Rattle.std.specs.Global.{Vec}
use Rattle.std.proofs.lemmas.List.{get_or-map, map-set, get_or_read, get_or-set_same, set-set, set-get_or, length-map, length-set}
use Rattle.std.proofs.lemmas.List.Elements.{All-nil, All-cons, All-append}
use Rattle.std.proofs.Math.Seq.{map-set_same}
use Rattle.std.proofs.lemmas.Bool.{cases_lt}
use Rattle.lisa_engine.specs.Touches.{put_back, set_cell}
use Rattle.lisa_engine.specs.declared.parts.Touch.{Touch}
use Rattle.lisa_engine.proofs.Journal.{put_back_more}
use Rattle.typed_values.specs.Words.{typed_word}
use Rattle.behavior_plans.specs.Holdings.{with_cell}
use Rattle.behavior_plans.specs.declared.store.Store.{Store}
use Rattle.behavior_plans.specs.Stores.{cells_of, holdings_of, touches_of, sizes_of, IsThere, AreThere, Leaves}

-- a touch takes back the write that it was noted at
pub back_undone : (touch : Touch) (cells : List (List ℕ)) (bits : ℕ) → touch.array < length cells → touch.before ≡ get_or (get_or cells touch.array []) touch.index 0
    → set_cell (set_cell cells touch.array touch.index bits) touch.array touch.index touch.before ≡ cells
back_undone touch cells bits low is =
    let a = touch.array in
    let i = touch.index in
    let row = get_or cells a [] in
    ap₂ (λ (r : List ℕ) o. set (set cells a (set row i bits)) a (set r i o)) (get_or-set_same cells a (set row i bits) [] low) is
    ∙ ap (λ (r : List ℕ). set (set cells a (set row i bits)) a r) (set-set row i bits (get_or row i 0) ∙ set-get_or row i 0)
    ∙ set-set cells a (set row i bits) row
    ∙ set-get_or cells a []

pub cell_left : (old new : Store) (array index bits : ℕ) (at row row1 row2 : Vec ℕ) (touch : Touch)
    → array < length old.cells.items → index < length at.items
    → new.registers.items ≡ old.registers.items → new.kept.items ≡ old.kept.items → new.pins.items ≡ old.pins.items → new.slots.items ≡ old.slots.items → new.decoded ≡ old.decoded
    → new.fields.items ≡ old.fields.items → new.outs.items ≡ old.outs.items → new.stalled.items ≡ old.stalled.items → new.flushed.items ≡ old.flushed.items
    → at ≡ get_or old.cells.items array at → row ≡ get_or old.cells.items array row → row1 ≡ get_or old.cells.items array row1 → row2.items ≡ set row.items index bits → new.cells.items ≡ set old.cells.items array row2
    → touch.array ≡ array → touch.index ≡ index → touch.before ≡ get_or row1.items index touch.before
    → (old.count + 1 ≤ length old.touched.items → touches_of new ≡ touches_of old ++ touch ∷ []) → (length old.touched.items ≤ old.count → touches_of new ≡ touches_of old) → new.count ≤ old.count + 1 → length new.touched.items ≡ length old.touched.items
    → Leaves old new (with_cell array index bits (holdings_of old)) 1
cell_left old new array index bits at row row1 row2 touch there within r k p l d f o s u is_at is_row is_row1 is_row2 c ta ti to noted full count room =
    let view = λ (x : Vec ℕ). x.items in
    let before = cells_of old in
    let same_at : get_or before array [] ≡ at.items = get_or-map view old.cells.items array at [] there ∙ ap view (sym is_at) in
    let same : get_or before array [] ≡ row.items = get_or-map view old.cells.items array row [] there ∙ ap view (sym is_row) in
    let same1 : get_or before array [] ≡ row1.items = get_or-map view old.cells.items array row1 [] there ∙ ap view (sym is_row1) in
    let within1 : index < length row1.items = subst (λ (x : List ℕ). index < length x) (sym same_at ∙ same1) within in
    let there' : array < length before = subst (λ n. array < n) (sym (length-map old.cells.items view)) there in
    let new_row : row2.items ≡ set (get_or before array []) index bits = is_row2 ∙ ap (λ (x : List ℕ). set x index bits) (sym same) in
    let cells : cells_of new ≡ set_cell before array index bits =
    ap (λ (rows : List (Vec ℕ)). map (λ (x : Vec ℕ). x.items) rows) c ∙ map-set view old.cells.items array row2 ∙ ap (set before array) new_row in
    let was : touch.before ≡ get_or (get_or before array []) index 0 = get_or_read row1.items index touch.before within1 to 0 ∙ ap (λ (x : List ℕ). get_or x index 0) (sym same1) in
    let undone : set_cell (cells_of new) touch.array touch.index touch.before ≡ before =
    ap (λ (x : List (List ℕ)). set_cell x touch.array touch.index touch.before) cells
    ∙ ap₂ (λ a i. set_cell (set_cell before a i bits) touch.array touch.index touch.before) (sym ta) (sym ti)
    ∙ back_undone touch before bits (subst (λ a. a < length before) (sym ta) there') (was ∙ ap₂ (λ a i. get_or (get_or before a []) i 0) (sym ta) (sym ti)) in
    let sizes : sizes_of new ≡ sizes_of old =
    ap (λ (rows : List (List ℕ)). map (λ (x : List ℕ). length x) rows) cells ∙ map-set_same (λ (x : List ℕ). length x) before array (set (get_or before array []) index bits) [] (length-set (get_or before array []) index bits) in
    let size : get_or (sizes_of old) array 0 ≡ length (get_or before array []) = get_or-map (λ (x : List ℕ). length x) before array [] 0 there' in
    let cell : IsThere (sizes_of old) touch = record {
      array = subst (λ a. a < length (sizes_of old)) (sym ta) (subst (λ n. array < n) (sym (length-map before (λ (x : List ℕ). length x))) there');
      index = subst (λ i. i < get_or (sizes_of old) touch.array 0) (sym ti) (subst (λ a. index < get_or (sizes_of old) a 0) (sym ta) (subst (λ n. index < n) (ap (λ (x : List ℕ). length x) (sym same_at) ∙ sym size) within));
    } in
    let grown : (touches_of new ≡ touches_of old ++ touch ∷ []) → AreThere old → All (IsThere (sizes_of old)) (touches_of new) =
    λ is all. subst (λ (ts : List Touch). All (IsThere (sizes_of old)) ts) (sym is) (All-append (IsThere (sizes_of old)) (touches_of old) (touch ∷ []) all (All-cons (IsThere (sizes_of old)) touch [] cell (All-nil (IsThere (sizes_of old))))) in
    let kept : (touches_of new ≡ touches_of old) → AreThere old → All (IsThere (sizes_of old)) (touches_of new) =
    λ is all. subst (λ (ts : List Touch). All (IsThere (sizes_of old)) ts) (sym is) all in
    record {
      holdings = λ i. record {
        registers = map typed_word (r i);
        kept = map typed_word (k i);
        pins = map typed_word (p i);
        slots = map typed_word (l i);
        cells = cells i;
        decoded = d i;
        fields = f i;
        outs = o i;
        stalled = s i;
        flushed = u i;
      };
      untouched_same = λ fits. ap (λ (ts : List Touch). put_back ts (cells_of new)) (noted fits) ∙ put_back_more (touches_of old) touch (cells_of new) ∙ ap (put_back (touches_of old)) undone;
      touches = count;
      room = room;
      places = λ all. subst (λ (s : List ℕ). All (IsThere s) (touches_of new)) (sym sizes)
          (⊎_elim (λ less. grown (noted (omega (arith, less))) all) (λ least. kept (full least) all) (cases_lt old.count (length old.touched.items)));
    }
