-- Cells that are set, and touches that lead back.
use Rattle.std.proofs.Common.{◌≡◌, ℕ, ◌+◌, ◌^◌, ◌<◌, ◌≤◌, List, [], ◌∷◌, ◌++◌, length, map, get_or, set, take, drop, drop-cons, add-one, sym, ap, ap₂, ◌∙◌, subst, arith, ⊎_elim}
use Rattle.std.specs.Prelude.{fold}
use Rattle.std.specs.Global.{Vec}
use Rattle.std.proofs.lemmas.Bool.{cases_eq}
use Rattle.std.proofs.lemmas.List.{set-get_or, set-set, set_past, length-set, length-map, get_or-set_same, get_or-set_other, map-set, get_or-map, take_more, take_more_set}
use Rattle.std.proofs.lemmas.List.Elements.{All-push}
use Rattle.std.proofs.Math.Seq.{take-length, map-set_same}
use Rattle.std.specs.Vec.{vec_len}
use Rattle.lisa_engine.proofs.Places.{any_default}
use Rattle.lisa_engine.specs.Shape.{AreCells}
use Rattle.lisa_engine.specs.Touches.{Tracks, IsPlaced, set_cell, put_back}
use Rattle.lisa_engine.specs.declared.parts.ArrayItem.{ArrayItem}
use Rattle.lisa_engine.specs.declared.parts.Touch.{Touch}
use Rattle.lisa_engine.proofs.Journal.{put_back_more}
use Rattle.lisa_engine.specs.State.{State}
use Rattle.verilog_clock.specs.declared.code.Update.{Update}
use Rattle.verilog_clock.specs.Compiled.{rows, applied}

pub set_cell_past : (cells : List (List ℕ)) (a i v : ℕ) → length cells ≤ a → set_cell cells a i v ≡ cells
set_cell_past cells a i v past = set_past cells a _ past

pub set_cell_short : (cells : List (List ℕ)) (a i v : ℕ) → length (get_or cells a []) ≤ i → set_cell cells a i v ≡ cells
set_cell_short cells a i v short = ap (set cells a) (set_past (get_or cells a []) i v short) ∙ set-get_or cells a []

set_cell_back : (cells : List (List ℕ)) (a i v : ℕ) → a < length cells → set_cell (set_cell cells a i v) a i (get_or (get_or cells a []) i 0) ≡ cells
set_cell_back cells a i v within =
    let row = get_or cells a [] in
    let there : get_or (set cells a (set row i v)) a [] ≡ set row i v = get_or-set_same cells a (set row i v) [] within in
    ap (λ (r : List ℕ). set (set cells a (set row i v)) a (set r i (get_or row i 0))) there
    ∙ ap (set (set cells a (set row i v)) a) (set-set row i v (get_or row i 0) ∙ set-get_or row i 0)
    ∙ set-set cells a (set row i v) row ∙ set-get_or cells a []

-- the rows of vectors
pub row_at : (cells : List (Vec ℕ)) (a : ℕ) (v : Vec ℕ) → a < length cells → v ≡ get_or cells a v → get_or (rows cells) a [] ≡ v.items
row_at cells a v within is = get_or-map (λ (c : Vec ℕ). c.items) cells a v [] within ∙ ap (λ (c : Vec ℕ). c.items) (sym is)

pub rows_set : (cells : List (Vec ℕ)) (a i x : ℕ) (v w : Vec ℕ) → a < length cells → v ≡ get_or cells a v → w.items ≡ set v.items i x → rows (set cells a w) ≡ set_cell (rows cells) a i x
rows_set cells a i x v w within is put =
    map-set (λ (c : Vec ℕ). c.items) cells a w ∙ ap (set (rows cells) a) (put ∙ ap (λ (r : List ℕ). set r i x) (sym (row_at cells a v within is)))

module _ (arrays : List ArrayItem) (cells : List (List ℕ)) (shape : AreCells arrays cells) (a i v : ℕ) where
  pub set_shape : ((item : ArrayItem) → a < length arrays → v < 2 ^ (get_or arrays a item).width) → AreCells arrays (set_cell cells a i v)
  set_shape fits = record {
    count = length-set cells a (set row i v) ∙ shape.count;
    depths = λ k array within. ⊎_elim
        (λ e. subst (λ (n : ℕ). length (get_or (set cells a (set row i v)) n []) ≡ (get_or arrays n array).depth) (sym e)
        (let here : a < length arrays = subst (λ (n : ℕ). n < length arrays) e within in
        let in_cells : a < length cells = omega (arith, shape.count) in
        ap length (get_or-set_same cells a (set row i v) [] in_cells) ∙ length-set row i v ∙ shape.depths a array here))
        (λ ne. ap length (get_or-set_other cells a k (set row i v) [] ne) ∙ shape.depths k array within)
        (cases_eq k a);
    within = λ k j array less in_row. ⊎_elim
        (λ e. same_row k j array e less in_row)
        (λ ne. let other : get_or (set cells a (set row i v)) k [] ≡ get_or cells k [] = get_or-set_other cells a k (set row i v) [] ne in
        subst (λ (r : List ℕ). get_or r j 0 < 2 ^ (get_or arrays k array).width) (sym other) (shape.within k j array less (subst (λ (r : List ℕ). j < length r) other in_row)))
        (cases_eq k a);
  }
    where
      row : List ℕ
      row = get_or cells a []

      at_place : (j : ℕ) (array : ArrayItem) → a < length arrays → j < length row → get_or (set row i v) j 0 < 2 ^ (get_or arrays a array).width
      at_place j array here in_row = ⊎_elim
          (λ e. let same : get_or (set row i v) j 0 ≡ v = ap (λ (n : ℕ). get_or (set row i v) n 0) e ∙ get_or-set_same row i v 0 (subst (λ (n : ℕ). n < length row) e in_row) in
          subst (λ (n : ℕ). n < 2 ^ (get_or arrays a array).width) (sym same) (fits array here))
          (λ ne. subst (λ (n : ℕ). n < 2 ^ (get_or arrays a array).width) (sym (get_or-set_other row i j v 0 ne)) (shape.within a j array here in_row))
          (cases_eq j i)

      same_row : (k j : ℕ) (array : ArrayItem) → k ≡ a → k < length arrays → j < length (get_or (set cells a (set row i v)) k []) → get_or (get_or (set cells a (set row i v)) k []) j 0 < 2 ^ (get_or arrays k array).width
      same_row k j array e less in_row =
          let here : a < length arrays = subst (λ (n : ℕ). n < length arrays) e less in
          let in_cells : a < length cells = omega (arith, shape.count) in
          let there : get_or (set cells a (set row i v)) k [] ≡ set row i v = ap (λ (n : ℕ). get_or (set cells a (set row i v)) n []) e ∙ get_or-set_same cells a (set row i v) [] in_cells in
          let short : j < length row = omega (arith, length-set row i v, subst (λ (r : List ℕ). j < length r) there in_row) in
          subst (λ (r : List ℕ). get_or r j 0 < 2 ^ (get_or arrays k array).width) (sym there)
          (subst (λ (n : ℕ). get_or (set row i v) j 0 < 2 ^ (get_or arrays n array).width) (sym e) (at_place j array here short))

  pub tracks_more : (touches : List Touch) (before : List (List ℕ)) → a < length arrays → ((item : ArrayItem) → i < (get_or arrays a item).depth) → Tracks arrays before cells touches
      → Tracks arrays before (set_cell cells a i v) (touches ++ (record { array = a; index = i; before = get_or (get_or cells a []) i 0 }) ∷ [])
  tracks_more touches before in_arrays in_depth tracks =
      let in_cells : a < length cells = omega (arith, shape.count) in
      let last : Touch = record { array = a; index = i; before = get_or (get_or cells a []) i 0 } in
      record {
        places = All-push (IsPlaced arrays) touches last tracks.places (record {
          array = in_arrays;
          index = in_depth;
          value = λ item. shape.within a i item in_arrays (subst (λ (n : ℕ). i < n) (sym (shape.depths a item in_arrays)) (in_depth item));
        });
        back = put_back_more touches last (set_cell cells a i v) ∙ ap (put_back touches) (set_cell_back cells a i v in_cells) ∙ tracks.back;
      }

  pub past_depth : (item : ArrayItem) → a < length arrays → item ≡ get_or arrays a item → item.depth ≤ i → set_cell cells a i v ≡ cells
  past_depth item in_arrays is past =
      set_cell_short cells a i v (omega (arith, shape.depths a item in_arrays, ap (λ (x : ArrayItem). x.depth) is))

-- rows copied one after another
pub copied_more : (now from : List (List ℕ)) (i : ℕ) (x : List ℕ) → i < length now → i < length from → x ≡ get_or from i x → take i now ≡ take i from → take (i + 1) (set now i x) ≡ take (i + 1) from
copied_more now from i x in_now in_from is same =
    take_more_set now i x in_now ∙ ap₂ (λ (xs : List (List ℕ)) (y : List ℕ). xs ++ (y ∷ [])) same is ∙ sym (take_more from i x in_from)

pub copied_all : (now from : List (List ℕ)) (i : ℕ) → length now ≡ length from → length from ≤ i → i ≤ length from → take i now ≡ take i from → now ≡ from
copied_all now from i same past up is =
    let all : i ≡ length from = omega arith in
    sym (take-length now) ∙ ap (λ (n : ℕ). take n now) (same ∙ sym all) ∙ is ∙ ap (λ (n : ℕ). take n from) all ∙ take-length from

pub len_at : (now from : List (Vec ℕ)) (i : ℕ) (v w : Vec ℕ) → map (λ (c : Vec ℕ). vec_len c) now ≡ map (λ (c : Vec ℕ). vec_len c) from → i < length now → i < length from → v ≡ get_or now i v → w ≡ get_or from i w → vec_len v ≡ vec_len w
len_at now from i v w same in_now in_from is_v is_w =
    ap (λ (c : Vec ℕ). vec_len c) is_v ∙ sym (get_or-map (λ (c : Vec ℕ). vec_len c) now i v 0 in_now) ∙ ap (λ (xs : List ℕ). get_or xs i 0) same
    ∙ get_or-map (λ (c : Vec ℕ). vec_len c) from i w 0 in_from ∙ ap (λ (c : Vec ℕ). vec_len c) (sym is_w)

pub lens_kept : (now from : List (Vec ℕ)) (i : ℕ) (v w : Vec ℕ) → map (λ (c : Vec ℕ). vec_len c) now ≡ map (λ (c : Vec ℕ). vec_len c) from → v ≡ get_or now i v → vec_len w ≡ vec_len v
    → map (λ (c : Vec ℕ). vec_len c) (set now i w) ≡ map (λ (c : Vec ℕ). vec_len c) from
lens_kept now from i v w same is len = map-set_same (λ (c : Vec ℕ). vec_len c) now i w v (len ∙ ap (λ (c : Vec ℕ). vec_len c) is) ∙ same

pub row_copied : (now from : List (Vec ℕ)) (i : ℕ) (v w : Vec ℕ) → i < length now → i < length from → v ≡ get_or from i v → w.items ≡ v.items → take i (rows now) ≡ take i (rows from)
    → take (i + 1) (rows (set now i w)) ≡ take (i + 1) (rows from)
row_copied now from i v w in_now in_from is put same =
    let near : i < length (rows now) = omega (arith, length-map now (λ (c : Vec ℕ). c.items)) in
    let far : i < length (rows from) = omega (arith, length-map from (λ (c : Vec ℕ). c.items)) in
    let here : v.items ≡ get_or (rows from) i v.items = ap (λ (c : Vec ℕ). c.items) is ∙ sym (get_or-map (λ (c : Vec ℕ). c.items) from i v v.items in_from) in
    ap (take (i + 1)) (map-set (λ (c : Vec ℕ). c.items) now i w ∙ ap (set (rows now) i) put) ∙ copied_more (rows now) (rows from) i v.items near far here same

pub in_depth : (arrays : List ArrayItem) (a i : ℕ) (item : ArrayItem) → a < length arrays → item ≡ get_or arrays a item → i < item.depth → (other : ArrayItem) → i < (get_or arrays a other).depth
in_depth arrays a i item within is less other =
    subst (λ (x : ArrayItem). i < x.depth) (is ∙ any_default arrays a item other within) less

pub lens_same : (now from : List (Vec ℕ)) → map (λ (c : Vec ℕ). vec_len c) now ≡ map (λ (c : Vec ℕ). vec_len c) from → length now ≡ length from
lens_same now from same = sym (length-map now (λ (c : Vec ℕ). vec_len c)) ∙ ap length same ∙ length-map from (λ (c : Vec ℕ). vec_len c)

pub fold_next : (us : List Update) (i : ℕ) (u : Update) (now after whole : State) → i < length us → u ≡ get_or us i u → after ≡ applied now u → fold applied now (drop i us) ≡ whole → fold applied after (drop (i + 1) us) ≡ whole
fold_next us i u now after whole within is step left =
    let next : drop i us ≡ u ∷ drop (i + 1) us = drop-cons us i u within ∙ ap₂ (λ (x : Update) (n : ℕ). x ∷ drop n us) (sym is) (sym (add-one i)) in
    ap (λ (s : State). fold applied s (drop (i + 1) us)) step ∙ sym (ap (fold applied now) next) ∙ left
