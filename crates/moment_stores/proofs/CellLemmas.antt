-- Cells that are set, and touches that lead back.
use Rattle.std.proofs.Common.{drop-cons, add-one, take, drop, ◌≡◌, ℕ, zero, suc, ◌+◌, ◌^◌, ◌<◌, ◌≤◌, ◌||◌, Bool, true, false, List, [], ◌∷◌, ◌++◌, length, map, get_or, set, refl, ap, ap₂, sym, ◌∙◌, subst, arith, ⊎_elim, length-append}
use Rattle.std.proofs.lemmas.List.{length-map}
use Rattle.std.specs.Prelude.{All, ◌==◌, cond, replicate}
use Rattle.std.specs.Global.{Vec}
use Rattle.std.specs.Vec.{vec_len}
use Rattle.std.proofs.lemmas.Bool.{or_cases, false≢true, cases_eq, cases_Bool, eqb-true, eq-eqb, false_from_ne_true, both_ways, and_parts, and_from}
use Rattle.std.proofs.lemmas.List.{map-set, take_more_set, get_or-map, ext_get_or, map-append, take_more, length-replicate, get_or-set_same, get_or-set_other, length-set}
use Rattle.std.proofs.lemmas.List.Elements.{All-push}
use Rattle.std.proofs.lemmas.List.Folds.{list_any-append}
use Rattle.std.proofs.Math.Seq.{map-set_same}
use Rattle.lisa_engine.specs.Shape.{AreCells}
use Rattle.lisa_engine.specs.Touches.{IsPlaced, put_back, set_cell}
use Rattle.lisa_engine.specs.declared.parts.ArrayItem.{ArrayItem}
use Rattle.lisa_engine.specs.declared.parts.Touch.{Touch}
use Rattle.lisa_engine.proofs.Journal.{put_back_more}
use Rattle.moment_stores.specs.Rows.{rows, mark_at, all_places, place_set, value_at}
use Rattle.moment_stores.specs.Cells.{is_touch_of, is_touched, AreTracked}
use Rattle.moment_stores.proofs.Marks.{none_at, all_unmarked-set, all_unmarked-le, places_same, one_marked}
use Rattle.moment_stores.proofs.Tables.{own_false, value_set_other, place_own, place_over, place_comm, place_lens}

abbrev pub touch_at : ℕ → ℕ → ℕ → Touch
touch_at a i v = record { array = a; index = i; before = v }

-- ---- what leads back leads over a cell that was touched

pub put_back_set : (touches : List Touch) (cells : List (List ℕ)) (a i v : ℕ)
    → put_back touches (set_cell cells a i v) ≡ cond (is_touched touches a i) (put_back touches cells) (set_cell (put_back touches cells) a i v)
put_back_set [] cells a i v = refl
put_back_set (t ∷ ts) cells a i v =
    let now = put_back ts cells in
    let step : put_back (t ∷ ts) (set_cell cells a i v) ≡ set_cell (cond (is_touched ts a i) now (set_cell now a i v)) t.array t.index t.before
    = ap (λ (cs : List (List ℕ)). set_cell cs t.array t.index t.before) (put_back_set ts cells a i v) in
    step ∙ ⊎_elim
    (λ told. at_touch now told ∙ ap (λ (b : Bool). cond (b || is_touched ts a i) (put_back (t ∷ ts) cells) (set_cell (put_back (t ∷ ts) cells) a i v)) (sym told))
    (λ free. past_touch now free ∙ ap (λ (b : Bool). cond (b || is_touched ts a i) (put_back (t ∷ ts) cells) (set_cell (put_back (t ∷ ts) cells) a i v)) (sym free))
    (cases_Bool (is_touch_of a i t))
  where
    at_touch : (now : List (List ℕ)) → is_touch_of a i t ≡ true → set_cell (cond (is_touched ts a i) now (set_cell now a i v)) t.array t.index t.before ≡ set_cell now t.array t.index t.before
    at_touch now told =
        let parts = and_parts (t.array == a) (t.index == i) told in
        let over : set_cell (set_cell now a i v) t.array t.index t.before ≡ set_cell now t.array t.index t.before =
        subst (λ (n : ℕ). set_cell (set_cell now n i v) t.array t.index t.before ≡ set_cell now t.array t.index t.before) (eqb-true t.array a parts.0)
        (subst (λ (n : ℕ). set_cell (set_cell now t.array n v) t.array t.index t.before ≡ set_cell now t.array t.index t.before) (eqb-true t.index i parts.1)
        (place_over now t.array t.index v t.before)) in
        elim (is_touched ts a i) as (λ b. set_cell (cond b now (set_cell now a i v)) t.array t.index t.before ≡ set_cell now t.array t.index t.before) [ true ↦ refl | false ↦ over ]

    past_touch : (now : List (List ℕ)) → is_touch_of a i t ≡ false → set_cell (cond (is_touched ts a i) now (set_cell now a i v)) t.array t.index t.before
        ≡ cond (is_touched ts a i) (set_cell now t.array t.index t.before) (set_cell (set_cell now t.array t.index t.before) a i v)
    past_touch now free =
        let apart : a ≡ t.array → i ≡ t.index → ⊥ = λ e f. both_ways _ free (and_from _ _ (eq-eqb t.array a (sym e)) (eq-eqb t.index i (sym f))) in
        elim (is_touched ts a i) as (λ b. set_cell (cond b now (set_cell now a i v)) t.array t.index t.before ≡ cond b (set_cell now t.array t.index t.before) (set_cell (set_cell now t.array t.index t.before) a i v))
        [ true ↦ refl | false ↦ place_comm now a i t.array t.index v t.before apart ]

pub put_back_touched : (touches : List Touch) (cells : List (List ℕ)) (a i v : ℕ) → is_touched touches a i ≡ true → put_back touches (set_cell cells a i v) ≡ put_back touches cells
put_back_touched touches cells a i v told =
    put_back_set touches cells a i v ∙ ap (λ (b : Bool). cond b (put_back touches cells) (set_cell (put_back touches cells) a i v)) told

-- ---- one more touch

pub touched_last : (touches : List Touch) (t : Touch) (b k : ℕ) → is_touched (touches ++ t ∷ []) b k ≡ (is_touched touches b k || is_touch_of b k t)
touched_last touches t b k =
    list_any-append (is_touch_of b k) touches (t ∷ []) ∙ ap (λ (x : Bool). is_touched touches b k || x) (grind arith)

either_way : (x y : Bool) → (x || y) ≡ (y || x)
either_way x y = grind arith

module _ (arrays : List ArrayItem) (cells : List (List ℕ)) (marks : List (List Bool)) (touches : List Touch) (room : ℕ) (sound : AreTracked arrays cells marks touches room) where
  pub rows_counted : length marks ≡ length cells
  rows_counted = sym (length-map marks length) ∙ ap length sound.same ∙ length-map cells length

  pub row_counted : (a : ℕ) → a < length cells → length (get_or marks a []) ≡ length (get_or cells a [])
  row_counted a within = sym (at marks a) ∙ ap (λ (ns : List ℕ). get_or ns a 0) sound.same ∙ at cells a
    where
      at : {T : Type 0} (all : List (List T)) (k : ℕ) → get_or (map length all) k 0 ≡ length (get_or all k [])
      at [] k = refl
      at (x ∷ xs) zero = refl
      at (x ∷ xs) (suc k) = at xs k

  module _ (a i : ℕ) (in_cells : a < length cells) (in_row : i < length (get_or cells a [])) (free : mark_at marks a i ≡ false) where
    pub tracked_more : AreTracked arrays cells (place_set marks a i true) (touches ++ touch_at a i (value_at cells a i 0) ∷ []) room
    tracked_more =
        let in_marks : a < length marks = omega (arith, rows_counted) in
        let in_mark : i < length (get_or marks a []) = omega (arith, row_counted a in_cells) in
        let t = touch_at a i (value_at cells a i 0) in
        let here : a < length arrays = omega (arith, sound.shape.count) in
        record {
          shape = sound.shape;
          placed = All-push (IsPlaced arrays) touches t sound.placed (record {
            array = here;
            index = λ item. omega (arith, sound.shape.depths a item here);
            value = λ item. sound.shape.within a i item here in_row;
          });
          same = place_lens marks a i true ∙ sound.same;
          marked = λ b k. one_marked marks a i in_marks in_mark b k ∙ either_way (is_touch_of b k t) (mark_at marks b k) ∙ ap (λ (x : Bool). x || is_touch_of b k t) (sound.marked b k) ∙ sym (touched_last touches t b k);
          left = omega (arith, all_unmarked-set marks a i in_marks in_mark free, sound.left, length-append touches (t ∷ []));
          most = omega (arith, places_same (place_set marks a i true) marks (place_lens marks a i true), sound.most);
        }

    pub back_more : put_back (touches ++ touch_at a i (value_at cells a i 0) ∷ []) cells ≡ put_back touches cells
    back_more = put_back_more touches (touch_at a i (value_at cells a i 0)) cells ∙ ap (put_back touches) (place_own cells a i 0)

    pub touched_now : is_touched (touches ++ touch_at a i (value_at cells a i 0) ∷ []) a i ≡ true
    touched_now = touched_last touches (touch_at a i (value_at cells a i 0)) a i ∙ ap (λ (x : Bool). is_touched touches a i || x) (and_from _ _ (eq-eqb a a refl) (eq-eqb i i refl)) ∙ grind arith

    -- there is room for it
    pub has_room : length touches < room
    has_room =
        let in_marks : a < length marks = omega (arith, rows_counted) in
        let in_mark : i < length (get_or marks a []) = omega (arith, row_counted a in_cells) in
        omega (arith, all_unmarked-set marks a i in_marks in_mark free, sound.left)

-- ---- a cell that was touched gets another value

module _ (arrays : List ArrayItem) (cells : List (List ℕ)) (shape : AreCells arrays cells) (a i v : ℕ) where
  pub set_shape : ((item : ArrayItem) → a < length arrays → v < 2 ^ (get_or arrays a item).width) → AreCells arrays (set_cell cells a i v)
  set_shape fits = record {
    count = length-set cells a (set row i v) ∙ shape.count;
    depths = λ k array within. ⊎_elim
        (λ e. subst (λ (n : ℕ). length (get_or (set cells a (set row i v)) n []) ≡ (get_or arrays n array).depth) (sym e)
        (let here : a < length arrays = subst (λ (n : ℕ). n < length arrays) e within in
        let in_cells : a < length cells = omega (arith, shape.count) in
        ap length (get_or-set_same cells a (set row i v) [] in_cells) ∙ length-set row i v ∙ shape.depths a array here))
        (λ ne. ap length (get_or-set_other cells a k (set row i v) [] ne) ∙ shape.depths k array within)
        (cases_eq k a);
    within = λ k j array less in_row. ⊎_elim
        (λ e. same_row k j array e less in_row)
        (λ ne. let other : get_or (set cells a (set row i v)) k [] ≡ get_or cells k [] = get_or-set_other cells a k (set row i v) [] ne in
        subst (λ (r : List ℕ). get_or r j 0 < 2 ^ (get_or arrays k array).width) (sym other) (shape.within k j array less (subst (λ (r : List ℕ). j < length r) other in_row)))
        (cases_eq k a);
  }
    where
      row : List ℕ
      row = get_or cells a []

      at_place : (j : ℕ) (array : ArrayItem) → a < length arrays → j < length row → get_or (set row i v) j 0 < 2 ^ (get_or arrays a array).width
      at_place j array here in_row = ⊎_elim
          (λ e. let same : get_or (set row i v) j 0 ≡ v = ap (λ (n : ℕ). get_or (set row i v) n 0) e ∙ get_or-set_same row i v 0 (subst (λ (n : ℕ). n < length row) e in_row) in
          subst (λ (n : ℕ). n < 2 ^ (get_or arrays a array).width) (sym same) (fits array here))
          (λ ne. subst (λ (n : ℕ). n < 2 ^ (get_or arrays a array).width) (sym (get_or-set_other row i j v 0 ne)) (shape.within a j array here in_row))
          (cases_eq j i)

      same_row : (k j : ℕ) (array : ArrayItem) → k ≡ a → k < length arrays → j < length (get_or (set cells a (set row i v)) k []) → get_or (get_or (set cells a (set row i v)) k []) j 0 < 2 ^ (get_or arrays k array).width
      same_row k j array e less in_row =
          let here : a < length arrays = subst (λ (n : ℕ). n < length arrays) e less in
          let in_cells : a < length cells = omega (arith, shape.count) in
          let there : get_or (set cells a (set row i v)) k [] ≡ set row i v = ap (λ (n : ℕ). get_or (set cells a (set row i v)) n []) e ∙ get_or-set_same cells a (set row i v) [] in_cells in
          let short : j < length row = omega (arith, length-set row i v, subst (λ (r : List ℕ). j < length r) there in_row) in
          subst (λ (r : List ℕ). get_or r j 0 < 2 ^ (get_or arrays k array).width) (sym there)
          (subst (λ (n : ℕ). get_or (set row i v) j 0 < 2 ^ (get_or arrays n array).width) (sym e) (at_place j array here short))

pub tracked_set : (arrays : List ArrayItem) (cells : List (List ℕ)) (marks : List (List Bool)) (touches : List Touch) (room a i v : ℕ) → AreTracked arrays cells marks touches room
    → ((item : ArrayItem) → a < length arrays → v < 2 ^ (get_or arrays a item).width) → AreTracked arrays (set_cell cells a i v) marks touches room
tracked_set arrays cells marks touches room a i v sound fits = record {
  shape = set_shape arrays cells sound.shape a i v fits;
  placed = sound.placed;
  same = sound.same ∙ sym (place_lens cells a i v);
  marked = sound.marked;
  left = sound.left;
  most = sound.most;
}

-- other cells of the same shape
pub tracked_cells : (arrays : List ArrayItem) (cells other : List (List ℕ)) (marks : List (List Bool)) (touches : List Touch) (room : ℕ) → AreTracked arrays cells marks touches room
    → AreCells arrays other → map length other ≡ map length cells → AreTracked arrays other marks touches room
tracked_cells arrays cells other marks touches room sound shape same = record {
  shape = shape;
  placed = sound.placed;
  same = sound.same ∙ sym same;
  marked = sound.marked;
  left = sound.left;
  most = sound.most;
}

-- rows of cells of the same arrays are as long
pub lens_told : (arrays : List ArrayItem) (cells : List (List ℕ)) (item : ArrayItem) → AreCells arrays cells → map length cells ≡ map (λ (a : ArrayItem). a.depth) arrays
lens_told arrays cells item shape =
    ext_get_or 0 (map length cells) (map (λ (a : ArrayItem). a.depth) arrays) (length-map cells length ∙ shape.count ∙ sym (length-map arrays (λ (a : ArrayItem). a.depth)))
    (λ k h. let less : k < length cells = omega (arith, length-map cells length, h) in
    let here : k < length arrays = omega (arith, shape.count) in
    get_or-map length cells k [] 0 less ∙ shape.depths k item here ∙ sym (get_or-map (λ (a : ArrayItem). a.depth) arrays k item 0 here))

no_item : ArrayItem
no_item = record { name = []; width = 0; depth = 0 }

pub lens_same : (arrays : List ArrayItem) (xs ys : List (List ℕ)) → AreCells arrays xs → AreCells arrays ys → map length xs ≡ map length ys
lens_same arrays xs ys at_xs at_ys = lens_told arrays xs no_item at_xs ∙ sym (lens_told arrays ys no_item at_ys)

-- ---- no touches

pub no_touch : (arrays : List ArrayItem) (cells : List (List ℕ)) (marks : List (List Bool)) (room : ℕ) → AreCells arrays cells → map length marks ≡ map length cells
    → ((a i : ℕ) → mark_at marks a i ≡ false) → all_places cells ≤ room → AreTracked arrays cells marks [] room
no_touch arrays cells marks room shape same none fits = record {
  shape = shape;
  placed = λ k d within. absurd (omega arith);
  same = same;
  marked = none;
  left = omega (arith, all_unmarked-le marks, places_same marks cells same, fits);
  most = omega (arith, places_same marks cells same, fits);
}

-- rows without marks
pub no_marks : (cells : List (Vec ℕ)) (a i : ℕ) → mark_at (map (λ (row : Vec ℕ). replicate (vec_len row) false) cells) a i ≡ false
no_marks [] a i = refl
no_marks (row ∷ rest) zero i = none_at (vec_len row) i
no_marks (row ∷ rest) (suc a) i = no_marks rest a i

pub no_marks_same : (cells : List (Vec ℕ)) → map length (map (λ (row : Vec ℕ). replicate (vec_len row) false) cells) ≡ map length (rows cells)
no_marks_same [] = refl
no_marks_same (row ∷ rest) = ap₂ (λ (n : ℕ) (l : List ℕ). n ∷ l) (length-replicate (vec_len row) false ∙ row.ok.0) (no_marks_same rest)

-- ---- cells one after another

pub counted_next : (cells : List (Vec ℕ)) (k count whole : ℕ) (row : Vec ℕ) → k < length cells → row ≡ get_or cells k row → count + all_places (rows (drop k cells)) ≡ whole
    → (count + vec_len row) + all_places (rows (drop (k + 1) cells)) ≡ whole
counted_next cells k count whole row within is left =
    let next : drop k cells ≡ row ∷ drop (k + 1) cells = drop-cons cells k row within ∙ ap₂ (λ (x : Vec ℕ) (n : ℕ). x ∷ drop n cells) (sym is) (sym (add-one k)) in
    omega (arith, left, ap (λ (xs : List (Vec ℕ)). all_places (rows xs)) next, row.ok.0)

pub marks_next : (cells : List (Vec ℕ)) (k : ℕ) (row : Vec ℕ) (marks : List (Vec Bool)) (last : Vec Bool) → k < length cells → row ≡ get_or cells k row
    → rows marks ≡ map (λ (row : Vec ℕ). replicate (vec_len row) false) (take k cells) → last.items ≡ replicate (vec_len row) false
    → rows (marks ++ last ∷ []) ≡ map (λ (row : Vec ℕ). replicate (vec_len row) false) (take (k + 1) cells)
marks_next cells k row marks last within is so put =
    let f : Vec ℕ → List Bool = λ (r : Vec ℕ). replicate (vec_len r) false in
    map-append (λ (r : Vec Bool). r.items) marks (last ∷ []) ∙ ap₂ (λ (xs : List (List Bool)) (y : List Bool). xs ++ y ∷ []) so put
    ∙ sym (ap (map f) (take_more cells k row within ∙ ap (λ (x : Vec ℕ). take k cells ++ x ∷ []) (sym is)) ∙ map-append f (take k cells) (row ∷ []))

-- ---- marks that are taken away

pub mark_cleared : (marks : List (List Bool)) (t : Touch) (rest : List Touch) → ((a i : ℕ) → mark_at marks a i ≡ true → is_touched (t ∷ rest) a i ≡ true)
    → (a i : ℕ) → mark_at (place_set marks t.array t.index false) a i ≡ true → is_touched rest a i ≡ true
mark_cleared marks t rest before a i told =
    ⊎_elim
    (λ e. ⊎_elim (λ f. absurd (both_ways _ (here e f) told)) (λ ne. elsewhere (λ g h. ne h)) (cases_eq t.index i))
    (λ ne. elsewhere (λ g h. ne g))
    (cases_eq t.array a)
  where
    here : t.array ≡ a → t.index ≡ i → mark_at (place_set marks t.array t.index false) a i ≡ false
    here e f = ap₂ (λ (m n : ℕ). mark_at (place_set marks t.array t.index false) m n) (sym e) (sym f) ∙ own_false marks t.array t.index

    elsewhere : (t.array ≡ a → t.index ≡ i → ⊥) → is_touched rest a i ≡ true
    elsewhere apart =
        let other : mark_at marks a i ≡ true = sym (value_set_other marks t.array t.index a i false false apart) ∙ told in
        ⊎_elim (λ both. let parts = and_parts (t.array == a) (t.index == i) both in absurd (apart (eqb-true t.array a parts.0) (eqb-true t.index i parts.1)))
        (λ rest_has. rest_has) (or_cases (is_touch_of a i t) (is_touched rest a i) (before a i other))

pub all_cleared : (marks : List (List Bool)) → ((a i : ℕ) → mark_at marks a i ≡ true → is_touched [] a i ≡ true) → (a i : ℕ) → mark_at marks a i ≡ false
all_cleared marks before a i = false_from_ne_true (mark_at marks a i) (λ told. false≢true (before a i told))

pub clear_next : (touches : List Touch) (k : ℕ) (t : Touch) → k < length touches → t ≡ get_or touches k t → drop k touches ≡ t ∷ drop (k + 1) touches
clear_next touches k t within is = drop-cons touches k t within ∙ ap₂ (λ (x : Touch) (n : ℕ). x ∷ drop n touches) (sym is) (sym (add-one k))

-- cells that are made, without touches
pub made_tracked : (arrays : List ArrayItem) (cells : List (Vec ℕ)) (marks : List (Vec Bool)) (touches : List Touch) (room count : ℕ) → AreCells arrays (rows cells)
    → rows marks ≡ map (λ (row : Vec ℕ). replicate (vec_len row) false) cells → touches ≡ [] → count ≡ all_places (rows cells) → room ≡ count → AreTracked arrays (rows cells) (rows marks) touches room
made_tracked arrays cells marks touches room count shape bare none counted fits =
    subst (λ (all : List Touch). AreTracked arrays (rows cells) (rows marks) all room) (sym none)
    (subst (λ (all : List (List Bool)). AreTracked arrays (rows cells) all [] room) (sym bare)
    (no_touch arrays (rows cells) (map (λ (row : Vec ℕ). replicate (vec_len row) false) cells) room shape (no_marks_same cells) (no_marks cells) (omega (arith, counted, fits))))

-- ---- rows copied one after another

pub row_held : (all : List (Vec ℕ)) (i : ℕ) (v : Vec ℕ) → i < length all → v ≡ get_or all i v → get_or (rows all) i [] ≡ v.items
row_held all i v within is = get_or-map (λ (c : Vec ℕ). c.items) all i v [] within ∙ ap (λ (c : Vec ℕ). c.items) (sym is)

len_held : {T : Type 0} (xs : List (List T)) (k : ℕ) → get_or (map length xs) k 0 ≡ length (get_or xs k [])
len_held [] k = refl
len_held (x ∷ xs) zero = refl
len_held (x ∷ xs) (suc k) = len_held xs k

pub lens_count : (xs ys : List (List ℕ)) → map length xs ≡ map length ys → length xs ≡ length ys
lens_count xs ys same = sym (length-map xs length) ∙ ap length same ∙ length-map ys length

pub rows_count : (all : List (Vec ℕ)) → length (rows all) ≡ length all
rows_count all = length-map all (λ (c : Vec ℕ). c.items)

pub same_len : (now from : List (Vec ℕ)) (i : ℕ) (v w : Vec ℕ) → map length (rows now) ≡ map length (rows from) → i < length now → i < length from → v ≡ get_or now i v → w ≡ get_or from i w → length v.items ≡ length w.items
same_len now from i v w same in_now in_from is_v is_w =
    ap length (sym (row_held now i v in_now is_v)) ∙ sym (len_held (rows now) i) ∙ ap (λ (ns : List ℕ). get_or ns i 0) same ∙ len_held (rows from) i ∙ ap length (row_held from i w in_from is_w)

pub copied_row : (now from : List (Vec ℕ)) (i : ℕ) (v w put : Vec ℕ) → i < length now → i < length from → v ≡ get_or now i v → w ≡ get_or from i w → put.items ≡ w.items
    → map length (rows now) ≡ map length (rows from) → take i (rows now) ≡ take i (rows from)
    → (map length (rows (set now i put)) ≡ map length (rows from)) × (take (i + 1) (rows (set now i put)) ≡ take (i + 1) (rows from))
copied_row now from i v w put in_now in_from is_v is_w copied same done =
    let near : i < length (rows now) = omega (arith, rows_count now, in_now) in
    let far : i < length (rows from) = omega (arith, rows_count from, in_from) in
    let step : rows (set now i put) ≡ set (rows now) i w.items = map-set (λ (c : Vec ℕ). c.items) now i put ∙ ap (set (rows now) i) copied in
    let as_long : length w.items ≡ length (get_or (rows now) i []) = sym (same_len now from i v w same in_now in_from is_v is_w) ∙ ap length (sym (row_held now i v in_now is_v)) in (
      ap (map length) step ∙ map-set_same length (rows now) i w.items [] as_long ∙ same,
      ap (take (i + 1)) step ∙ take_more_set (rows now) i w.items near ∙ ap₂ (λ (xs : List (List ℕ)) (y : List ℕ). xs ++ y ∷ []) done (sym (row_held from i w in_from is_w)) ∙ sym (take_more (rows from) i [] far),
    )

-- ---- one more touch, by what the code found

pub noted_tracked : (arrays : List ArrayItem) (cells : List (List ℕ)) (marks marked : List (List Bool)) (touches touched : List Touch) (room a i v : ℕ) → AreTracked arrays cells marks touches room
    → a < length cells → i < length (get_or cells a []) → mark_at marks a i ≡ false → v ≡ value_at cells a i 0 → marked ≡ place_set marks a i true → touched ≡ touches ++ touch_at a i v ∷ []
    → AreTracked arrays cells marked touched room × (put_back touched cells ≡ put_back touches cells) × (is_touched touched a i ≡ true)
noted_tracked arrays cells marks marked touches touched room a i v sound in_cells in_row free is put pushed =
    let same : touched ≡ touches ++ touch_at a i (value_at cells a i 0) ∷ [] = pushed ∙ ap (λ (b : ℕ). touches ++ touch_at a i b ∷ []) is in (
      subst (λ (all : List Touch). AreTracked arrays cells marked all room) (sym same)
          (subst (λ (all : List (List Bool)). AreTracked arrays cells all (touches ++ touch_at a i (value_at cells a i 0) ∷ []) room) (sym put) (tracked_more arrays cells marks touches room sound a i in_cells in_row free)),
      ap (λ (all : List Touch). put_back all cells) same ∙ back_more arrays cells marks touches room sound a i in_cells in_row free,
      ap (λ (all : List Touch). is_touched all a i) same ∙ touched_now arrays cells marks touches room sound a i in_cells in_row free,
    )

-- touches that are forgotten
pub forgotten : (arrays : List ArrayItem) (cells : List (List ℕ)) (marks new : List (List Bool)) (touches touched : List Touch) (room : ℕ) → AreTracked arrays cells marks touches room
    → map length new ≡ map length marks → ((a i : ℕ) → mark_at new a i ≡ false) → touched ≡ [] → AreTracked arrays cells new touched room
forgotten arrays cells marks new touches touched room sound same none gone =
    subst (λ (all : List Touch). AreTracked arrays cells new all room) (sym gone)
    (no_touch arrays cells new room sound.shape (same ∙ sound.same) none
    (omega (arith, sound.most, places_same marks cells sound.same)))

-- cells with values put back
pub put_back_shape : (arrays : List ArrayItem) (touches : List Touch) (cells : List (List ℕ)) → All (IsPlaced arrays) touches → AreCells arrays cells → AreCells arrays (put_back touches cells)
put_back_shape arrays [] cells placed shape = shape
put_back_shape arrays (t ∷ ts) cells placed shape =
    set_shape arrays (put_back ts cells) (put_back_shape arrays ts cells (λ k d less. placed (suc k) d (omega arith)) shape) t.array t.index t.before
    (λ item less. (placed 0 t (omega arith)).value item)

pub clear_step : (marks new : List (List Bool)) (touches : List Touch) (k : ℕ) (d : Touch) → k < length touches → new ≡ place_set marks (get_or touches k d).array (get_or touches k d).index false
    → ((a i : ℕ) → mark_at marks a i ≡ true → is_touched (drop k touches) a i ≡ true)
    → (map length new ≡ map length marks) × ((a i : ℕ) → mark_at new a i ≡ true → is_touched (drop (k + 1) touches) a i ≡ true)
clear_step marks new touches k d within put before =
    let t : Touch = get_or touches k d in
    let next : drop k touches ≡ t ∷ drop (k + 1) touches = drop-cons touches k d within ∙ ap (λ (n : ℕ). t ∷ drop n touches) (sym (add-one k)) in (
      ap (map length) put ∙ place_lens marks t.array t.index false,
      λ a i told. mark_cleared marks t (drop (k + 1) touches) (λ b j e. sym (ap (λ (ts : List Touch). is_touched ts b j) next) ∙ before b j e) a i (sym (ap (λ (m : List (List Bool)). mark_at m a i) put) ∙ told),
    )
