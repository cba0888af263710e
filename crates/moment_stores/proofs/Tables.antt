-- Tables of rows.
use Rattle.std.proofs.Common.{◌≡◌, ◌≢◌, Bool, false, ℕ, zero, suc, ◌+◌, ◌<◌, ◌≤◌, List, [], ◌∷◌, length, map, get_or, set, take, drop, ◌++◌, refl, ap, sym, ◌∙◌, subst, arith, ⊎_elim}
use Rattle.std.specs.Prelude.{replicate}
use Rattle.std.specs.List.{range_with_len}
use Rattle.std.specs.Global.{Vec}
use Rattle.std.specs.Vec.{vec_len}
use Rattle.std.proofs.lemmas.Bool.{cases_eq, cases_lt}
use Rattle.std.proofs.lemmas.List.{take-append-le, get_or-set_same, get_or-set_other, get_or-map, get_or_past, length-set, length-map, map-set, set-set, set-get_or, set_comm, set_past, ext_get_or}
use Rattle.std.proofs.lemmas.List.FromFn.{length-map-range_with_len, get_or-map-range_with_len}
use Rattle.std.proofs.Math.Seq.{map-set_same, take-length}
use Rattle.moment_stores.specs.Rows.{rows, value_at, place_set, table, IsTable}

-- ---- rows of vectors

pub row_at : {T : Type 0} (all : List (Vec T)) (a : ℕ) (v : Vec T) → a < length all → v ≡ get_or all a v → get_or (rows all) a [] ≡ v.items
row_at {T} all a v within is = get_or-map (λ (c : Vec T). c.items) all a v [] within ∙ ap (λ (c : Vec T). c.items) (sym is)

pub row_past : {T : Type 0} (all : List (Vec T)) (a : ℕ) → length all ≤ a → get_or (rows all) a [] ≡ []
row_past {T} all a past = get_or_past (rows all) a [] (omega (arith, past, length-map all (λ (c : Vec T). c.items)))

pub rows_set : {T : Type 0} (all : List (Vec T)) (a i : ℕ) (x : T) (v w : Vec T) → a < length all → v ≡ get_or all a v → w.items ≡ set v.items i x → rows (set all a w) ≡ place_set (rows all) a i x
rows_set {T} all a i x v w within is put =
    map-set (λ (c : Vec T). c.items) all a w ∙ ap (set (rows all) a) (put ∙ ap (λ (r : List T). set r i x) (sym (row_at all a v within is)))

pub lens_set : {T : Type 0} (all : List (Vec T)) (a : ℕ) (v w : Vec T) → v ≡ get_or all a v → vec_len w ≡ vec_len v → map (λ (c : Vec T). vec_len c) (set all a w) ≡ map (λ (c : Vec T). vec_len c) all
lens_set {T} all a v w is len = map-set_same (λ (c : Vec T). vec_len c) all a w v (len ∙ ap (λ (c : Vec T). vec_len c) is)

-- ---- another value at a place

pub place_past : {T : Type 0} (all : List (List T)) (a i : ℕ) (v : T) → length all ≤ a → place_set all a i v ≡ all
place_past all a i v past = set_past all a _ past

pub place_short : {T : Type 0} (all : List (List T)) (a i : ℕ) (v : T) → length (get_or all a []) ≤ i → place_set all a i v ≡ all
place_short all a i v short = ap (set all a) (set_past (get_or all a []) i v short) ∙ set-get_or all a []

-- the value that stands there
pub place_own : {T : Type 0} (all : List (List T)) (a i : ℕ) (d : T) → place_set all a i (value_at all a i d) ≡ all
place_own all a i d = ap (set all a) (set-get_or (get_or all a []) i d) ∙ set-get_or all a []

-- the last of two counts
pub place_over : {T : Type 0} (all : List (List T)) (a i : ℕ) (v w : T) → place_set (place_set all a i v) a i w ≡ place_set all a i w
place_over {T} all a i v w =
    ⊎_elim
    (λ less. ap (λ (r : List T). set (place_set all a i v) a (set r i w)) (get_or-set_same all a (set (get_or all a []) i v) [] less)
    ∙ ap (set (place_set all a i v) a) (set-set (get_or all a []) i v w)
    ∙ set-set all a (set (get_or all a []) i v) (set (get_or all a []) i w))
    (λ past. ap (λ (x : List (List T)). place_set x a i w) (place_past all a i v past))
    (cases_lt a (length all))

-- places of other rows, or other places of a row
other_rows : {T : Type 0} (all : List (List T)) (a i b j : ℕ) (v w : T) → a ≢ b → place_set (place_set all a i v) b j w ≡ place_set (place_set all b j w) a i v
other_rows {T} all a i b j v w ne =
    ap (λ (r : List T). set (place_set all a i v) b (set r j w)) (get_or-set_other all a b (set (get_or all a []) i v) [] (λ e. ne (sym e)))
    ∙ set_comm all a b (set (get_or all a []) i v) (set (get_or all b []) j w) ne
    ∙ ap (λ (r : List T). set (place_set all b j w) a (set r i v)) (sym (get_or-set_other all b a (set (get_or all b []) j w) [] ne))

one_row : {T : Type 0} (all : List (List T)) (a i j : ℕ) (v w : T) → i ≢ j → place_set (place_set all a i v) a j w ≡ place_set (place_set all a j w) a i v
one_row {T} all a i j v w ne =
    ⊎_elim
    (λ less. let row = get_or all a [] in
    ap (λ (r : List T). set (place_set all a i v) a (set r j w)) (get_or-set_same all a (set row i v) [] less)
    ∙ set-set all a (set row i v) (set (set row i v) j w)
    ∙ ap (set all a) (set_comm row i j v w ne)
    ∙ sym (set-set all a (set row j w) (set (set row j w) i v))
    ∙ ap (λ (r : List T). set (place_set all a j w) a (set r i v)) (sym (get_or-set_same all a (set row j w) [] less)))
    (λ past. ap (λ (x : List (List T)). place_set x a j w) (place_past all a i v past) ∙ place_past all a j w past ∙ sym (place_past all a i v past)
    ∙ ap (λ (x : List (List T)). place_set x a i v) (sym (place_past all a j w past)))
    (cases_lt a (length all))

pub place_comm : {T : Type 0} (all : List (List T)) (a i b j : ℕ) (v w : T) → (a ≡ b → i ≡ j → ⊥) → place_set (place_set all a i v) b j w ≡ place_set (place_set all b j w) a i v
place_comm {T} all a i b j v w apart =
    ⊎_elim
    (λ e. subst (λ (n : ℕ). place_set (place_set all a i v) n j w ≡ place_set (place_set all n j w) a i v) e (one_row all a i j v w (apart e)))
    (λ ne. other_rows all a i b j v w ne)
    (cases_eq a b)

pub place_lens : {T : Type 0} (all : List (List T)) (a i : ℕ) (v : T) → map length (place_set all a i v) ≡ map length all
place_lens all a i v = map-set_same length all a (set (get_or all a []) i v) [] (length-set (get_or all a []) i v)

-- ---- values at places

pub value_set_same : {T : Type 0} (all : List (List T)) (a i : ℕ) (v d : T) → a < length all → i < length (get_or all a []) → value_at (place_set all a i v) a i d ≡ v
value_set_same {T} all a i v d in_all in_row =
    ap (λ (r : List T). get_or r i d) (get_or-set_same all a (set (get_or all a []) i v) [] in_all) ∙ get_or-set_same (get_or all a []) i v d in_row

pub value_set_row : {T : Type 0} (all : List (List T)) (a i b j : ℕ) (v d : T) → b ≢ a → value_at (place_set all a i v) b j d ≡ value_at all b j d
value_set_row {T} all a i b j v d ne = ap (λ (r : List T). get_or r j d) (get_or-set_other all a b (set (get_or all a []) i v) [] ne)

pub value_set_place : {T : Type 0} (all : List (List T)) (a i j : ℕ) (v d : T) → j ≢ i → value_at (place_set all a i v) a j d ≡ value_at all a j d
value_set_place {T} all a i j v d ne =
    ⊎_elim
    (λ less. ap (λ (r : List T). get_or r j d) (get_or-set_same all a (set (get_or all a []) i v) [] less) ∙ get_or-set_other (get_or all a []) i j v d ne)
    (λ past. ap (λ (x : List (List T)). value_at x a j d) (place_past all a i v past))
    (cases_lt a (length all))

pub value_set_other : {T : Type 0} (all : List (List T)) (a i b j : ℕ) (v d : T) → (a ≡ b → i ≡ j → ⊥) → value_at (place_set all a i v) b j d ≡ value_at all b j d
value_set_other {T} all a i b j v d apart =
    ⊎_elim
    (λ e. subst (λ (n : ℕ). value_at (place_set all a i v) n j d ≡ value_at all n j d) e (value_set_place all a i j v d (λ f. apart e (sym f))))
    (λ ne. value_set_row all a i b j v d (λ f. ne (sym f)))
    (cases_eq a b)

-- a place that is there, or isn't
pub own_false : (marks : List (List Bool)) (a i : ℕ) → value_at (place_set marks a i false) a i false ≡ false
own_false marks a i =
    ⊎_elim
    (λ less. ⊎_elim
    (λ inside. value_set_same marks a i false false less inside)
    (λ past. ap (λ (x : List (List Bool)). value_at x a i false) (place_short marks a i false past) ∙ get_or_past (get_or marks a []) i false past)
    (cases_lt i (length (get_or marks a []))))
    (λ past. ap (λ (x : List (List Bool)). value_at x a i false) (place_past marks a i false past) ∙ ap (λ (r : List Bool). get_or r i false) (get_or_past marks a [] past))
    (cases_lt a (length marks))

-- ---- tables

pub table_set : {T : Type 0} (count width : ℕ) (all : List (List T)) (a i : ℕ) (v : T) → IsTable count width all → IsTable count width (place_set all a i v)
table_set count width all a i v shape = record {
  counted = length-set all a (set (get_or all a []) i v) ∙ shape.counted;
  widths = λ k within. sym (len_at (place_set all a i v) k) ∙ ap (λ (ns : List ℕ). get_or ns k 0) (place_lens all a i v) ∙ len_at all k ∙ shape.widths k within;
}
  where
    len_at : {T : Type 0} (xs : List (List T)) (k : ℕ) → get_or (map length xs) k 0 ≡ length (get_or xs k [])
    len_at [] k = refl
    len_at (x ∷ xs) zero = refl
    len_at (x ∷ xs) (suc k) = len_at xs k

pub table_ext : {T : Type 0} (count width : ℕ) (value : ℕ → ℕ → T) (d : T) (xs : List (List T)) → IsTable count width xs
    → ((s f : ℕ) → s < count → f < width → value_at xs s f d ≡ value s f) → xs ≡ table count width value
table_ext {T} count width value d xs shape at =
    ext_get_or [] xs (table count width value) (shape.counted ∙ sym (length-map-range_with_len (λ (s : ℕ). map (value s) (range_with_len 0 width)) 0 count))
    (λ s h. let within : s < count = omega (arith, shape.counted, h) in
    row s within ∙ sym (get_or-map-range_with_len (λ (k : ℕ). map (value k) (range_with_len 0 width)) 0 count s s [] within (omega arith)))
  where
    row : (s : ℕ) → s < count → get_or xs s [] ≡ map (value s) (range_with_len 0 width)
    row s within =
        ext_get_or d (get_or xs s []) (map (value s) (range_with_len 0 width)) (shape.widths s within ∙ sym (length-map-range_with_len (value s) 0 width))
        (λ f h. let inside : f < width = omega (arith, shape.widths s within, h) in
        at s f within inside ∙ sym (get_or-map-range_with_len (value s) 0 width f f d inside (omega arith)))

pub table_shaped : {T : Type 0} (count width : ℕ) (value : ℕ → ℕ → T) → IsTable count width (table count width value)
table_shaped count width value = record {
  counted = length-map-range_with_len (λ (s : ℕ). map (value s) (range_with_len 0 width)) 0 count;
  widths = λ k within. ap length (get_or-map-range_with_len (λ (s : ℕ). map (value s) (range_with_len 0 width)) 0 count k k [] within (omega arith)) ∙ length-map-range_with_len (value k) 0 width;
}

-- one value everywhere
pub replicate_range : {T : Type 0} (n a : ℕ) (x : T) → replicate n x ≡ map (λ (s : ℕ). x) (range_with_len a n)
replicate_range zero a x = refl
replicate_range (suc n) a x = ap (λ (l : List _). x ∷ l) (replicate_range n (a + 1) x)

pub replicate_table : {T : Type 0} (count width : ℕ) (x : T) → replicate count (replicate width x) ≡ table count width (λ s f. x)
replicate_table count width x =
    ap (replicate count) (replicate_range width 0 x) ∙ replicate_range count 0 (map (λ (s : ℕ). x) (range_with_len 0 width))

-- ---- slices of vectors that were written

pub written_back : {X : Type 0} (new old : List X) (n : ℕ) → length new ≡ length old → n ≡ length old → take n (new ++ drop (length new) old) ≡ new
written_back {X} new old n same all =
    take-append-le n new (drop (length new) old) (omega (arith, same, all)) ∙ (let e : n ≡ length new = omega (arith, same, all) in ap (λ (k : ℕ). take k new) e) ∙ take-length new
