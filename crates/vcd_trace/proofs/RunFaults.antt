-- The dump of a run has no fault.
use Rattle.std.proofs.Common.{◌≡◌, ℕ, zero, suc, ◌+◌, ◌^◌, ◌<◌, ◌≤◌, Bool, true, false, cond, List, [], ◌∷◌, ◌++◌, length, map, get_or, Option, Some, None, refl, sym, ap, subst, ◌∙◌, arith}
use Rattle.std.specs.Prelude.{find, fold, count_by, not, nat_lt, nat_le, ◌==◌, ◌||◌, codes}
use Rattle.std.specs.List.{list_any}
use Rattle.std.specs.Option.{option_map, is_none}
use Rattle.std.specs.Str.{bytes_eq}
use Rattle.std.proofs.lemmas.Bool.{eq-eqb, lt-leb, le-ltb}
use Rattle.lisa_engine.specs.declared.parts.Item.{Item}
use Rattle.vcd_trace.specs.VcdText.{item_code}
use Rattle.vcd_trace.specs.Written.{Variable, Change}
use Rattle.vcd_trace.specs.Meaning.{Block, place_of, width_of, blocks}
use Rattle.vcd_trace.specs.VcdFaults.{is_unknown, is_misfit, falls, first_fall, is_too_wide, is_time, first_changes, is_unset, event_place, too_many, or_else, unknown_code, bad_width, not_rising, value_width, no_first, counts, fault_of}
use Rattle.vcd_trace.specs.declared.faults.VcdFault.TheVariants.{UnknownCode, BadWidth, NotRising, ValueWidth, NoFirst, TooMany}
use Rattle.vcd_trace.specs.declared.parts.Event.{Event}
use Rattle.vcd_trace.specs.declared.parts.Event.TheVariants as events
use Rattle.vcd_trace.proofs.CodeLaws.{same_bytes, equal_bytes, is_false}
use Rattle.vcd_trace.proofs.LineParts.{variable_at, bare_time}
use Rattle.vcd_trace.proofs.Pieces.{bare_change, bare}
use Rattle.vcd_trace.proofs.RunPieces.{IsGood, AreGood, Fit, variables_from, new_value, all_from, some_from, shown, edge_events, run_events}
use Rattle.vcd_trace.proofs.BareLaws.{blocks_bare, find_bare, fall_bare, count_bare, any_bare, first_bare}
use Rattle.vcd_trace.proofs.RunMeaning.{codes_apart, blocks_are, run_blocks}

-- ---- codes of variables

-- the variable with a code, among those from a place on
place_there : (k : ℕ) (items : List Item) (i : ℕ) → i < length items → (p : ℕ) × (place_of (variables_from k items) (item_code (k + i)) ≡ Some p)
place_there k [] i within = absurd (omega arith)
place_there k (item ∷ items) zero within =
    let e : k ≡ k + 0 = omega arith in
    (0, ap (λ (b : Bool). cond b (Some 0) (option_map suc (place_of (variables_from (k + 1) items) (item_code (k + 0))))) (ap (λ (j : ℕ). bytes_eq (item_code k) (item_code j)) (sym e) ∙ equal_bytes (item_code k)))
place_there k (item ∷ items) (suc i) within =
    let e : k + suc i ≡ k + 1 + i = omega arith in
    go (bytes_eq (item_code k) (item_code (k + suc i))) (subst (λ (j : ℕ). (p : ℕ) × (place_of (variables_from (k + 1) items) (item_code j) ≡ Some p)) (sym e) (place_there (k + 1) items i (omega arith)))
  where
    go : (b : Bool) → (p : ℕ) × (place_of (variables_from (k + 1) items) (item_code (k + suc i)) ≡ Some p)
        → (p : ℕ) × (cond b (Some 0) (option_map suc (place_of (variables_from (k + 1) items) (item_code (k + suc i)))) ≡ Some p)
    go true h = (0, refl)
    go false h = (suc h.0, ap (option_map suc) h.1)

width_there : (k : ℕ) (items : List Item) (i : ℕ) (d : Item) → i < length items → width_of (variables_from k items) (item_code (k + i)) ≡ (get_or items i d).width
width_there k [] i d within = absurd (omega arith)
width_there k (item ∷ items) zero d within =
    let e : k ≡ k + 0 = omega arith in
    ap (λ (b : Bool). cond b item.width (width_of (variables_from (k + 1) items) (item_code (k + 0)))) (ap (λ (j : ℕ). bytes_eq (item_code k) (item_code j)) (sym e) ∙ equal_bytes (item_code k))
width_there k (item ∷ items) (suc i) d within =
    let e : k + suc i ≡ k + 1 + i = omega arith in
    ap (λ (b : Bool). cond b item.width (width_of (variables_from (k + 1) items) (item_code (k + suc i))))
    (is_false (bytes_eq (item_code k) (item_code (k + suc i))) (λ f. (let g = codes_apart k (k + suc i) (same_bytes (item_code k) (item_code (k + suc i)) f) in absurd (omega (arith, g)))))
    ∙ ap (λ (j : ℕ). width_of (variables_from (k + 1) items) (item_code j)) e ∙ width_there (k + 1) items i d (omega arith)

-- ---- events

find_both : (p : Event → Bool) (xs ys : List Event) → find p xs ≡ None → find p ys ≡ None → find p (xs ++ ys) ≡ None
find_both p [] ys f g = g
find_both p (x ∷ xs) ys f g = go (p x) f (λ h. find_both p xs ys h g)
  where
    go : (b : Bool) → cond b (Some x) (find p xs) ≡ None → (find p xs ≡ None → find p (xs ++ ys) ≡ None) → cond b (Some x) (find p (xs ++ ys)) ≡ None
    go true f rec = absurd cc
    go false f rec = rec f

-- a test fails at each value of an item that fits
abbrev Fails : (Event → Bool) → ℕ → List Item → Type 0
Fails p k items = (i v : ℕ) (d : Item) → i < length items → v < 2 ^ (get_or items i d).width → p (events.Change (new_value (k + i) v)) ≡ false

fails_on : (p : Event → Bool) (k : ℕ) (item : Item) (items : List Item) → Fails p k (item ∷ items) → Fails p (k + 1) items
fails_on p k item items fails i v d within fits =
    let e : k + suc i ≡ k + 1 + i = omega arith in
    subst (λ (j : ℕ). p (events.Change (new_value j v)) ≡ false) e (fails (suc i) v d (omega arith) fits)

fails_here : (p : Event → Bool) (k v : ℕ) (item : Item) (items : List Item) → Fails p k (item ∷ items) → v < 2 ^ item.width → p (events.Change (new_value k v)) ≡ false
fails_here p k v item items fails fits =
    let e : k + 0 ≡ k = omega arith in
    subst (λ (j : ℕ). p (events.Change (new_value j v)) ≡ false) e (fails 0 v item (omega arith) fits)

find_next : (p : Event → Bool) (x : Event) (xs : List Event) → p x ≡ false → find p xs ≡ None → find p (x ∷ xs) ≡ None
find_next p x xs e f = ap (λ (b : Bool). cond b (Some x) (find p xs)) e ∙ f

none_all : (p : Event → Bool) (k : ℕ) (items : List Item) (vs : List ℕ) → Fit items vs → Fails p k items → find p (shown (all_from k items vs)) ≡ None
none_all p k [] vs fit fails = refl
none_all p k (item ∷ items) [] fit fails = refl
none_all p k (item ∷ items) (v ∷ vs) fit fails =
    find_next p (events.Change (new_value k v)) (shown (all_from (k + 1) items vs)) (fails_here p k v item items fails fit.0) (none_all p (k + 1) items vs fit.2 (fails_on p k item items fails))

none_some : (p : Event → Bool) (k : ℕ) (items : List Item) (before now : List ℕ) → Fit items before → Fit items now → Fails p k items → find p (shown (some_from k items before now)) ≡ None
none_some p k [] before now fits fit fails = refl
none_some p k (item ∷ items) [] now fits fit fails = refl
none_some p k (item ∷ items) (b ∷ bs) [] fits fit fails = refl
none_some p k (item ∷ items) (b ∷ bs) (n ∷ ns) fits fit fails = go (b == n) (none_some p (k + 1) items bs ns fits.2 fit.2 (fails_on p k item items fails))
  where
    go : (t : Bool) → find p (shown (some_from (k + 1) items bs ns)) ≡ None → find p (shown (cond t (some_from (k + 1) items bs ns) (new_value k n ∷ some_from (k + 1) items bs ns))) ≡ None
    go true rest = rest
    go false rest = find_next p (events.Change (new_value k n)) (shown (some_from (k + 1) items bs ns)) (fails_here p k n item items fails fit.0) rest

module _ (items : List Item) (values : ℕ → List ℕ) (n : ℕ) (good : AreGood items) (fit : (k : ℕ) → k ≤ n → Fit items (values k)) where
  none_edges : (p : Event → Bool) → ((t : ℕ) → p (bare_time t) ≡ false) → Fails p 0 items → (k : ℕ) → k ≤ n → find p (edge_events items values k) ≡ None
  none_edges p timed fails zero le = refl
  none_edges p timed fails (suc k) le =
      find_both p (edge_events items values k) (bare_time (suc k) ∷ shown (some_from 0 items (values k) (values (suc k)))) (none_edges p timed fails k (omega arith))
      (find_next p (bare_time (suc k)) (shown (some_from 0 items (values k) (values (suc k)))) (timed (suc k))
      (none_some p 0 items (values k) (values (suc k)) (fit k (omega arith)) (fit (suc k) le) fails))

  none_run : (p : Event → Bool) → ((t : ℕ) → p (bare_time t) ≡ false) → Fails p 0 items → find p (run_events items values n) ≡ None
  none_run p timed fails =
      find_next p (bare_time 0) (shown (all_from 0 items (values 0)) ++ edge_events items values n) (timed 0)
      (find_both p (shown (all_from 0 items (values 0))) (edge_events items values n) (none_all p 0 items (values 0) (fit 0 (omega arith)) fails) (none_edges p timed fails n (omega arith)))

  unknown_fails : Fails (is_unknown (variables_from 0 items)) 0 items
  unknown_fails i v d within fits = ap (λ (o : Option ℕ). is_none o) (place_there 0 items i within).1

  wide_fails : Fails (is_too_wide (variables_from 0 items)) 0 items
  wide_fails i v d within fits = ap (λ (w : ℕ). nat_le (2 ^ w) v) (width_there 0 items i d within) ∙ lt-leb (2 ^ (get_or items i d).width) v fits

  -- ---- times

  -- the time before what follows
  abbrev last_time : Option ℕ → List Event → Option ℕ
  last_time before [] = before
  last_time before (events.Change c ∷ es) = last_time before es
  last_time before (events.Time m ∷ es) = last_time (Some m.time) es

  fall_both : (before : Option ℕ) (xs ys : List Event) → first_fall before xs ≡ None → first_fall (last_time before xs) ys ≡ None → first_fall before (xs ++ ys) ≡ None
  fall_both before [] ys f g = g
  fall_both before (events.Change c ∷ xs) ys f g = fall_both before xs ys f g
  fall_both before (events.Time m ∷ xs) ys f g = go (falls before m.time) f (λ h. fall_both (Some m.time) xs ys h g)
    where
      go : (b : Bool) → cond b (Some m.at) (first_fall (Some m.time) xs) ≡ None → (first_fall (Some m.time) xs ≡ None → first_fall (Some m.time) (xs ++ ys) ≡ None)
          → cond b (Some m.at) (first_fall (Some m.time) (xs ++ ys)) ≡ None
      go true f rec = absurd cc
      go false f rec = rec f

  fall_shown : (before : Option ℕ) (cs : List Change) → first_fall before (shown cs) ≡ None
  fall_shown before [] = refl
  fall_shown before (c ∷ cs) = fall_shown before cs

  last_shown : (before : Option ℕ) (cs : List Change) (es : List Event) → last_time before (shown cs ++ es) ≡ last_time before es
  last_shown before [] es = refl
  last_shown before (c ∷ cs) es = last_shown before cs es

  last_both : (before : Option ℕ) (xs ys : List Event) → last_time before (xs ++ ys) ≡ last_time (last_time before xs) ys
  last_both before [] ys = refl
  last_both before (events.Change c ∷ xs) ys = last_both before xs ys
  last_both before (events.Time m ∷ xs) ys = last_both (Some m.time) xs ys

  last_none : (before : Option ℕ) (cs : List Change) → last_time before (shown cs) ≡ before
  last_none before [] = refl
  last_none before (c ∷ cs) = last_none before cs

  last_edges : (k : ℕ) → last_time (Some 0) (edge_events items values k) ≡ Some k
  last_edges zero = refl
  last_edges (suc k) =
      last_both (Some 0) (edge_events items values k) (bare_time (suc k) ∷ shown (some_from 0 items (values k) (values (suc k))))
      ∙ last_none (Some (suc k)) (some_from 0 items (values k) (values (suc k)))

  fall_edges : (k : ℕ) → first_fall (Some 0) (edge_events items values k) ≡ None
  fall_edges zero = refl
  fall_edges (suc k) =
      fall_both (Some 0) (edge_events items values k) (bare_time (suc k) ∷ shown (some_from 0 items (values k) (values (suc k)))) (fall_edges k)
      (ap (λ (o : Option ℕ). first_fall o (bare_time (suc k) ∷ shown (some_from 0 items (values k) (values (suc k))))) (last_edges k)
      ∙ ap (λ (b : Bool). cond b (Some 0) (first_fall (Some (suc k)) (shown (some_from 0 items (values k) (values (suc k)))))) (lt-leb (suc k) k (omega arith))
      ∙ fall_shown (Some (suc k)) (some_from 0 items (values k) (values (suc k))))

  fall_run : first_fall None (run_events items values n) ≡ None
  fall_run =
      fall_both (Some 0) (shown (all_from 0 items (values 0))) (edge_events items values n) (fall_shown (Some 0) (all_from 0 items (values 0)))
      (ap (λ (o : Option ℕ). first_fall o (edge_events items values n)) (last_none (Some 0) (all_from 0 items (values 0))) ∙ fall_edges n)

  -- ---- how many times

  count_both : (a : ℕ) (xs ys : List Event) → fold (λ (a : ℕ) (x : Event). a + cond (is_time x) 1 0) a (xs ++ ys)
      ≡ fold (λ (a : ℕ) (x : Event). a + cond (is_time x) 1 0) (fold (λ (a : ℕ) (x : Event). a + cond (is_time x) 1 0) a xs) ys
  count_both a [] ys = refl
  count_both a (x ∷ xs) ys = count_both (a + cond (is_time x) 1 0) xs ys

  count_shown : (a : ℕ) (cs : List Change) → fold (λ (a : ℕ) (x : Event). a + cond (is_time x) 1 0) a (shown cs) ≡ a
  count_shown a [] = refl
  count_shown a (c ∷ cs) = let e : a + 0 ≡ a = omega arith in count_shown (a + 0) cs ∙ e

  count_edges : (a k : ℕ) → fold (λ (a : ℕ) (x : Event). a + cond (is_time x) 1 0) a (edge_events items values k) ≡ a + k
  count_edges a zero = omega arith
  count_edges a (suc k) =
      let e : a + k + 1 ≡ a + suc k = omega arith in
      count_both a (edge_events items values k) (bare_time (suc k) ∷ shown (some_from 0 items (values k) (values (suc k))))
      ∙ ap (λ (b : ℕ). fold (λ (a : ℕ) (x : Event). a + cond (is_time x) 1 0) (b + 1) (shown (some_from 0 items (values k) (values (suc k))))) (count_edges a k)
      ∙ count_shown (a + k + 1) (some_from 0 items (values k) (values (suc k))) ∙ e

  count_run : count_by is_time (run_events items values n) ≡ 1 + n
  count_run =
      count_both 1 (shown (all_from 0 items (values 0))) (edge_events items values n)
      ∙ ap (λ (b : ℕ). fold (λ (a : ℕ) (x : Event). a + cond (is_time x) 1 0) b (edge_events items values n)) (count_shown 1 (all_from 0 items (values 0)))
      ∙ count_edges 1 n

  -- ---- the first values

  first_blocks : (k : ℕ) → (bs : List Block) × (run_blocks items values k ≡ (0, all_from 0 items (values 0)) ∷ bs)
  first_blocks zero = ([], refl)
  first_blocks (suc k) = let h = first_blocks k in (h.0 ++ (suc k, some_from 0 items (values k) (values (suc k))) ∷ [], ap (λ (l : List Block). l ++ (suc k, some_from 0 items (values k) (values (suc k))) ∷ []) h.1)

  -- each variable has a value among all
  set_there : (k j : ℕ) (its : List Item) (vs : List ℕ) → Fit its vs → j < length its → list_any (λ c. bytes_eq c.code (item_code (k + j))) (all_from k its vs) ≡ true
  set_there k j [] vs fits within = absurd (omega arith)
  set_there k j (item ∷ its) [] fits within = absurd fits
  set_there k zero (item ∷ its) (v ∷ vs) fits within =
      let e : k ≡ k + 0 = omega arith in
      ap (λ (b : Bool). b || list_any (λ c. bytes_eq c.code (item_code (k + 0))) (all_from (k + 1) its vs)) (ap (λ (i : ℕ). bytes_eq (item_code k) (item_code i)) (sym e) ∙ equal_bytes (item_code k))
  set_there k (suc j) (item ∷ its) (v ∷ vs) fits within =
      let e : k + suc j ≡ k + 1 + j = omega arith in
      go (bytes_eq (item_code k) (item_code (k + suc j))) (ap (λ (i : ℕ). list_any (λ c. bytes_eq c.code (item_code i)) (all_from (k + 1) its vs)) e ∙ set_there (k + 1) j its vs fits.2 (omega arith))
    where
      go : (b : Bool) → list_any (λ c. bytes_eq c.code (item_code (k + suc j))) (all_from (k + 1) its vs) ≡ true → (b || list_any (λ c. bytes_eq c.code (item_code (k + suc j))) (all_from (k + 1) its vs)) ≡ true
      go true h = refl
      go false h = h

-- ---- variables

find_variables : (p : Variable → Bool) (k : ℕ) (items : List Item) → ((i : ℕ) (d : Item) → i < length items → p (variable_at (k + i, get_or items i d)) ≡ false) → find p (variables_from k items) ≡ None
find_variables p k [] each = refl
find_variables p k (item ∷ items) each =
    let e : k + 0 ≡ k = omega arith in
    ap (λ (b : Bool). cond b (Some (variable_at (k, item))) (find p (variables_from (k + 1) items))) (subst (λ (j : ℕ). p (variable_at (j, item)) ≡ false) e (each 0 item (omega arith)))
    ∙ find_variables p (k + 1) items (λ i d within. (let f : k + suc i ≡ k + 1 + i = omega arith in subst (λ (j : ℕ). p (variable_at (j, get_or items i d)) ≡ false) f (each (suc i) d (omega arith))))

good_at : (items : List Item) (i : ℕ) (d : Item) → AreGood items → i < length items → IsGood (get_or items i d)
good_at [] i d good within = absurd (omega arith)
good_at (item ∷ items) zero d good within = good.0
good_at (item ∷ items) (suc i) d good within = good_at items i d good.1 (omega arith)

length-variables : (k : ℕ) (items : List Item) → length (variables_from k items) ≡ length items
length-variables k [] = refl
length-variables k (item ∷ items) = ap suc (length-variables (k + 1) items)

module _ (items : List Item) (values : ℕ → List ℕ) (n : ℕ) (good : AreGood items) (fit : (k : ℕ) → k ≤ n → Fit items (values k)) (few : length items ≤ 8192) (short : n ≤ 10000)
    (es : List Event) (is : map bare es ≡ run_events items values n) where
  misfit_none : find (is_misfit (variables_from 0 items)) (variables_from 0 items) ≡ None
  misfit_none = find_variables (is_misfit (variables_from 0 items)) 0 items each
    where
      each : (i : ℕ) (d : Item) → i < length items → is_misfit (variables_from 0 items) (variable_at (0 + i, get_or items i d)) ≡ false
      each i d within =
          let h = good_at items i d good within in
          let a : nat_lt (get_or items i d).width 1 ≡ false = le-ltb (get_or items i d).width 1 h.some in
          let b : nat_lt 64 (get_or items i d).width ≡ false = le-ltb 64 (get_or items i d).width h.most in
          let c : ((get_or items i d).width == width_of (variables_from 0 items) (item_code (0 + i))) ≡ true = eq-eqb (get_or items i d).width (width_of (variables_from 0 items) (item_code (0 + i))) (sym (width_there 0 items i d within)) in
          λ j. (a j || b j || not (c j))

  unset_none : find (is_unset (first_changes (blocks es))) (variables_from 0 items) ≡ None
  unset_none = find_variables (is_unset (first_changes (blocks es))) 0 items each
    where
      first : map bare_change (first_changes (blocks es)) ≡ all_from 0 items (values 0)
      first =
          let h = first_blocks items values n good fit n in
          sym (first_bare (blocks es)) ∙ ap first_changes (sym (blocks_bare es) ∙ ap blocks is ∙ blocks_are items values n ∙ h.1)

      each : (i : ℕ) (d : Item) → i < length items → is_unset (first_changes (blocks es)) (variable_at (0 + i, get_or items i d)) ≡ false
      each i d within =
          ap not (sym (any_bare (item_code (0 + i)) (first_changes (blocks es))) ∙ ap (list_any (λ c. bytes_eq c.code (item_code (0 + i)))) first
          ∙ set_there items values n good fit 0 i items (values 0) (fit 0 (omega arith)) within)

  many_none : (what : List ℕ) (count limit : ℕ) → count ≤ limit → too_many what count limit ≡ None
  many_none what count limit le = ap (λ (b : Bool). cond b (Some (TooMany what count limit)) None) (le-ltb limit count le)

  pub fault_none : fault_of (variables_from 0 items) es ≡ None
  fault_none =
      let unknown : unknown_code (variables_from 0 items) es ≡ None = ap (option_map (λ (e : Event). UnknownCode (event_place e))) (find_bare (is_unknown (variables_from 0 items)) same_unknown es (ap (find (is_unknown (variables_from 0 items))) is ∙ none_run items values n good fit (is_unknown (variables_from 0 items)) (λ t. refl) (unknown_fails items values n good fit))) in
      let misfit : bad_width (variables_from 0 items) ≡ None = ap (option_map (λ (v : Variable). BadWidth v.name v.width)) misfit_none in
      let rising : not_rising es ≡ None = ap (option_map NotRising) (fall_bare None es (ap (first_fall None) is ∙ fall_run items values n good fit)) in
      let wide : value_width (variables_from 0 items) es ≡ None = ap (option_map (λ (e : Event). ValueWidth (event_place e))) (find_bare (is_too_wide (variables_from 0 items)) same_wide es (ap (find (is_too_wide (variables_from 0 items))) is ∙ none_run items values n good fit (is_too_wide (variables_from 0 items)) (λ t. refl) (wide_fails items values n good fit))) in
      let unset : no_first (variables_from 0 items) es ≡ None = ap (option_map (λ (v : Variable). NoFirst v.name)) unset_none in
      let long : count_by is_time es ≤ 10001 = omega (arith, count_bare es, ap (count_by is_time) is, count_run items values n good fit) in
      let many : counts (variables_from 0 items) es ≡ None = (λ i. or_else (many_none (codes "items") (length (variables_from 0 items)) 8192 (omega (arith, length-variables 0 items)) i) (many_none (codes "times") (count_by is_time es) 10001 long i)) in
      λ i. or_else (unknown i) (or_else (misfit i) (or_else (rising i) (or_else (wide i) (or_else (unset i) (many i)))))
    where
      same_unknown : (e : Event) → is_unknown (variables_from 0 items) (bare e) ≡ is_unknown (variables_from 0 items) e
      same_unknown (events.Time m) = refl
      same_unknown (events.Change c) = refl

      same_wide : (e : Event) → is_too_wide (variables_from 0 items) (bare e) ≡ is_too_wide (variables_from 0 items) e
      same_wide (events.Time m) = refl
      same_wide (events.Change c) = refl
