-- What the dump of a run says.
use Rattle.std.proofs.Common.{◌≡◌, ℕ, zero, suc, ◌+◌, ◌/◌, ◌%◌, ◌<◌, ◌≤◌, Bool, true, false, cond, List, [], ◌∷◌, ◌++◌, length, map, get_or, Option, Some, None, refl, sym, ap, ◌∙◌, arith, append_assoc}
use Rattle.std.specs.Prelude.{fold, ◌==◌, nat_lt}
use Rattle.std.specs.List.{flat_map, enumerate_from}
use Rattle.std.specs.Str.{bytes_eq}
use Rattle.std.proofs.lemmas.Bool.{eqb-true}
use Rattle.std.proofs.lemmas.Grind.{flat_map-append}
use Rattle.std.proofs.lemmas.List.{append-nil}
use Rattle.std.proofs.lemmas.List.Sums.{fold-append}
use Rattle.lisa_engine.specs.declared.parts.Item.{Item}
use Rattle.vcd_trace.specs.VcdText.{item_code}
use Rattle.vcd_trace.specs.Written.{Variable, Change, Changed}
use Rattle.vcd_trace.specs.Meaning.{Block, item_of, cut, blocks, given, last_value, values_after, changed, time_changes, times_from}
use Rattle.vcd_trace.specs.Traces.{edge_times}
use Rattle.vcd_trace.specs.declared.parts.Event.{Event}
use Rattle.vcd_trace.specs.declared.parts.Event.TheVariants as events
use Rattle.vcd_trace.proofs.CodeLaws.{same_bytes, equal_bytes, is_false}
use Rattle.vcd_trace.proofs.LineParts.{bare_time}
use Rattle.vcd_trace.proofs.RunPieces.{Fit, variables_from, new_value, all_from, some_from, shown, edge_events, run_events}

-- ---- codes

pub codes_apart : (a b : ℕ) → item_code a ≡ item_code b → a ≡ b
codes_apart a b e = go (nat_lt a 94) (nat_lt b 94) refl refl e
  where
    one : (x y : ℕ) → ◌≡◌ {A = List ℕ} ((33 + x) ∷ []) ((33 + y) ∷ []) → x ≡ y
    one x y f = let g : 33 + x ≡ 33 + y = cc in omega (arith, g)

    two : (x y : ℕ) → ◌≡◌ {A = List ℕ} ((33 + x % 94) ∷ (33 + x / 94) ∷ []) ((33 + y % 94) ∷ (33 + y / 94) ∷ []) → x ≡ y
    two x y f =
        let g : 33 + x % 94 ≡ 33 + y % 94 = cc in
        let h : 33 + x / 94 ≡ 33 + y / 94 = cc in
        omega (arith, g, h)

    go : (p q : Bool) → nat_lt a 94 ≡ p → nat_lt b 94 ≡ q
        → cond p ((33 + a) ∷ []) ((33 + a % 94) ∷ (33 + a / 94) ∷ []) ≡ cond q ((33 + b) ∷ []) ((33 + b % 94) ∷ (33 + b / 94) ∷ []) → a ≡ b
    go true true is_p is_q f = one a b f
    go true false is_p is_q f = absurd cc
    go false true is_p is_q f = absurd cc
    go false false is_p is_q f = two a b f

given_here : (place x v : ℕ) → given (item_code place) x (new_value place v) ≡ v
given_here place x v = ap (λ (b : Bool). cond b v x) (equal_bytes (item_code place))

given_apart : (a b x v : ℕ) → (a ≡ b → ⊥) → given (item_code a) x (new_value b v) ≡ x
given_apart a b x v apart = ap (λ (t : Bool). cond t v x) (is_false (bytes_eq (item_code b) (item_code a)) (λ e. apart (sym (codes_apart b a (same_bytes (item_code b) (item_code a) e)))))

-- ---- values of items

all_apart : (k : ℕ) (items : List Item) (vs : List ℕ) (j x : ℕ) → j < k → fold (given (item_code j)) x (all_from k items vs) ≡ x
all_apart k [] vs j x less = refl
all_apart k (item ∷ items) [] j x less = refl
all_apart k (item ∷ items) (v ∷ vs) j x less =
    all_apart (k + 1) items vs j (given (item_code j) x (new_value k v)) (omega arith) ∙ given_apart j k x v (λ e. absurd (omega arith))

some_apart : (k : ℕ) (items : List Item) (before now : List ℕ) (j x : ℕ) → j < k → fold (given (item_code j)) x (some_from k items before now) ≡ x
some_apart k [] before now j x less = refl
some_apart k (item ∷ items) [] now j x less = refl
some_apart k (item ∷ items) (b ∷ bs) [] j x less = refl
some_apart k (item ∷ items) (b ∷ bs) (n ∷ ns) j x less = go (b == n) (λ y. some_apart (k + 1) items bs ns j y (omega arith))
  where
    go : (t : Bool) → ((y : ℕ) → fold (given (item_code j)) y (some_from (k + 1) items bs ns) ≡ y)
        → fold (given (item_code j)) x (cond t (some_from (k + 1) items bs ns) (new_value k n ∷ some_from (k + 1) items bs ns)) ≡ x
    go true rest = rest x
    go false rest = rest (given (item_code j) x (new_value k n)) ∙ given_apart j k x n (λ e. absurd (omega arith))

last_all : (k : ℕ) (items : List Item) (vs : List ℕ) (i x : ℕ) → Fit items vs → i < length items → fold (given (item_code (k + i))) x (all_from k items vs) ≡ get_or vs i 0
last_all k [] vs i x fit within = absurd (omega arith)
last_all k (item ∷ items) [] i x fit within = absurd fit
last_all k (item ∷ items) (v ∷ vs) zero x fit within =
    let e : k + 0 ≡ k = omega arith in
    ap (λ (j : ℕ). fold (given (item_code j)) x (all_from k (item ∷ items) (v ∷ vs))) e
    ∙ all_apart (k + 1) items vs k (given (item_code k) x (new_value k v)) (omega arith) ∙ given_here k x v
last_all k (item ∷ items) (v ∷ vs) (suc i) x fit within =
    let e : k + suc i ≡ k + 1 + i = omega arith in
    ap (λ (j : ℕ). fold (given (item_code j)) x (all_from k (item ∷ items) (v ∷ vs))) e
    ∙ last_all (k + 1) items vs i (given (item_code (k + 1 + i)) x (new_value k v)) fit.2 (omega arith)

last_some : (k : ℕ) (items : List Item) (before now : List ℕ) (i x : ℕ) → Fit items before → Fit items now → i < length items → x ≡ get_or before i 0
    → fold (given (item_code (k + i))) x (some_from k items before now) ≡ get_or now i 0
last_some k [] before now i x fits fit within is = absurd (omega arith)
last_some k (item ∷ items) [] now i x fits fit within is = absurd fits
last_some k (item ∷ items) (b ∷ bs) [] i x fits fit within is = absurd fit
last_some k (item ∷ items) (b ∷ bs) (n ∷ ns) zero x fits fit within is =
    let e : k + 0 ≡ k = omega arith in
    ap (λ (j : ℕ). fold (given (item_code j)) x (some_from k (item ∷ items) (b ∷ bs) (n ∷ ns))) e ∙ go (b == n) (λ f. eqb-true b n f)
  where
    go : (t : Bool) → (t ≡ true → b ≡ n) → fold (given (item_code k)) x (cond t (some_from (k + 1) items bs ns) (new_value k n ∷ some_from (k + 1) items bs ns)) ≡ n
    go true same = some_apart (k + 1) items bs ns k x (omega arith) ∙ is ∙ same refl
    go false same = some_apart (k + 1) items bs ns k (given (item_code k) x (new_value k n)) (omega arith) ∙ given_here k x n
last_some k (item ∷ items) (b ∷ bs) (n ∷ ns) (suc i) x fits fit within is =
    let e : k + suc i ≡ k + 1 + i = omega arith in
    ap (λ (j : ℕ). fold (given (item_code j)) x (some_from k (item ∷ items) (b ∷ bs) (n ∷ ns))) e
    ∙ go (b == n) (λ y same. last_some (k + 1) items bs ns i y fits.2 fit.2 (omega arith) (same ∙ is))
  where
    go : (t : Bool) → ((y : ℕ) → y ≡ x → fold (given (item_code (k + 1 + i))) y (some_from (k + 1) items bs ns) ≡ get_or ns i 0)
        → fold (given (item_code (k + 1 + i))) x (cond t (some_from (k + 1) items bs ns) (new_value k n ∷ some_from (k + 1) items bs ns)) ≡ get_or ns i 0
    go true rest = rest x refl
    go false rest = rest (given (item_code (k + 1 + i)) x (new_value k n)) (given_apart (k + 1 + i) k x n (λ e. absurd (omega arith)))

fit_long : (items : List Item) (vs : List ℕ) → Fit items vs → length vs ≡ length items
fit_long [] [] fit = refl
fit_long [] (v ∷ vs) fit = absurd fit
fit_long (item ∷ items) [] fit = absurd fit
fit_long (item ∷ items) (v ∷ vs) fit = ap suc (fit_long items vs fit.2)

-- the values of all variables, code by code
map_values : (k : ℕ) (items : List Item) (vs : List ℕ) (f : List ℕ → ℕ) → length vs ≡ length items → ((i : ℕ) → i < length items → f (item_code (k + i)) ≡ get_or vs i 0)
    → map (λ v. f v.code) (variables_from k items) ≡ vs
map_values k [] [] f long each = refl
map_values k [] (v ∷ vs) f long each = absurd (omega (arith, long))
map_values k (item ∷ items) [] f long each = absurd (omega (arith, long))
map_values k (item ∷ items) (v ∷ vs) f long each =
    let here : f (item_code k) ≡ v = (let e : k ≡ k + 0 = omega arith in ap (λ (j : ℕ). f (item_code j)) e ∙ each 0 (omega arith)) in
    λ j. here j ∷ map_values (k + 1) items vs f (omega (arith, long)) (λ i within. (let e : k + 1 + i ≡ k + suc i = omega arith in ap (λ (j : ℕ). f (item_code j)) e ∙ each (suc i) (omega arith))) j

pub items_are : (k : ℕ) (items : List Item) → map item_of (variables_from k items) ≡ items
items_are k [] = refl
items_are k (item ∷ items) = ap (λ (l : List Item). item ∷ l) (items_are (k + 1) items)

-- ---- blocks

cut_changes : (cs : List Change) → cut (shown cs) ≡ (cs, [])
cut_changes [] = refl
cut_changes (c ∷ cs) = ap (λ (x : List Change × List Block). (c ∷ x.0, x.1)) (cut_changes cs)

cut_more : (es : List Event) (time : ℕ) (cs : List Change) → cut (es ++ (bare_time time ∷ shown cs)) ≡ ((cut es).0, (cut es).1 ++ (time, cs) ∷ [])
cut_more [] time cs = ap (λ (x : List Change × List Block). ([], (time, x.0) ∷ x.1)) (cut_changes cs)
cut_more (events.Change c ∷ es) time cs = ap (λ (x : List Change × List Block). (c ∷ x.0, x.1)) (cut_more es time cs)
cut_more (events.Time m ∷ es) time cs = ap (λ (x : List Change × List Block). ([], (m.time, x.0) ∷ x.1)) (cut_more es time cs)

abbrev pub run_blocks : List Item → (ℕ → List ℕ) → ℕ → List Block
run_blocks items values zero = (0, all_from 0 items (values 0)) ∷ []
run_blocks items values (suc n) = run_blocks items values n ++ (suc n, some_from 0 items (values n) (values (suc n))) ∷ []

pub blocks_are : (items : List Item) (values : ℕ → List ℕ) (n : ℕ) → blocks (run_events items values n) ≡ run_blocks items values n
blocks_are items values zero =
    ap (λ (es : List Event). blocks (bare_time 0 ∷ es)) (append-nil (shown (all_from 0 items (values 0))))
    ∙ ap (λ (x : List Change × List Block). (0, x.0) ∷ x.1) (cut_changes (all_from 0 items (values 0)))
blocks_are items values (suc n) =
    ap (λ (es : List Event). blocks (bare_time 0 ∷ es)) (sym (append_assoc (shown (all_from 0 items (values 0))) (edge_events items values n) (bare_time (suc n) ∷ shown (some_from 0 items (values n) (values (suc n))))))
    ∙ ap (λ (x : List Change × List Block). (0, x.0) ∷ x.1) (cut_more (shown (all_from 0 items (values 0)) ++ edge_events items values n) (suc n) (some_from 0 items (values n) (values (suc n))))
    ∙ ap (λ (bs : List Block). bs ++ (suc n, some_from 0 items (values n) (values (suc n))) ∷ []) (blocks_are items values n)

-- ---- times

abbrev all_changes : List Block → List Change
all_changes bs = flat_map (λ b. b.1) bs

abbrev last_before : List Variable → Option (List ℕ) → List Change → List Block → Option (List ℕ)
last_before vs before known [] = before
last_before vs before known (b ∷ bs) = last_before vs (Some (values_after vs (known ++ b.1))) (known ++ b.1) bs

times_more : (vs : List Variable) (before : Option (List ℕ)) (known : List Change) (bs : List Block) (time : ℕ) (cs : List Change)
    → times_from vs before known (bs ++ (time, cs) ∷ [])
    ≡ times_from vs before known bs ++ changed time (time_changes (last_before vs before known bs) (values_after vs ((known ++ all_changes bs) ++ cs))) ∷ []
times_more vs before known [] time cs = ap (λ (l : List Change). changed time (time_changes before (values_after vs (l ++ cs))) ∷ []) (sym (append-nil known))
times_more vs before known (b ∷ bs) time cs =
    ap (λ (l : List Changed). changed b.0 (time_changes before (values_after vs (known ++ b.1))) ∷ l)
    (times_more vs (Some (values_after vs (known ++ b.1))) (known ++ b.1) bs time cs
    ∙ ap (λ (l : List Change). times_from vs (Some (values_after vs (known ++ b.1))) (known ++ b.1) bs
    ++ changed time (time_changes (last_before vs (Some (values_after vs (known ++ b.1))) (known ++ b.1) bs) (values_after vs (l ++ cs))) ∷ []) (append_assoc known b.1 (all_changes bs)))

last_more : (vs : List Variable) (before : Option (List ℕ)) (known : List Change) (bs : List Block) (b : Block)
    → last_before vs before known (bs ++ b ∷ []) ≡ Some (values_after vs ((known ++ all_changes bs) ++ b.1))
last_more vs before known [] b = ap (λ (l : List Change). Some (values_after vs (l ++ b.1))) (sym (append-nil known))
last_more vs before known (c ∷ bs) b =
    last_more vs (Some (values_after vs (known ++ c.1))) (known ++ c.1) bs b ∙ ap (λ (l : List Change). Some (values_after vs (l ++ b.1))) (append_assoc known c.1 (all_changes bs))

module _ (items : List Item) (values : ℕ → List ℕ) (n : ℕ) (fit : (k : ℕ) → k ≤ n → Fit items (values k)) where
  known : ℕ → List Change
  known k = all_changes (run_blocks items values k)

  -- the last value of each code is the item's
  each : (k : ℕ) → k ≤ n → (i : ℕ) → i < length items → last_value (all_changes (run_blocks items values k)) (item_code i) ≡ get_or (values k) i 0
  each zero le i within =
      let e : i ≡ 0 + i = omega arith in
      ap (λ (l : List Change). last_value l (item_code i)) (append-nil (all_from 0 items (values 0)))
      ∙ ap (λ (j : ℕ). last_value (all_from 0 items (values 0)) (item_code j)) e ∙ last_all 0 items (values 0) i 0 (fit 0 (omega arith)) within
  each (suc k) le i within =
      let e : i ≡ 0 + i = omega arith in
      let more = some_from 0 items (values k) (values (suc k)) in
      let so_far = last_value (all_changes (run_blocks items values k)) (item_code i) in
      ap (λ (l : List Change). last_value l (item_code i)) (flat_map-append (λ b. b.1) (run_blocks items values k) ((suc k, more) ∷ []) ∙ ap (λ (l : List Change). all_changes (run_blocks items values k) ++ l) (append-nil more))
      ∙ fold-append (given (item_code i)) 0 (all_changes (run_blocks items values k)) more
      ∙ ap (λ (j : ℕ). fold (given (item_code j)) so_far more) e
      ∙ last_some 0 items (values k) (values (suc k)) i so_far (fit k (omega arith)) (fit (suc k) le) within (each k (omega arith) i within)

  values_are_known : (k : ℕ) → k ≤ n → values_after (variables_from 0 items) (all_changes (run_blocks items values k)) ≡ values k
  values_are_known k le =
      map_values 0 items (values k) (λ code. last_value (all_changes (run_blocks items values k)) code) (fit_long items (values k) (fit k le))
      (λ i within. (let e : 0 + i ≡ i = omega arith in ap (λ (j : ℕ). last_value (all_changes (run_blocks items values k)) (item_code j)) e ∙ each k le i within))

  -- with the changes of one more edge
  more_known : (k : ℕ) → suc k ≤ n → values_after (variables_from 0 items) (all_changes (run_blocks items values k) ++ some_from 0 items (values k) (values (suc k))) ≡ values (suc k)
  more_known k le =
      let more = some_from 0 items (values k) (values (suc k)) in
      ap (values_after (variables_from 0 items))
      (sym (flat_map-append (λ b. b.1) (run_blocks items values k) ((suc k, more) ∷ []) ∙ ap (λ (l : List Change). all_changes (run_blocks items values k) ++ l) (append-nil more)))
      ∙ values_are_known (suc k) le

  last_known : (k : ℕ) → k ≤ n → last_before (variables_from 0 items) None [] (run_blocks items values k) ≡ Some (values k)
  last_known zero le = ap (λ (l : List Change). Some (values_after (variables_from 0 items) l)) (sym (append-nil (all_from 0 items (values 0)))) ∙ ap (λ (l : List ℕ). Some l) (values_are_known 0 le)
  last_known (suc k) le =
      last_more (variables_from 0 items) None [] (run_blocks items values k) (suc k, some_from 0 items (values k) (values (suc k)))
      ∙ ap (λ (l : List ℕ). Some l) (more_known k le)

  times_are : (k : ℕ) → k ≤ n → times_from (variables_from 0 items) None [] (run_blocks items values k) ≡ changed 0 (enumerate_from 0 (values 0)) ∷ edge_times values k
  times_are zero le =
      ap (λ (l : List ℕ). changed 0 (enumerate_from 0 l) ∷ []) (ap (values_after (variables_from 0 items)) (sym (append-nil (all_from 0 items (values 0)))) ∙ values_are_known 0 le)
  times_are (suc k) le =
      times_more (variables_from 0 items) None [] (run_blocks items values k) (suc k) (some_from 0 items (values k) (values (suc k)))
      ∙ (λ i. times_are k (omega arith) i ++ changed (suc k) (time_changes (last_known k (omega arith) i) (more_known k le i)) ∷ [])

  pub run_times : times_from (variables_from 0 items) None [] (blocks (run_events items values n)) ≡ changed 0 (enumerate_from 0 (values 0)) ∷ edge_times values n
  run_times = ap (times_from (variables_from 0 items) None []) (blocks_are items values n) ∙ times_are n (omega arith)
