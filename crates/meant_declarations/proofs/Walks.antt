-- A walk along the edges of a graph from all marked nodes at once.
use Rattle.std.proofs.Common.{◌≡◌, ◌≢◌, ◌<◌, ◌≤◌, ◌+◌, ◌||◌, ◌&&◌, ℕ, suc, zero, List, [], ◌∷◌, ◌++◌, Option, None, Some, Bool, true, false, not, cond, nat_eq, nat_lt, length, get_or, set, refl, ap, sym, ◌∙◌, arith, inl, inr, subst, ⊎_elim}
use Rattle.std.proofs.Math.Dec.{eqb-suc-suc, eqb-suc-zero}
use Rattle.std.specs.Option.{is_some, is_none}
use Rattle.std.specs.Global.{Vec}
use Rattle.std.proofs.lemmas.Bool.{cases_Bool, cases_lt, eq-eqb, eqb-true, or_cases, ltb-true, lt-ltb}
use Rattle.std.proofs.lemmas.Bool.Decides.{nat_tests}
use Rattle.std.proofs.lemmas.List.{length_push}
use Rattle.std.proofs.lemmas.List.Sums.{sum_by-set}
use Rattle.graph_paths.specs.Paths.{targets, is_in, Leads, saw}
use Rattle.graph_paths.proofs.Seen.{in-push, saw_past}
use Rattle.least_fixed_points.specs.Settles.{entry, missing}
use Rattle.least_fixed_points.proofs.Entries.{entry_at, entry_past}
use Rattle.meant_declarations.specs.Walks.{Comes, here, onward, IsOrigin, Walked, kept}

-- ---- tables

module _ {T : Type 0} where
  pub entry_push : (table : List (Option T)) (x : Option T) (i : ℕ) → entry (table ++ x ∷ []) i ≡ cond (nat_eq i (length table)) x (entry table i)
  entry_push [] x zero = refl
  entry_push [] x (suc i) = grind (arith, eqb-suc-zero)
  entry_push (y ∷ table) x zero = grind (arith, eqb-suc-zero)
  entry_push (y ∷ table) x (suc i) = entry_push table x i ∙ ap (λ (b : Bool). cond b x (entry table i)) (sym (eqb-suc-suc i (length table)))

  pub entry_set : (table : List (Option T)) (k i : ℕ) (x : Option T) → k < length table → entry (set table k x) i ≡ cond (nat_eq i k) x (entry table i)
  entry_set [] k i x h = absurd (omega arith)
  entry_set (y ∷ table) zero zero x h = refl
  entry_set (y ∷ table) zero (suc i) x h = grind (arith, eqb-suc-zero)
  entry_set (y ∷ table) (suc k) zero x h = grind (arith, eqb-suc-zero)
  entry_set (y ∷ table) (suc k) (suc i) x h = entry_set table k i x (omega arith) ∙ ap (λ (b : Bool). cond b x (entry table i)) (sym (eqb-suc-suc i k))

  pub entry_below : (table : List (Option T)) (i : ℕ) (t : T) → entry table i ≡ Some t → i < length table
  entry_below [] i t e = absurd (cc e)
  entry_below (x ∷ table) zero t e = omega arith
  entry_below (x ∷ table) (suc i) t e = let l = entry_below table i t e in omega arith

pub row_past : (rows : List (Vec ℕ)) (i : ℕ) → length rows ≤ i → targets rows i ≡ []
row_past [] i h = refl
row_past (v ∷ rows) zero h = absurd (omega arith)
row_past (v ∷ rows) (suc i) h = row_past rows i (omega arith)

pub targets_push : (rows : List (Vec ℕ)) (v : Vec ℕ) (i : ℕ) → targets (rows ++ v ∷ []) i ≡ cond (nat_eq i (length rows)) v.items (targets rows i)
targets_push [] v zero = refl
targets_push [] v (suc i) = grind (arith, eqb-suc-zero)
targets_push (w ∷ rows) v zero = grind (arith, eqb-suc-zero)
targets_push (w ∷ rows) v (suc i) = targets_push rows v i ∙ ap (λ (b : Bool). cond b v.items (targets rows i)) (sym (eqb-suc-suc i (length rows)))

pub saw_push : (seen : List Bool) (x : Bool) (i : ℕ) → saw (seen ++ x ∷ []) i ≡ cond (nat_eq i (length seen)) x (saw seen i)
saw_push [] x zero = refl
saw_push [] x (suc i) = grind (arith, eqb-suc-zero)
saw_push (y ∷ seen) x zero = grind (arith, eqb-suc-zero)
saw_push (y ∷ seen) x (suc i) = saw_push seen x i ∙ ap (λ (b : Bool). cond b x (saw seen i)) (sym (eqb-suc-suc i (length seen)))

-- ---- lists that grow by one

module _ {A X : Type 0} (read : List A → ℕ → X) (item : A → X) (pushed : (xs : List A) (a : A) (i : ℕ) → read (xs ++ a ∷ []) i ≡ cond (nat_eq i (length xs)) (item a) (read xs i)) (value : ℕ → X) where
  one_more : (xs : List A) (a : A) (n : ℕ) → length xs ≡ n → ((i : ℕ) → i < n → read xs i ≡ value i) → item a ≡ value n → (i : ℕ) → i < n + 1 → read (xs ++ a ∷ []) i ≡ value i
  one_more xs a n count each new i h = pushed xs a i ∙ ap (λ (k : ℕ). cond (nat_eq i k) (item a) (read xs i)) count ∙ elim (cases_Bool (nat_eq i n)) [
    | inl same ↦ ap (λ (t : Bool). cond t (item a) (read xs i)) same ∙ new ∙ ap value (sym (eqb-true i n same))
    | inr other ↦ ap (λ (t : Bool). cond t (item a) (read xs i)) other ∙ each i (let apart : i ≢ n = λ same. absurd (cc (other, eq-eqb i n same)) in omega (arith, h, apart))
  ]

all_read : {X : Type 0} (read value : ℕ → X) (none : X) (n : ℕ) → ((i : ℕ) → i < n → read i ≡ value i) → ((i : ℕ) → n ≤ i → read i ≡ none) → ((i : ℕ) → n ≤ i → value i ≡ none) → (i : ℕ) → read i ≡ value i
all_read read value none n each past last i = ⊎_elim (λ (h : i < n). each i h) (λ (h : n ≤ i). past i h ∙ sym (last i h)) (cases_lt i n)

-- the same of rows, of marks and of the entries of a table

pub one_more_row : (value : ℕ → List ℕ) (rows : List (Vec ℕ)) (v : Vec ℕ) (n : ℕ) → length rows ≡ n → ((i : ℕ) → i < n → targets rows i ≡ value i) → v.items ≡ value n → (i : ℕ) → i < n + 1 → targets (rows ++ v ∷ []) i ≡ value i
one_more_row value = one_more targets (λ (v : Vec ℕ). v.items) targets_push value

pub all_rows : (value : ℕ → List ℕ) (rows : List (Vec ℕ)) (n : ℕ) → length rows ≡ n → ((i : ℕ) → i < n → targets rows i ≡ value i) → ((i : ℕ) → n ≤ i → value i ≡ []) → (i : ℕ) → targets rows i ≡ value i
all_rows value rows n count each last = all_read (targets rows) value [] n each (λ i h. row_past rows i (omega (arith, h, count))) last

pub one_more_mark : (value : ℕ → Bool) (marks : List Bool) (t : Bool) (n : ℕ) → length marks ≡ n → ((i : ℕ) → i < n → saw marks i ≡ value i) → t ≡ value n → (i : ℕ) → i < n + 1 → saw (marks ++ t ∷ []) i ≡ value i
one_more_mark value = one_more saw (λ (t : Bool). t) saw_push value

pub all_marks : (value : ℕ → Bool) (marks : List Bool) (n : ℕ) → length marks ≡ n → ((i : ℕ) → i < n → saw marks i ≡ value i) → ((i : ℕ) → n ≤ i → value i ≡ false) → (i : ℕ) → saw marks i ≡ value i
all_marks value marks n count each last = all_read (saw marks) value false n each (λ i h. saw_past marks i (omega (arith, h, count))) last

pub one_more_entry : {T : Type 0} (value : ℕ → Option T) (table : List (Option T)) (x : Option T) (n : ℕ) → length table ≡ n → ((i : ℕ) → i < n → entry table i ≡ value i) → x ≡ value n → (i : ℕ) → i < n + 1 → entry (table ++ x ∷ []) i ≡ value i
one_more_entry {T = T} value = one_more entry (λ (x : Option T). x) entry_push value

pub all_entries : {T : Type 0} (value : ℕ → Option T) (table : List (Option T)) (n : ℕ) → length table ≡ n → ((i : ℕ) → i < n → entry table i ≡ value i) → ((i : ℕ) → n ≤ i → value i ≡ None) → (i : ℕ) → entry table i ≡ value i
all_entries value table n count each last = all_read (entry table) value None n each (λ i h. entry_past table i (omega (arith, h, count))) last

-- ---- steps of a walk

left : (x y : Bool) → x ≡ true → (x || y) ≡ true
left x y p = grind arith

right : (x y : Bool) → y ≡ true → (x || y) ≡ true
right x y p = grind arith

both : (x y : Bool) → x ≡ true → y ≡ true → (x && y) ≡ true
both x y p q = grind arith

some_is : (x : Option ℕ) → is_some x ≡ true → (a : ℕ) × (x ≡ Some a)
some_is None h = absurd (cc h)
some_is (Some a) h = (a, refl)

pub kept_twice : (x : Option ℕ) (b c : Bool) (a : ℕ) → kept (kept x b a) c a ≡ kept x (b || c) a
kept_twice (Some x) b c a = refl
kept_twice None true c a = refl
kept_twice None false c a = refl

pub kept_none : (x : Option ℕ) (a : ℕ) → kept x false a ≡ x
kept_none (Some x) a = refl
kept_none None a = refl

pub kept_some : (x : Option ℕ) (b : Bool) (a : ℕ) → is_some (kept x b a) ≡ (is_some x || b)
kept_some (Some x) b a = refl
kept_some None true a = refl
kept_some None false a = refl

-- one more node at the beginning

pub add_marked : (found : List (Option ℕ)) (b : ℕ) → entry (found ++ Some (length found) ∷ []) b ≡ kept (entry found b) (nat_eq b (length found)) b
add_marked found b = entry_push found (Some (length found)) b ∙ elim (cases_Bool (nat_eq b (length found))) [
  | inl same ↦ by (nat_eq b (length found)) (entry found b) same (eqb-true b (length found) same) (entry_past found b (let e : b ≡ length found = eqb-true b (length found) same in omega (arith, e)))
  | inr other ↦ ap (λ (t : Bool). cond t (Some (length found)) (entry found b)) other ∙ sym (kept_none (entry found b) b) ∙ ap (λ (t : Bool). kept (entry found b) t b) (sym other)
]
  where
    by : (t : Bool) (x : Option ℕ) → t ≡ true → b ≡ length found → x ≡ None → cond t (Some (length found)) x ≡ kept x t b
    by true None t e none = ap (λ (k : ℕ). Some k) (sym e)
    by false x t e none = absurd (cc t)
    by t (Some a) on e none = absurd (cc none)

pub add_plain : (found : List (Option ℕ)) (b : ℕ) → entry (found ++ None ∷ []) b ≡ entry found b
add_plain found b = entry_push found None b ∙ elim (cases_Bool (nat_eq b (length found))) [
  | inl same ↦ ap (λ (t : Bool). cond t None (entry found b)) same ∙ sym (entry_past found b (let e : b ≡ length found = eqb-true b (length found) same in omega (arith, e)))
  | inr other ↦ ap (λ (t : Bool). cond t None (entry found b)) other
]

lt_more : (b n : ℕ) → nat_lt b (n + 1) ≡ (nat_lt b n || nat_eq b n)
lt_more b n = grind (arith, nat_tests)

pub begun_entry : (starts : List Bool) (n b : ℕ) (x : Option ℕ) → x ≡ cond (nat_lt b n && saw starts b) (Some b) None → kept x (saw starts n && nat_eq b n) b ≡ cond (nat_lt b (n + 1) && saw starts b) (Some b) None
begun_entry starts n b x e = ap (λ (y : Option ℕ). kept y (saw starts n && nat_eq b n) b) e ∙ elim (cases_Bool (nat_eq b n)) [
  | inl same ↦ (let one : saw starts b ≡ saw starts n = ap (saw starts) (eqb-true b n same) in by (nat_lt b n) (saw starts b) (saw starts n) (nat_eq b n) one same) ∙ ap (λ (t : Bool). cond (t && saw starts b) (Some b) None) (sym (lt_more b n))
  | inr other ↦ off (nat_lt b n && saw starts b) (saw starts n) (nat_eq b n) other ∙ ap (λ (t : Bool). cond (t && saw starts b) (Some b) None) (sym (lt_more b n ∙ ap (λ (t : Bool). nat_lt b n || t) other ∙ no_more (nat_lt b n)))
]
  where
    no_more : (t : Bool) → (t || false) ≡ t
    no_more true = refl
    no_more false = refl

    by : (l s t q : Bool) → s ≡ t → q ≡ true → kept (cond (l && s) (Some b) None) (t && q) b ≡ cond ((l || q) && s) (Some b) None
    by true true t true o e = refl
    by true false true true o e = absurd (cc o)
    by true false false true o e = refl
    by false true true true o e = refl
    by false true false true o e = absurd (cc o)
    by false false true true o e = absurd (cc o)
    by false false false true o e = refl
    by l s t false o e = absurd (cc e)

    off : (l t q : Bool) → q ≡ false → kept (cond l (Some b) None) (t && q) b ≡ cond l (Some b) None
    off l true true e = absurd (cc e)
    off l false q e = kept_none (cond l (Some b) None) b
    off l true false e = kept_none (cond l (Some b) None) b

pub begun_work : (starts : List Bool) (n b : ℕ) (x : Bool) → x ≡ (nat_lt b n && saw starts b) → (x || (saw starts n && nat_eq b n)) ≡ (nat_lt b (n + 1) && saw starts b)
begun_work starts n b x e = elim (cases_Bool (nat_eq b n)) [
  | inl same ↦ (let one : saw starts b ≡ saw starts n = ap (saw starts) (eqb-true b n same) in grind (arith, lt_more b n))
  | inr other ↦ grind (arith, lt_more b n)
]

-- one node, come to before

pub come_before : (found : List (Option ℕ)) (node origin b : ℕ) → is_some (entry found node) ≡ true → entry found b ≡ kept (entry found b) (nat_eq b node) origin
come_before found node origin b on = elim (cases_Bool (nat_eq b node)) [
  | inl same ↦ by (entry found b) (nat_eq b node) (ap (λ (z : ℕ). is_some (entry found z)) (eqb-true b node same) ∙ on)
  | inr other ↦ sym (kept_none (entry found b) origin) ∙ ap (λ (t : Bool). kept (entry found b) t origin) (sym other)
]
  where
    by : (x : Option ℕ) (t : Bool) → is_some x ≡ true → x ≡ kept x t origin
    by None t on = absurd (cc on)
    by (Some a) t on = refl

none_is : (x : Option ℕ) → is_none x ≡ not (is_some x)
none_is None = refl
none_is (Some a) = refl

pub work_before : (found : List (Option ℕ)) (work : List ℕ) (node b : ℕ) → is_some (entry found node) ≡ true → is_in b work ≡ (is_in b work || (nat_eq b node && is_none (entry found b)))
work_before found work node b on = elim (cases_Bool (nat_eq b node)) [
  | inl same ↦ (let is : is_some (entry found b) ≡ true = ap (λ (z : ℕ). is_some (entry found z)) (eqb-true b node same) ∙ on in grind (arith, none_is (entry found b)))
  | inr other ↦ grind arith
]

-- and one that wasn't

pub come_now : (found : List (Option ℕ)) (node origin b : ℕ) → node < length found → is_some (entry found node) ≡ false → entry (set found node (Some origin)) b ≡ kept (entry found b) (nat_eq b node) origin
come_now found node origin b h off = entry_set found node b (Some origin) h ∙ elim (cases_Bool (nat_eq b node)) [
  | inl same ↦ by (entry found b) (nat_eq b node) same (ap (λ (z : ℕ). is_some (entry found z)) (eqb-true b node same) ∙ off)
  | inr other ↦ ap (λ (t : Bool). cond t (Some origin) (entry found b)) other ∙ sym (kept_none (entry found b) origin) ∙ ap (λ (t : Bool). kept (entry found b) t origin) (sym other)
]
  where
    by : (x : Option ℕ) (t : Bool) → t ≡ true → is_some x ≡ false → cond t (Some origin) x ≡ kept x t origin
    by None t on off = refl
    by (Some a) t on off = absurd (cc off)

pub steps_now : (found : List (Option ℕ)) (work : List ℕ) (node origin : ℕ) → node < length found → is_some (entry found node) ≡ false → missing (set found node (Some origin)) + length (work ++ node ∷ []) ≡ missing found + length work
steps_now found work node origin h off =
    let e = sum_by-set (λ (y : Option ℕ). cond (is_some y) 0 1) found node (Some origin) None h in
    let z : ◌≡◌ {A = ℕ} (cond (is_some (get_or found node None)) 0 1) 1 = ap (λ (t : Bool). cond t 0 1) (ap is_some (sym (entry_at found node None h)) ∙ off) in
    let l : length (work ++ node ∷ []) ≡ length work + 1 = length_push work node in
    omega (arith, e, z, l)

pub work_now : (found : List (Option ℕ)) (work : List ℕ) (node b : ℕ) → is_some (entry found node) ≡ false → is_in b (work ++ node ∷ []) ≡ (is_in b work || (nat_eq b node && is_none (entry found b)))
work_now found work node b off = in-push b work node ∙ elim (cases_Bool (nat_eq b node)) [
  | inl same ↦ (let is : is_some (entry found b) ≡ false = ap (λ (z : ℕ). is_some (entry found z)) (eqb-true b node same) ∙ off in grind (arith, none_is (entry found b)))
  | inr other ↦ grind arith
]

module _ (next : List (Vec ℕ)) (starts : List Bool) where
  pub begins : (found : List (Option ℕ)) (work : List ℕ) → length found ≡ length next
      → ((b : ℕ) → entry found b ≡ cond (nat_lt b (length next) && saw starts b) (Some b) None)
      → ((b : ℕ) → is_in b work ≡ (nat_lt b (length next) && saw starts b))
      → Walked next starts found work
  begins found work count f w = record {
    count = count;
    sound = λ b a e. at b a (nat_lt b (length next)) (saw starts b) refl refl (sym (f b) ∙ e);
    works = λ b e. some b (sym (w b) ∙ e);
    begun = λ b h s. some b (both _ _ (lt-ltb b (length next) h) s);
    closed = λ b c e out l. absurd (closed b e out);
  }
    where
      some : (b : ℕ) → (nat_lt b (length next) && saw starts b) ≡ true → is_some (entry found b) ≡ true
      some b e = ap is_some (f b ∙ ap (λ (t : Bool). cond t (Some b) None) e)

      at : (b a : ℕ) (x y : Bool) → nat_lt b (length next) ≡ x → saw starts b ≡ y → ◌≡◌ {A = Option ℕ} (cond (x && y) (Some b) None) (Some a) → (saw starts a ≡ true) × Comes next a b
      at b a true true p q e = let same : b ≡ a = cc e in (subst (λ (z : ℕ). saw starts z ≡ true) same q, here (subst (λ (z : ℕ). z < length next) same (ltb-true b (length next) p)) (sym same))
      at b a true false p q e = absurd (cc e)
      at b a false y p q e = absurd (cc e)

      closed : (b : ℕ) → is_some (entry found b) ≡ true → is_in b work ≡ false → ⊥
      closed b e out = by (nat_lt b (length next) && saw starts b) (sym (w b) ∙ out) (sym (ap is_some (f b)) ∙ e)
        where
          by : (t : Bool) → t ≡ false → is_some (cond t (Some b) None) ≡ true → ⊥
          by true p q = absurd (cc p)
          by false p q = absurd (cc q)

  -- one node is gone on from
  pub goes : (found found' : List (Option ℕ)) (work front work' : List ℕ) (node origin : ℕ) → Walked next starts found work → work ≡ front ++ node ∷ [] → entry found node ≡ Some origin
      → length found' ≡ length found
      → ((b : ℕ) → entry found' b ≡ kept (entry found b) (is_in b (targets next node)) origin)
      → ((b : ℕ) → is_in b work' ≡ (is_in b front || (is_in b (targets next node) && is_none (entry found b))))
      → Walked next starts found' work'
  goes found found' work front work' node origin g split own count f w = record {
    count = count ∙ g.count;
    sound = λ b a e. sound b a (entry found b) (is_in b (targets next node)) refl refl (sym (f b) ∙ e);
    works = λ b e. some b ∙ works b (is_some (entry found b)) refl (sym (w b) ∙ e);
    begun = λ b h s. some b ∙ left _ _ (g.begun b h s);
    closed = λ b c e out l. some c ∙ closed b c (sym (some b) ∙ e) (sym (w b) ∙ out) l;
  }
    where
      split_in : (b : ℕ) → is_in b work ≡ (is_in b front || nat_eq b node)
      split_in b = ap (is_in b) split ∙ in-push b front node

      some : (b : ℕ) → is_some (entry found' b) ≡ (is_some (entry found b) || is_in b (targets next node))
      some b = ap is_some (f b) ∙ kept_some (entry found b) (is_in b (targets next node)) origin

      sound : (b a : ℕ) (x : Option ℕ) (t : Bool) → entry found b ≡ x → is_in b (targets next node) ≡ t → kept x t origin ≡ Some a → (saw starts a ≡ true) × Comes next a b
      sound b a (Some c) t at in_row e = g.sound b a (at ∙ e)
      sound b a None true at in_row e = let r = g.sound node origin own in let same : origin ≡ a = cc e in (subst (λ (z : ℕ). saw starts z ≡ true) same r.0, subst (λ (z : ℕ). Comes next z b) same (onward r.1 in_row))
      sound b a None false at in_row e = absurd (cc e)

      works : (b : ℕ) (t : Bool) → is_some (entry found b) ≡ t → (is_in b front || (is_in b (targets next node) && is_none (entry found b))) ≡ true → (is_some (entry found b) || is_in b (targets next node)) ≡ true
      works b true at e = left _ _ at
      works b false at e = elim (or_cases (is_in b front) (is_in b (targets next node) && is_none (entry found b)) e) [
        | inl old ↦ left _ _ (g.works b (split_in b ∙ left _ _ old))
        | inr new ↦ right _ _ (on_left (is_in b (targets next node)) _ new)
      ]
        where
          on_left : (x y : Bool) → (x && y) ≡ true → x ≡ true
          on_left x y p = grind arith

      closed : (b c : ℕ) → (is_some (entry found b) || is_in b (targets next node)) ≡ true → (is_in b front || (is_in b (targets next node) && is_none (entry found b))) ≡ false → Leads next b c → (is_some (entry found c) || is_in c (targets next node)) ≡ true
      closed b c e out l = elim (cases_Bool (nat_eq b node)) [
        | inl same ↦ right _ _ (subst (λ (k : ℕ). Leads next k c) (eqb-true b node same) l)
        | inr other ↦ left _ _ (g.closed b c (was (entry found b) (is_in b (targets next node)) (is_in b front) e out) (split_in b ∙ not_work (is_in b front) _ (nat_eq b node) out other) l)
      ]
        where
          was : (x : Option ℕ) (t u : Bool) → (is_some x || t) ≡ true → (u || (t && is_none x)) ≡ false → is_some x ≡ true
          was (Some a) t u e o = refl
          was None true u e o = absurd (last u (sym o))
            where
              last : (u : Bool) → false ≡ (u || true) → ⊥
              last true p = absurd (cc p)
              last false p = absurd (cc p)
          was None false u e o = absurd (cc e)

          not_work : (u v t : Bool) → (u || v) ≡ false → t ≡ false → (u || t) ≡ false
          not_work u v t p q = grind arith

  -- a walk that is done
  pub ends : (found : List (Option ℕ)) (work : List ℕ) → Walked next starts found work → length work ≡ 0 → (b : ℕ) → IsOrigin next starts b (entry found b)
  ends found work g none b = at (entry found b) refl
    where
      empty : (work : List ℕ) → length work ≡ 0 → (m : ℕ) → is_in m work ≡ false
      empty [] h m = refl
      empty (x ∷ work) h m = absurd (omega arith)

      come : {a c : ℕ} → saw starts a ≡ true → Comes next a c → is_some (entry found c) ≡ true
      come s (here h same) = subst (λ (z : ℕ). is_some (entry found z) ≡ true) same (g.begun _ h s)
      come s (onward r l) = g.closed _ _ (come s r) (empty work none _) l

      at : (x : Option ℕ) → entry found b ≡ x → IsOrigin next starts b x
      at None e = λ a s r. absurd (cc (sym (ap is_some e) ∙ come s r))
      at (Some a) e = g.sound b a e

pub popped : (work front : List ℕ) (node : ℕ) → work ≡ front ++ node ∷ [] → is_in node work ≡ true
popped work front node split = ap (is_in node) split ∙ in-push node front node ∙ (let self : nat_eq node node ≡ true = eq-eqb node node refl in grind arith)
