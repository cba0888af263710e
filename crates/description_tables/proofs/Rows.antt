-- Rows of numbers that others are joined to.
use Rattle.std.proofs.Common.{◌≡◌, ◌<◌, ◌≤◌, ◌+◌, ◌-◌, ℕ, zero, suc, List, [], ◌∷◌, ◌++◌, Bool, true, false, cond, nat_eq, length, get_or, set, take, refl, ap, sym, ◌∙◌, subst, arith, append-nil, append_assoc}
use Rattle.std.specs.Prelude.{slice_index}
use Rattle.std.specs.List.{dedup, dedup_from}
use Rattle.std.specs.Global.{Vec}
use Rattle.std.proofs.Math.Dec.{eqb-suc-suc, eqb-suc-zero}
use Rattle.std.proofs.lemmas.Bool.{ne_eqb}
use Rattle.std.proofs.lemmas.Grind.{take_at_read}
use Rattle.graph_paths.specs.Paths.{targets}
use Rattle.lisa_tree.specs.Descriptions.{DescriptionTree}
use Rattle.lisa_tree.specs.Operations.{is_alias}
use Rattle.lisa_tree.specs.Declarations.{listings}
use Rattle.description_tables.specs.Laws.{Chosen, above_chosen, ends_in, Joins}

pub row_none : (rows : List (Vec ℕ)) (v : Vec ℕ) (o : ℕ) → v.items ≡ [] → targets rows o ≡ [] → targets (rows ++ v ∷ []) o ≡ []
row_none [] v zero empty none = empty
row_none [] v (suc o) empty none = refl
row_none (w ∷ rows) v zero empty none = none
row_none (w ∷ rows) v (suc o) empty none = row_none rows v o empty none

-- ---- numbers, each once

ends_later : (k y : ℕ) (ys : List ℕ) (x : ℕ) → ends_in (k ∷ dedup_from nat_eq y ys) x ≡ ends_in (dedup_from nat_eq y ys) x
ends_later k y [] x = refl
ends_later k y (z ∷ zs) x = by (nat_eq z y) (ends_later k y zs x)
  where
    by : (b : Bool) → ends_in (k ∷ dedup_from nat_eq y zs) x ≡ ends_in (dedup_from nat_eq y zs) x
        → ends_in (k ∷ cond b (dedup_from nat_eq y zs) (y ∷ dedup_from nat_eq z zs)) x ≡ ends_in (cond b (dedup_from nat_eq y zs) (y ∷ dedup_from nat_eq z zs)) x
    by true e = e
    by false e = refl

abbrev with_one : List ℕ → ℕ → List ℕ
with_one xs x = cond (ends_in xs x) xs (xs ++ x ∷ [])

with_first : (k : ℕ) (xs : List ℕ) (x : ℕ) → ends_in (k ∷ xs) x ≡ ends_in xs x → k ∷ with_one xs x ≡ with_one (k ∷ xs) x
with_first k xs x e = by (ends_in xs x) ∙ ap (λ (b : Bool). cond b (k ∷ xs) (k ∷ xs ++ x ∷ [])) (sym e)
  where
    by : (b : Bool) → k ∷ cond b xs (xs ++ x ∷ []) ≡ cond b (k ∷ xs) (k ∷ xs ++ x ∷ [])
    by true = refl
    by false = refl

one_from : (k : ℕ) (ys : List ℕ) (x : ℕ) → dedup_from nat_eq k (ys ++ x ∷ []) ≡ with_one (dedup_from nat_eq k ys) x
one_from k [] x = refl
one_from k (y ∷ ys) x = by (nat_eq y k) (one_from k ys x) (one_from y ys x)
  where
    by : (b : Bool) → dedup_from nat_eq k (ys ++ x ∷ []) ≡ with_one (dedup_from nat_eq k ys) x → dedup_from nat_eq y (ys ++ x ∷ []) ≡ with_one (dedup_from nat_eq y ys) x
        → cond b (dedup_from nat_eq k (ys ++ x ∷ [])) (k ∷ dedup_from nat_eq y (ys ++ x ∷ [])) ≡ with_one (cond b (dedup_from nat_eq k ys) (k ∷ dedup_from nat_eq y ys)) x
    by true same other = same
    by false same other = ap (λ (zs : List ℕ). k ∷ zs) other ∙ with_first k (dedup_from nat_eq y ys) x (ends_later k y ys x)

one_more : (all : List ℕ) (x : ℕ) → dedup nat_eq (all ++ x ∷ []) ≡ with_one (dedup nat_eq all) x
one_more [] x = refl
one_more (k ∷ ys) x = one_from k ys x

pub known : (row : List ℕ) (x : ℕ) → ends_in row x ≡ true → Joins row row (x ∷ [])
known row x e all is = is ∙ ap (λ (b : Bool). cond b (dedup nat_eq all) (dedup nat_eq all ++ x ∷ [])) (sym e ∙ ap (λ (r : List ℕ). ends_in r x) is) ∙ sym (one_more all x)

pub pushed : (row : List ℕ) (x : ℕ) → ends_in row x ≡ false → Joins row (row ++ x ∷ []) (x ∷ [])
pushed row x e all is = ap (λ (r : List ℕ). r ++ x ∷ []) is ∙ ap (λ (b : Bool). cond b (dedup nat_eq all) (dedup nat_eq all ++ x ∷ [])) (sym e ∙ ap (λ (r : List ℕ). ends_in r x) is) ∙ sym (one_more all x)

pub ends_at : (xs : List ℕ) (x : ℕ) → 0 < length xs → ends_in xs x ≡ nat_eq x (slice_index xs (length xs - 1))
ends_at [] x h = absurd (omega arith)
ends_at (y ∷ []) x h = refl
ends_at (y ∷ z ∷ rest) x h =
    let place : suc (length (z ∷ rest) - 1) ≡ length (y ∷ z ∷ rest) - 1 = omega arith in
    ends_at (z ∷ rest) x (omega arith) ∙ ap (λ (i : ℕ). nat_eq x (slice_index (y ∷ z ∷ rest) i)) place

pub none : (row : List ℕ) → Joins row row []
none row all is = is ∙ ap (dedup nat_eq) (sym (append-nil all))

pub both : (old mid new xs ys : List ℕ) → Joins old mid xs → Joins mid new ys → Joins old new (xs ++ ys)
both old mid new xs ys f g all is = g (all ++ xs) (f all is) ∙ ap (dedup nat_eq) (append_assoc all xs ys)

-- ---- what an operation lists

not_listed : (b : Bool) (row : List ℕ) (owner : ℕ) → b ≡ false → Joins row row (cond b (owner ∷ []) [])
not_listed b row owner e = subst (λ (a : Bool). Joins row row (cond a (owner ∷ []) [])) (sym e) (none row)

pub row_joined : (rows : List (Vec ℕ)) (number owner : ℕ) (old new : Vec ℕ) (o : ℕ) → number < length rows → old ≡ get_or rows number old → Joins old.items new.items (owner ∷ [])
    → Joins (targets rows o) (targets (set rows number new) o) (listings owner o (number ∷ []))
row_joined [] number owner old new o h is e = absurd (omega arith)
row_joined (v ∷ rows) zero owner old new zero h is e = λ all f. e all (ap (λ (w : Vec ℕ). w.items) is ∙ f)
row_joined (v ∷ rows) zero owner old new (suc o) h is e = not_listed (nat_eq 0 (suc o)) (targets rows o) owner (ne_eqb 0 (suc o) (λ f. absurd (cc f)))
row_joined (v ∷ rows) (suc number) owner old new zero h is e = not_listed (nat_eq (suc number) 0) v.items owner (eqb-suc-zero number)
row_joined (v ∷ rows) (suc number) owner old new (suc o) h is e =
    subst (λ (b : Bool). Joins (targets rows o) (targets (set rows number new) o) (cond b (owner ∷ []) [])) (sym (eqb-suc-suc number o))
    (row_joined rows number owner old new o (omega arith) is e)

pub listings-append : (p o : ℕ) (xs ys : List ℕ) → listings p o (xs ++ ys) ≡ listings p o xs ++ listings p o ys
listings-append p o [] ys = refl
listings-append p o (x ∷ xs) ys = by (nat_eq x o) _ _ _ (listings-append p o xs ys)
  where
    by : (b : Bool) (both one other : List ℕ) → both ≡ one ++ other → cond b (p ∷ both) both ≡ cond b (p ∷ one) one ++ other
    by true both one other e = ap (λ (zs : List ℕ). p ∷ zs) e
    by false both one other e = e

pub above-append : (d : DescriptionTree) (o : ℕ) (xs ys : List Chosen) → above_chosen d o (xs ++ ys) ≡ above_chosen d o xs ++ above_chosen d o ys
above-append d o [] ys = refl
above-append d o (c ∷ xs) ys =
    let here = cond (is_alias d c.operation) [] (listings c.operation o c.alternatives) in
    ap (λ (zs : List ℕ). here ++ zs) (above-append d o xs ys) ∙ sym (append_assoc here (above_chosen d o xs) (above_chosen d o ys))

-- what was joined for one more number, or choice
pub listings_step : (p o : ℕ) (xs : List ℕ) (i : ℕ) (old mid new : List ℕ) → i < length xs → Joins old mid (listings p o (take i xs))
    → Joins mid new (listings p o (get_or xs i 0 ∷ [])) → Joins old new (listings p o (take (i + 1) xs))
listings_step p o xs i old mid new h was added =
    let more : listings p o (take i xs) ++ listings p o (get_or xs i 0 ∷ []) ≡ listings p o (take (i + 1) xs)
    = sym (listings-append p o (take i xs) (get_or xs i 0 ∷ [])) ∙ ap (listings p o) (sym ((take_at_read xs i 0 h).1)) in
    subst (Joins old new) more (both old mid new _ _ was added)

pub above_step : (d : DescriptionTree) (o : ℕ) (xs : List Chosen) (i : ℕ) (x : Chosen) (old new : List ℕ) → i < length xs → x ≡ get_or xs i x → old ≡ dedup nat_eq (above_chosen d o (take i xs))
    → Joins old new (above_chosen d o (x ∷ [])) → new ≡ dedup nat_eq (above_chosen d o (take (i + 1) xs))
above_step d o xs i x old new h is was added =
    added (above_chosen d o (take i xs)) was
    ∙ ap (dedup nat_eq) (sym (above-append d o (take i xs) (x ∷ [])) ∙ ap (above_chosen d o) (ap (λ (y : Chosen). take i xs ++ y ∷ []) is ∙ sym ((take_at_read xs i x h).1)))

pub row_past : (rows : List (Vec ℕ)) (o : ℕ) → length rows ≤ o → targets rows o ≡ []
row_past [] o h = refl
row_past (v ∷ rows) zero h = absurd (omega arith)
row_past (v ∷ rows) (suc o) h = row_past rows o (omega arith)
