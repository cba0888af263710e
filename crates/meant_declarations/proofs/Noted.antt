-- Which operations declare each name.
use Rattle.std.proofs.Common.{◌≡◌, ◌||◌, ◌&&◌, ◌++◌, ◌<◌, ◌+◌, ℕ, Bool, true, false, cond, List, [], ◌∷◌, Option, None, Some, nat_eq, length, take, get_or, refl, sym, ap, ◌∙◌, arith}
use Rattle.std.specs.BTreeMap.{BTreeMap}
use Rattle.std.specs.BTreeMap as tree
use Rattle.std.specs.BTreeSet.{BTreeSet}
use Rattle.std.specs.BTreeSet as sorted
use Rattle.std.specs.Cmp.Lexicographic.{slice_cmp, nat_list_eq_equiv}
use Rattle.std.specs.Ordering.{is_eq, nat_cmp}
use Rattle.std.specs.Str.{bytes_eq}
use Rattle.std.specs.Global.{Vec}
use Rattle.std.proofs.lemmas.Bool.{eq-eqb, eqb-true}
use Rattle.std.proofs.lemmas.List.Folds.{list_any-append, list_any_more}
use Rattle.std.proofs.lemmas.Map.Text.{is_eq-slice_cmp}
use Rattle.std.proofs.lemmas.Slice.Eq.{bytes_eq-Decides}
use Rattle.graph_paths.specs.Paths.{is_in}
use Rattle.meant_declarations.specs.Declaring.{row_of, items_of, noted_for, behind_if, has}

-- ---- what is noted for names

row_put : (table more : BTreeMap (List ℕ) (Vec ℕ)) (name : List ℕ) (row : Option (Vec ℕ)) → tree.Updates (slice_cmp nat_cmp) table more name row
    → (n : List ℕ) → row_of more n ≡ cond (bytes_eq n name) row (row_of table n)
row_put table more name row updates n = updates.0 n ∙ ap (λ b. cond b row (row_of table n)) (is_eq-slice_cmp name n ∙ nat_list_eq_equiv.symm name n)

pub entered : (table more : BTreeMap (List ℕ) (Vec ℕ)) (name : List ℕ) (row : Vec ℕ) → row_of table name ≡ None → row.items ≡ [] → tree.Updates (slice_cmp nat_cmp) table more name (Some row)
    → (n : List ℕ) → noted_for more n ≡ noted_for table n
entered table more name row none empty updates n = ap items_of (row_put table more name (Some row) updates n) ∙ go (bytes_eq n name) refl
  where
    go : (b : Bool) → bytes_eq n name ≡ b → items_of (cond b (Some row) (row_of table n)) ≡ noted_for table n
    go true same = empty ∙ sym (ap (noted_for table) ((bytes_eq-Decides n name).0 same) ∙ ap items_of none)
    go false other = refl

pub appended : (table more : BTreeMap (List ℕ) (Vec ℕ)) (name : List ℕ) (p : ℕ) (before after : Vec ℕ) → row_of table name ≡ Some before
    → tree.Updates (slice_cmp nat_cmp) table more name (Some after) → after.items ≡ before.items ++ p ∷ []
    → (n : List ℕ) → noted_for more n ≡ behind_if (bytes_eq n name) p (noted_for table n)
appended table more name p before after was updates items n = ap items_of (row_put table more name (Some after) updates n) ∙ go (bytes_eq n name) refl
  where
    go : (b : Bool) → bytes_eq n name ≡ b → items_of (cond b (Some after) (row_of table n)) ≡ behind_if b p (noted_for table n)
    go true same = items ∙ ap (λ (xs : List ℕ). xs ++ p ∷ []) (sym (ap (noted_for table) ((bytes_eq-Decides n name).0 same) ∙ ap items_of was))
    go false other = refl

-- ---- one more number

pub in_behind : (b : Bool) (q p : ℕ) (row : List ℕ) → is_in p (behind_if b q row) ≡ (is_in p row || (b && nat_eq p q))
in_behind true q p row = list_any-append (nat_eq p) row (q ∷ []) ∙ grind arith
in_behind false q p row = grind arith

pub kept_behind : (b : Bool) (q p : ℕ) (row : List ℕ) → is_in p row ≡ true → is_in p (behind_if b q row) ≡ true
kept_behind b q p row h = in_behind b q p row ∙ grind arith

pub stands_behind : (name : List ℕ) (q : ℕ) (row : List ℕ) → is_in q (behind_if (bytes_eq name name) q row) ≡ true
stands_behind name q row =
    let same : bytes_eq name name ≡ true = (bytes_eq-Decides name name).1 refl in
    let own : nat_eq q q ≡ true = eq-eqb q q refl in
    in_behind (bytes_eq name name) q q row ∙ grind arith

same_number : (q p : ℕ) → is_eq (nat_cmp q p) ≡ nat_eq p q
same_number q p = grind arith

pub one_more : (set more : BTreeSet ℕ) (numbers : List ℕ) (i q : ℕ) → i < length numbers → get_or numbers i 0 ≡ q → sorted.Updates nat_cmp set more q true
    → ((p : ℕ) → has set p ≡ is_in p (take i numbers)) → (p : ℕ) → has more p ≡ is_in p (take (i + 1) numbers)
one_more set more numbers i q l is updates before p =
    updates.0 p
    ∙ ap (λ b. cond b true (has set p)) (same_number q p)
    ∙ or_here (nat_eq p q) (has set p)
    ∙ ap (λ b. b || nat_eq p q) (before p)
    ∙ ap (λ x. is_in p (take i numbers) || nat_eq p x) (sym is)
    ∙ sym (list_any_more (nat_eq p) numbers i 0 l)
  where
    or_here : (a b : Bool) → cond a true b ≡ (b || a)
    or_here true true = refl
    or_here true false = refl
    or_here false true = refl
    or_here false false = refl

pub one_more_kept : (set : BTreeSet ℕ) (kept more numbers : List ℕ) (i q : ℕ) → i < length numbers → get_or numbers i 0 ≡ q → more ≡ behind_if (has set q) q kept
    → ((p : ℕ) → is_in p kept ≡ (is_in p (take i numbers) && has set p)) → (p : ℕ) → is_in p more ≡ (is_in p (take (i + 1) numbers) && has set p)
one_more_kept set kept more numbers i q l is pushed before p =
    ap (is_in p) pushed
    ∙ in_behind (has set q) q p kept
    ∙ ap (λ b. b || (has set q && nat_eq p q)) (before p)
    ∙ by (nat_eq p q) refl
    ∙ ap (λ b. b && has set p) (ap (λ x. is_in p (take i numbers) || nat_eq p x) (sym is) ∙ sym (list_any_more (nat_eq p) numbers i 0 l))
  where
    on : (a b : Bool) → ((a && b) || (b && true)) ≡ ((a || true) && b)
    on a b = grind arith

    off : (a b c : Bool) → ((a && b) || (c && false)) ≡ ((a || false) && b)
    off a b c = grind arith

    by : (b : Bool) → nat_eq p q ≡ b → ((is_in p (take i numbers) && has set p) || (has set q && b)) ≡ ((is_in p (take i numbers) || b) && has set p)
    by true same = ap (λ (x : ℕ). (is_in p (take i numbers) && has set p) || (has set x && true)) (sym (eqb-true p q same)) ∙ on (is_in p (take i numbers)) (has set p)
    by false other = off (is_in p (take i numbers)) (has set p) (has set q)
