-- Tables of what operations activate.
use Rattle.std.proofs.Common.{◌≡◌, ◌≢◌, ◌<◌, ◌≤◌, ◌+◌, ◌++◌, ℕ, zero, suc, List, [], ◌∷◌, Option, None, Some, Bool, cond, nat_eq, nat_lt, length, get_or, drop, drop-cons, refl, ap, sym, ◌∙◌, arith, add-one, append_assoc, ⊎_elim}
use Rattle.std.specs.Global.{Vec}
use Rattle.std.specs.Borrow.{Bor}
use Rattle.stage_checks.specs.Graphs.{names_in}
use Rattle.std.specs.Prelude.{slice_get, option_map}
use Rattle.std.specs.Option.{option_to_list}
use Rattle.std.proofs.lemmas.Bool.{cases_lt}
use Rattle.std.proofs.lemmas.Option.{slice_get_past}
use Rattle.lisa_tree.specs.Descriptions.{DescriptionTree}
use Rattle.activation_trees.specs.declared.parts.Start.{Start}
use Rattle.activation_trees.specs.Starting.{start_of, starts_named, starts, row_at}

-- one more name
pub one_name : (d : DescriptionTree) (o : ℕ) (all : List (Bor (List ℕ))) (i : ℕ) (x : Bor (List ℕ)) → i < length all → x ≡ get_or all i x
    → starts_named d o (names_in (drop i all)) ≡ option_to_list (start_of d o x.now) ++ starts_named d o (names_in (drop (i + 1) all))
one_name d o all i x h e =
    ap (λ (l : List (Bor (List ℕ))). starts_named d o (names_in l)) (drop-cons all i x h)
    ∙ ap (λ (y : Bor (List ℕ)). option_to_list (start_of d o y.now) ++ starts_named d o (names_in (drop (suc i) all))) (sym e)
    ∙ ap (λ (m : ℕ). option_to_list (start_of d o x.now) ++ starts_named d o (names_in (drop m all))) (sym (add-one i))

-- what was added, and what is left
pub regroup : {A : Type 0} (row more row' rest front all : List A) → row' ≡ row ++ more → row ++ all ≡ front → all ≡ more ++ rest → row' ++ rest ≡ front
regroup {A = A} row more row' rest front all e f g = ap (λ (z : List A). z ++ rest) e ∙ append_assoc row more rest ∙ ap (λ (z : List A). row ++ z) (sym g) ∙ f

-- ---- rows of a table

pub row_read : (rows : List (Vec Start)) (o : ℕ) (v : Vec Start) → o < length rows → v ≡ get_or rows o v → v.items ≡ row_at rows o
row_read [] o v h e = absurd (omega arith)
row_read (w ∷ rows) zero v h e = ap (λ (x : Vec Start). x.items) e
row_read (w ∷ rows) (suc o) v h e = row_read rows o v (omega arith) e

pub row_past : (rows : List (Vec Start)) (o : ℕ) → length rows ≤ o → row_at rows o ≡ []
row_past [] o h = refl
row_past (w ∷ rows) zero h = absurd (omega arith)
row_past (w ∷ rows) (suc o) h = row_past rows o (omega arith)

pub row_before : (rows : List (Vec Start)) (v : Vec Start) (o : ℕ) → o < length rows → row_at (rows ++ v ∷ []) o ≡ row_at rows o
row_before [] v o h = absurd (omega arith)
row_before (w ∷ rows) v zero h = refl
row_before (w ∷ rows) v (suc o) h = row_before rows v o (omega arith)

pub row_last : (rows : List (Vec Start)) (v : Vec Start) (o : ℕ) → o ≡ length rows → row_at (rows ++ v ∷ []) o ≡ v.items
row_last [] v zero h = refl
row_last [] v (suc o) h = absurd (omega (arith, h))
row_last (w ∷ rows) v zero h = absurd (omega (arith, h))
row_last (w ∷ rows) v (suc o) h = row_last rows v o (omega (arith, h))

-- one more row of what the rows are to be
pub one_row : (rows : List (Vec Start)) (v : Vec Start) (f : ℕ → List Start) (n : ℕ) → length rows ≡ n → ((a : ℕ) → a < n → row_at rows a ≡ f a) → v.items ≡ f n
    → (a : ℕ) → a < n + 1 → row_at (rows ++ v ∷ []) a ≡ f a
one_row rows v f n len so_far here a h = ⊎_elim
    (λ (below : a < n). row_before rows v a (omega (arith, len)) ∙ so_far a below)
    (λ (above : n ≤ a). let same : a ≡ n = omega arith in row_last rows v a (same ∙ sym len) ∙ here ∙ ap f (sym same))
    (cases_lt a n)

starts_past : (d : DescriptionTree) (o : ℕ) → length d.operations ≤ o → starts d o ≡ []
starts_past d o h = let gone : slice_get d.operations o ≡ None = slice_get_past d.operations o h in rw gone refl

pub all_rows : (d : DescriptionTree) (rows : List (Vec Start)) (n : ℕ) → n ≡ length d.operations → length rows ≡ n → ((a : ℕ) → a < n → row_at rows a ≡ starts d a) → (a : ℕ) → row_at rows a ≡ starts d a
all_rows d rows n is len each a = ⊎_elim
    (λ (below : a < n). each a below)
    (λ (above : n ≤ a). row_past rows a (omega (arith, len)) ∙ sym (starts_past d a (omega (arith, is))))
    (cases_lt a n)
