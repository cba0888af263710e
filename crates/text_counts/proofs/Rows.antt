-- Rows of a list of lists.
use Rattle.std.proofs.Common.{◌≡◌, ◌<◌, ◌≤◌, ◌≢◌, ◌+◌, ◌-◌, ◌&&◌, ◌||◌, ⊎_elim, ℕ, zero, suc, List, [], ◌∷◌, ◌++◌, Bool, true, false, cond, nat_eq, nat_lt, length, map, get_or, drop, drop-cons, refl, ap, sym, ◌∙◌, arith, add-one, append_assoc, Some, inl, inr}
use Rattle.std.specs.Global.{Vec}
use Rattle.std.proofs.Math.Dec.{eqb-suc-suc, eqb-suc-zero}
use Rattle.std.proofs.lemmas.Bool.{cases_eq, cases_Bool, eq-eqb, ne_eqb, lt-ltb, ltb-false, le-ltb}
use Rattle.std.proofs.lemmas.Bool.Decides.{nat_tests}
use Rattle.std.proofs.lemmas.List.{append-nil}
use Rattle.lisa_tree.specs.Descriptions.{DescriptionTree}
use Rattle.lisa_tree.specs.declared.declared.What.TheVariants as whats
use Rattle.lisa_tree.specs.Declarations.{what_at}
use Rattle.description_graph.specs.Graph.{first_entry}
use Rattle.text_counts.specs.References.{chosen_by}
use Rattle.graph_paths.specs.Paths.{targets, is_in, saw}
use Rattle.graph_paths.proofs.Seen.{saw_past}
use Rattle.text_counts.specs.Gathering.{late_row, gathered, gathered_at}

pub row_past : (rows : List (Vec ℕ)) (a : ℕ) → length rows ≤ a → targets rows a ≡ []
row_past [] a h = refl
row_past (v ∷ rows) zero h = absurd (omega arith)
row_past (v ∷ rows) (suc a) h = row_past rows a (omega arith)

-- lists of which several may be one in memory
pub shown_past : {A : Type 0} (view : A → Vec ℕ) (lists : List A) (a : ℕ) → length lists ≤ a → targets (map view lists) a ≡ []
shown_past view [] a h = refl
shown_past view (x ∷ lists) zero h = absurd (omega arith)
shown_past view (x ∷ lists) (suc a) h = shown_past view lists a (omega arith)

shown_inside : {A : Type 0} (view : A → Vec ℕ) (lists : List A) (a : ℕ) (x : A) → a < length lists → x ≡ get_or lists a x → targets (map view lists) a ≡ (view x).items
shown_inside view [] a x h e = absurd (omega arith)
shown_inside view (z ∷ lists) zero x h e = ap (λ (r : _). (view r).items) (sym e)
shown_inside view (z ∷ lists) (suc a) x h e = shown_inside view lists a x (omega arith) e

pub shown_at : {A : Type 0} (view : A → Vec ℕ) (lists : List A) (n a : ℕ) (x : A) → n ≡ length lists → a < n → x ≡ get_or lists a x → targets (map view lists) a ≡ (view x).items
shown_at view lists n a x l h e = shown_inside view lists a x (omega (arith, l, h)) e

pub targets_push : (next : List (Vec ℕ)) (v : Vec ℕ) (a : ℕ) → targets (next ++ v ∷ []) a ≡ cond (nat_eq a (length next)) v.items (targets next a)
targets_push [] v zero = refl
targets_push [] v (suc a) = grind (arith, eqb-suc-zero)
targets_push (w ∷ next) v zero = grind (arith, eqb-suc-zero)
targets_push (w ∷ next) v (suc a) = targets_push next v a ∙ ap (λ (b : Bool). cond b v.items (targets next a)) (sym (eqb-suc-suc a (length next)))

-- one more row of what the rows are to be
pub row_pushed : (next : List (Vec ℕ)) (v : Vec ℕ) (f : ℕ → List ℕ) (n : ℕ) → length next ≡ n → ((a : ℕ) → targets next a ≡ cond (nat_lt a n) (f a) []) → v.items ≡ f n
    → (a : ℕ) → targets (next ++ v ∷ []) a ≡ cond (nat_lt a (n + 1)) (f a) []
row_pushed next v f n len so_far here a = targets_push next v a ∙ ap (λ (k : ℕ). cond (nat_eq a k) v.items (targets next a)) len ∙ ⊎_elim same other (cases_eq a n)
  where
    same : a ≡ n → cond (nat_eq a n) v.items (targets next a) ≡ cond (nat_lt a (n + 1)) (f a) []
    same e =
        ap (λ (b : Bool). cond b v.items (targets next a)) (eq-eqb a n e) ∙ here ∙ ap f (sym e)
        ∙ ap (λ (b : Bool). cond b (f a) []) (sym (lt-ltb a (n + 1) (omega arith)))

    other : a ≢ n → cond (nat_eq a n) v.items (targets next a) ≡ cond (nat_lt a (n + 1)) (f a) []
    other ne =
        ap (λ (b : Bool). cond b v.items (targets next a)) (ne_eqb a n ne) ∙ so_far a
        ∙ ap (λ (b : Bool). cond b (f a) []) (let e : nat_lt a n ≡ nat_lt a (n + 1) = grind (arith, nat_tests) in e)

pub late_end : (base : ℕ) (next : List (Vec ℕ)) (n : ℕ) → n ≡ length next → (a : ℕ) → cond (nat_lt a n) (late_row base next a) [] ≡ late_row base next a
late_end base next n is a = elim (cases_Bool (nat_lt a n)) [
  | inl on ↦ ap (λ (b : Bool). cond b (late_row base next a) []) on
  | inr off ↦ (let l = ltb-false a n off in ap (λ (b : Bool). cond b (late_row base next a) []) off ∙ sym (both (nat_lt a base)) ∙ ap (cond (nat_lt a base) []) (sym (row_past next a (omega (arith, l, is)))))
]
  where
    both : (b : Bool) → ◌≡◌ {A = List ℕ} (cond b [] []) []
    both true = refl
    both false = refl

pub empty_pushed : (rows : List (Vec ℕ)) (v : Vec ℕ) → v.items ≡ [] → ((i : ℕ) → targets rows i ≡ []) → (i : ℕ) → targets (rows ++ v ∷ []) i ≡ []
empty_pushed rows v e none i = targets_push rows v i ∙ by (nat_eq i (length rows))
  where
    by : (b : Bool) → cond b v.items (targets rows i) ≡ []
    by true = e
    by false = none i

-- ---- the nodes that were seen

pub one_seen : (seen : List Bool) (nodes : List ℕ) (n b : ℕ) → saw seen n ≡ true → is_in b nodes ≡ (nat_lt b n && saw seen b) → (is_in b nodes || nat_eq b n) ≡ (nat_lt b (n + 1) && saw seen b)
one_seen seen nodes n b on so_far = ⊎_elim
    (λ (e : b ≡ n). let s : saw seen b ≡ true = ap (saw seen) e ∙ on in let t : nat_eq b n ≡ true = eq-eqb b n e in let u : nat_lt b (n + 1) ≡ true = lt-ltb b (n + 1) (omega (arith, e)) in grind (arith, so_far, s, t, u))
    (λ ne. let t : nat_eq b n ≡ false = ne_eqb b n ne in let u : nat_lt b n ≡ nat_lt b (n + 1) = grind (arith, nat_tests) in grind (arith, so_far, t, u))
    (cases_eq b n)

pub not_seen : (seen : List Bool) (nodes : List ℕ) (n b : ℕ) → saw seen n ≡ false → is_in b nodes ≡ (nat_lt b n && saw seen b) → is_in b nodes ≡ (nat_lt b (n + 1) && saw seen b)
not_seen seen nodes n b off so_far = ⊎_elim
    (λ (e : b ≡ n). let s : saw seen b ≡ false = ap (saw seen) e ∙ off in grind (arith, so_far, s))
    (λ ne. let u : nat_lt b n ≡ nat_lt b (n + 1) = grind (arith, nat_tests) in grind (arith, so_far, u))
    (cases_eq b n)

pub all_seen : (seen : List Bool) (n b : ℕ) → length seen ≤ n → (nat_lt b n && saw seen b) ≡ saw seen b
all_seen seen n b h = elim (cases_Bool (nat_lt b n)) [
  | inl on ↦ ap (λ (x : Bool). x && saw seen b) on
  | inr off ↦ (let l = ltb-false b n off in let s : saw seen b ≡ false = saw_past seen b (omega (arith, l, h)) in grind (arith, off, s))
]

-- ---- gathering

pub one_node : (d : DescriptionTree) (means : ℕ → List ℕ) (all : List ℕ) (i : ℕ) → i < length all
    → gathered d means (drop i all) ≡ gathered_at d means (get_or all i 0) ++ gathered d means (drop (i + 1) all)
one_node d means all i h =
    ap (gathered d means) (drop-cons all i 0 h)
    ∙ ap (λ (m : ℕ). gathered_at d means (get_or all i 0) ++ gathered d means (drop m all)) (sym (add-one i))

-- what is gathered from one reference alone
pub one_reference : (d : DescriptionTree) (base : ℕ) (nodes : List ℕ) (node x : ℕ) → base ≡ first_entry d → length nodes ≡ 1 → node ≡ get_or nodes 0 x → base ≤ node → what_at d (node - base) ≡ Some whats.Reference
    → (means : ℕ → List ℕ) → gathered d means nodes ≡ means (node - base)
one_reference d base [] node x first one is le ref means = absurd (omega arith)
one_reference d base (n ∷ m ∷ nodes) node x first one is le ref means = absurd (omega arith)
one_reference d base (n ∷ []) node x first one is le ref means =
    append-nil (gathered_at d means n)
    ∙ ap (gathered_at d means) (sym is)
    ∙ ap (λ (b : Bool). cond b [] (chosen_by d means (node - first_entry d) (what_at d (node - first_entry d)))) (le-ltb node (first_entry d) (omega arith))
    ∙ ap (λ (k : ℕ). chosen_by d means (node - k) (what_at d (node - k))) (sym first)
    ∙ ap (chosen_by d means (node - base)) ref

-- what was added, and what is left
pub regroup : {A : Type 0} (row more row' rest front all : List A) → row' ≡ row ++ more → row ++ all ≡ front → all ≡ more ++ rest → row' ++ rest ≡ front
regroup {A = A} row more row' rest front all e f g = ap (λ (z : List A). z ++ rest) e ∙ append_assoc row more rest ∙ ap (λ (z : List A). row ++ z) (sym g) ∙ f
