-- What a declared name directly means.
use Rattle.std.proofs.Common.{◌≡◌, ◌<◌, ◌≤◌, ◌+◌, ◌||◌, ◌&&◌, ℕ, List, [], ◌∷◌, ◌++◌, Option, None, Some, Bool, true, false, cond, nat_eq, nat_lt, length, get_or, drop, drop-cons, append_assoc, refl, ap, sym, ◌∙◌, arith, add-one, inl, inr}
use Rattle.std.specs.Prelude.{slice_get}
use Rattle.std.specs.Option.{option_to_list}
use Rattle.std.specs.List.{position_or_len}
use Rattle.std.specs.Global.{Vec}
use Rattle.std.proofs.lemmas.Bool.{or_cases, eq-eqb, eqb-true}
use Rattle.std.proofs.lemmas.Bool.Decides.{nat_tests}
use Rattle.std.proofs.lemmas.Option.{slice_get_past}
use Rattle.std.proofs.lemmas.List.Folds.{list_any-append}
use Rattle.lisa_tree.specs.Descriptions.{DescriptionTree}
use Rattle.lisa_tree.specs.declared.declared.What.{What}
use Rattle.lisa_tree.specs.declared.declared.What.TheVariants as whats
use Rattle.lisa_tree.specs.Same.{same_name}
use Rattle.lisa_tree.specs.Declarations.{Entry, entries, declared_at, what_at, is_reference, above}
use Rattle.graph_paths.specs.Paths.{targets, is_in, AreNodes}
use Rattle.meant_declarations.specs.Meanings.{declared_by, direct_meanings, AreSources}
use Rattle.meant_declarations.specs.Walks.{is_declaration}

pub one_operation : (d : DescriptionTree) (n : List ℕ) (all : List ℕ) (i : ℕ) → i < length all → declared_by d n (drop i all) ≡ option_to_list (declared_at d (get_or all i 0) n) ++ declared_by d n (drop (i + 1) all)
one_operation d n all i h =
    ap (declared_by d n) (drop-cons all i 0 h)
    ∙ ap (λ (m : ℕ). option_to_list (declared_at d (get_or all i 0) n) ++ declared_by d n (drop m all)) (sym (add-one i))

-- what was added, and what is left
pub regroup : {A : Type 0} (row more row' rest front all : List A) → row' ≡ row ++ more → row ++ all ≡ front → all ≡ more ++ rest → row' ++ rest ≡ front
regroup {A = A} row more row' rest front all pushed so_far split = ap (λ (l : List A). l ++ rest) pushed ∙ append_assoc row more rest ∙ ap (λ (l : List A). row ++ l) (sym split) ∙ so_far

pub means_past : (d : DescriptionTree) (i : ℕ) → length (entries d) ≤ i → direct_meanings d i ≡ []
means_past d i h = let none : what_at d i ≡ None = rw (slice_get_past (entries d) i h) refl in rw none refl

-- ---- what is directly meant is declared

below : (k n i : ℕ) → ◌≡◌ {A = Option ℕ} (cond (nat_lt k n) (Some k) None) (Some i) → i < n
below k n i e = grind (arith, nat_tests)

pub declared_below : (d : DescriptionTree) (o : ℕ) (n : List ℕ) (i : ℕ) → declared_at d o n ≡ Some i → i < length (entries d)
declared_below d o n i e = below (position_or_len (λ (x : Entry). nat_eq x.operation o && same_name n x.name) (entries d)) (length (entries d)) i e

in_option : (k : ℕ) (r : Option ℕ) → is_in k (option_to_list r) ≡ true → r ≡ Some k
in_option k None h = absurd (cc h)
in_option k (Some j) h = elim (or_cases (nat_eq k j) false h) [ inl same ↦ ap (λ (z : ℕ). Some z) (sym (eqb-true k j same)) | inr none ↦ absurd (cc none) ]

-- which of some operations declares a name as this entry
pub record Declares (d : DescriptionTree) (n : List ℕ) (all : List ℕ) (k : ℕ) : Type 0 where
  pub operation : ℕ
  pub listed : is_in operation all ≡ true
  pub declared : declared_at d operation n ≡ Some k

pub declares : (d : DescriptionTree) (n : List ℕ) (k : ℕ) (all : List ℕ) → is_in k (declared_by d n all) ≡ true → Declares d n all k
declares d n k [] h = absurd (cc h)
declares d n k (p ∷ all) h =
    elim (or_cases (is_in k (option_to_list (declared_at d p n))) (is_in k (declared_by d n all)) (sym (list_any-append (nat_eq k) (option_to_list (declared_at d p n)) (declared_by d n all)) ∙ h)) [
      | inl here ↦ record { operation = p; listed = (let own : nat_eq p p ≡ true = eq-eqb p p refl in grind arith); declared = in_option k (declared_at d p n) here }
      | inr later ↦ (let r = declares d n k all later in record { operation = r.operation; listed = (let l : is_in r.operation all ≡ true = r.listed in grind arith); declared = r.declared })
    ]

pub is_declared : (d : DescriptionTree) (n : List ℕ) (p k : ℕ) (all : List ℕ) → is_in p all ≡ true → declared_at d p n ≡ Some k → is_in k (declared_by d n all) ≡ true
is_declared d n p k [] h e = absurd (cc h)
is_declared d n p k (q ∷ all) h e =
    list_any-append (nat_eq k) (option_to_list (declared_at d q n)) (declared_by d n all) ∙ elim (or_cases (nat_eq p q) (is_in p all) h) [
      | inl same ↦ (let own : nat_eq k k ≡ true = eq-eqb k k refl in
          let f : declared_at d q n ≡ Some k = ap (λ (z : ℕ). declared_at d z n) (sym (eqb-true p q same)) ∙ e in
          let i : is_in k (option_to_list (declared_at d q n)) ≡ true = rw f (on_left (nat_eq k k) false own) in
          on_left (is_in k (option_to_list (declared_at d q n))) (is_in k (declared_by d n all)) i)
      | inr later ↦ on_right (is_in k (option_to_list (declared_at d q n))) (is_in k (declared_by d n all)) (is_declared d n p k all later e)
    ]
  where
    on_left : (x y : Bool) → x ≡ true → (x || y) ≡ true
    on_left x y h = grind arith

    on_right : (x y : Bool) → y ≡ true → (x || y) ≡ true
    on_right x y h = grind arith

-- ---- the direct meanings of a reference

pub record DirectlyMeans (d : DescriptionTree) (i k : ℕ) : Type 0 where
  pub e : Entry
  pub is : slice_get (entries d) i ≡ Some e
  pub what : e.what ≡ whats.Reference
  pub by : Declares d e.name (above d e.operation) k

pub directly : (d : DescriptionTree) (i k : ℕ) → is_in k (direct_meanings d i) ≡ true → DirectlyMeans d i k
directly d i k h = at (slice_get (entries d) i) refl
  where
    at : (r : Option Entry) → slice_get (entries d) i ≡ r → DirectlyMeans d i k
    at None is = absurd (cc (rw is at h))
    at (Some e) is = sort e.what refl
      where
        meant : direct_meanings d i ≡ cond (is_reference (Some e.what)) (declared_by d e.name (above d e.operation)) []
        meant = rw is refl

        other : (w : What) → e.what ≡ w → is_reference (Some w) ≡ false → ⊥
        other w what off =
            let row : direct_meanings d i ≡ [] = meant ∙ ap (λ (b : Bool). cond b (declared_by d e.name (above d e.operation)) []) (ap (λ (x : What). is_reference (Some x)) what ∙ off) in
            absurd (cc (sym (ap (is_in k) row) ∙ h))

        sort : (w : What) → e.what ≡ w → DirectlyMeans d i k
        sort whats.Reference what =
            let row : direct_meanings d i ≡ declared_by d e.name (above d e.operation) = meant ∙ ap (λ (w : What). cond (is_reference (Some w)) (declared_by d e.name (above d e.operation)) []) what in
            record { e = e; is = is; what = what; by = declares d e.name k (above d e.operation) (sym (ap (is_in k) row) ∙ h) }
        sort (whats.Group c) what = absurd (other (whats.Group c) what refl)
        sort (whats.Instance c) what = absurd (other (whats.Instance c) what refl)
        sort whats.Label what = absurd (other whats.Label what refl)

pub means_directly : (d : DescriptionTree) (i p k : ℕ) (e : Entry) → slice_get (entries d) i ≡ Some e → e.what ≡ whats.Reference → is_in p (above d e.operation) ≡ true → declared_at d p e.name ≡ Some k
    → is_in k (direct_meanings d i) ≡ true
means_directly d i p k e is what h at =
    let meant : direct_meanings d i ≡ cond (is_reference (Some e.what)) (declared_by d e.name (above d e.operation)) [] = rw is refl in
    let row : direct_meanings d i ≡ declared_by d e.name (above d e.operation) = meant ∙ ap (λ (w : What). cond (is_reference (Some w)) (declared_by d e.name (above d e.operation)) []) what in
    ap (is_in k) row ∙ is_declared d e.name p k (above d e.operation) h at

pub meant_below : (d : DescriptionTree) (i k : ℕ) → is_in k (direct_meanings d i) ≡ true → k < length (entries d)
meant_below d i k h = let m = directly d i k h in declared_below d m.by.operation m.e.name k m.by.declared

pub sources_are_nodes : (d : DescriptionTree) (next : List (Vec ℕ)) → AreSources d next → AreNodes next
sources_are_nodes d next are i k h = let l : k < length (entries d) = meant_below d i k (are.direct i k h) in let c = are.count in omega (arith, l, c)

pub nothing_past : (d : DescriptionTree) (i : ℕ) → length (entries d) ≤ i → is_declaration (what_at d i) ≡ false
nothing_past d i h = let none : what_at d i ≡ None = rw (slice_get_past (entries d) i h) refl in ap is_declaration none
