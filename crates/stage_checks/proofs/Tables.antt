-- Entries of a table.
use Rattle.std.proofs.Common.{◌≡◌, ◌≢◌, ℕ, zero, suc, ◌+◌, ◌<◌, ◌≤◌, List, [], ◌∷◌, ◌++◌, Option, None, Some, Bool, true, false, cond, ◌||◌, ◌&&◌, not, nat_eq, length, get_or, set, refl, ap, sym, ◌∙◌, arith, ⊎_elim, replicate}
use Rattle.std.specs.Option.{is_some}
use Rattle.std.proofs.Math.Dec.{eqb-suc-suc, eqb-suc-zero}
use Rattle.std.proofs.lemmas.Bool.{cases_eq, eq-eqb, ne_eqb}
use Rattle.std.proofs.lemmas.List.Sums.{sum_by-set}
use Rattle.graph_paths.specs.Paths.{is_in}
use Rattle.graph_paths.proofs.Seen.{in-push}
use Rattle.stage_checks.specs.Spreading.{entry, given, unset}

pub entry_at : (table : List (Option ℕ)) (a : ℕ) (d : Option ℕ) → a < length table → entry table a ≡ get_or table a d
entry_at [] a d h = absurd (omega arith)
entry_at (x ∷ xs) zero d h = refl
entry_at (x ∷ xs) (suc a) d h = entry_at xs a d (omega arith)

pub entry_past : (table : List (Option ℕ)) (a : ℕ) → length table ≤ a → entry table a ≡ None
entry_past [] a h = refl
entry_past (x ∷ xs) zero h = absurd (omega arith)
entry_past (x ∷ xs) (suc a) h = entry_past xs a (omega arith)

pub entry_below : (table : List (Option ℕ)) (a t : ℕ) → entry table a ≡ Some t → a < length table
entry_below [] a t e = absurd (cc e)
entry_below (x ∷ xs) zero t e = omega arith
entry_below (x ∷ xs) (suc a) t e = let l = entry_below xs a t e in omega arith

entry-set_same : (table : List (Option ℕ)) (a : ℕ) (x : Option ℕ) → a < length table → entry (set table a x) a ≡ x
entry-set_same [] a x h = absurd (omega arith)
entry-set_same (y ∷ ys) zero x h = refl
entry-set_same (y ∷ ys) (suc a) x h = entry-set_same ys a x (omega arith)

entry-set_other : (table : List (Option ℕ)) (a b : ℕ) (x : Option ℕ) → b ≢ a → entry (set table a x) b ≡ entry table b
entry-set_other [] a b x h = refl
entry-set_other (y ∷ ys) zero zero x h = absurd (h refl)
entry-set_other (y ∷ ys) zero (suc b) x h = refl
entry-set_other (y ∷ ys) (suc a) zero x h = refl
entry-set_other (y ∷ ys) (suc a) (suc b) x h = entry-set_other ys a b x (λ e. h (ap suc e))

pub entry_push : (table : List (Option ℕ)) (x : Option ℕ) (a : ℕ) → entry (table ++ x ∷ []) a ≡ cond (nat_eq a (length table)) x (entry table a)
entry_push [] x zero = refl
entry_push [] x (suc a) = grind (arith, eqb-suc-zero)
entry_push (y ∷ ys) x zero = grind (arith, eqb-suc-zero)
entry_push (y ∷ ys) x (suc a) = entry_push ys x a ∙ ap (λ (b : Bool). cond b x (entry ys a)) (sym (eqb-suc-suc a (length ys)))

pub gone : (x : Option ℕ) → is_some x ≡ false → x ≡ None
gone None e = refl
gone (Some x) e = absurd (cc e)

kept : (x : Option ℕ) (b : Bool) (rank : ℕ) → is_some x ≡ true → x ≡ given x b rank
kept None b rank e = absurd (cc e)
kept (Some u) b rank e = refl

as_it_was : (x : Option ℕ) (rank : ℕ) → x ≡ given x false rank
as_it_was None rank = refl
as_it_was (Some u) rank = refl

-- the node has a number already
pub given_twice : (table : List (Option ℕ)) (k b rank : ℕ) → is_some (entry table k) ≡ true → entry table b ≡ given (entry table b) (nat_eq b k) rank
given_twice table k b rank h = ⊎_elim
    (λ (e : b ≡ k). kept (entry table b) (nat_eq b k) rank (ap (λ (m : ℕ). is_some (entry table m)) e ∙ h))
    (λ ne. as_it_was (entry table b) rank ∙ ap (λ (f : Bool). given (entry table b) f rank) (sym (ne_eqb b k ne))) (cases_eq b k)

-- it gets one
pub given_once : (table : List (Option ℕ)) (k b rank : ℕ) → k < length table → is_some (entry table k) ≡ false → entry (set table k (Some rank)) b ≡ given (entry table b) (nat_eq b k) rank
given_once table k b rank l h = ⊎_elim
    (λ (e : b ≡ k). ap (entry (set table k (Some rank))) e ∙ entry-set_same table k (Some rank) l ∙ sym (at e))
    (λ ne. entry-set_other table k b (Some rank) ne ∙ as_it_was (entry table b) rank ∙ ap (λ (f : Bool). given (entry table b) f rank) (sym (ne_eqb b k ne))) (cases_eq b k)
  where
    at : b ≡ k → given (entry table b) (nat_eq b k) rank ≡ Some rank
    at e = ap (λ (x : Option ℕ). given x (nat_eq b k) rank) (ap (entry table) e ∙ gone (entry table k) h) ∙ ap (λ (f : Bool). given None f rank) (eq-eqb b k e)

pub not_twice : (table : List (Option ℕ)) (work : List ℕ) (k b : ℕ) → is_some (entry table k) ≡ true → is_in b work ≡ (is_in b work || (nat_eq b k && not (is_some (entry table b))))
not_twice table work k b h = ⊎_elim (λ e. at e) (λ ne. let t : nat_eq b k ≡ false = ne_eqb b k ne in grind arith) (cases_eq b k)
  where
    at : b ≡ k → is_in b work ≡ (is_in b work || (nat_eq b k && not (is_some (entry table b))))
    at e = let s : is_some (entry table b) ≡ true = ap (λ (m : ℕ). is_some (entry table m)) e ∙ h in grind arith

pub pushed : (table : List (Option ℕ)) (work : List ℕ) (k b : ℕ) → is_some (entry table k) ≡ false → is_in b (work ++ k ∷ []) ≡ (is_in b work || (nat_eq b k && not (is_some (entry table b))))
pushed table work k b h = in-push b work k ∙ ⊎_elim (λ e. at e) (λ ne. let t : nat_eq b k ≡ false = ne_eqb b k ne in grind arith) (cases_eq b k)
  where
    at : b ≡ k → (is_in b work || nat_eq b k) ≡ (is_in b work || (nat_eq b k && not (is_some (entry table b))))
    at e = let s : is_some (entry table b) ≡ false = ap (λ (m : ℕ). is_some (entry table m)) e ∙ h in grind arith

pub unset-set : (table : List (Option ℕ)) (k rank : ℕ) → k < length table → is_some (entry table k) ≡ false → unset (set table k (Some rank)) + 1 ≡ unset table
unset-set table k rank h off =
    let e = sum_by-set (λ (y : Option ℕ). cond (is_some y) 0 1) table k (Some rank) None h in
    let z : ◌≡◌ {A = ℕ} (cond (is_some (get_or table k None)) 0 1) 1 = ap (λ (y : Option ℕ). cond (is_some y) 0 1) (sym (entry_at table k None h) ∙ gone (entry table k) off) in
    omega (arith, e, z)

pub given_more : (x : Option ℕ) (a b : Bool) (rank : ℕ) → given (given x a rank) b rank ≡ given x (a || b) rank
given_more (Some u) a b rank = refl
given_more None true b rank = refl
given_more None false b rank = refl

entry_none : (n a : ℕ) → entry (replicate n None) a ≡ None
entry_none zero a = refl
entry_none (suc n) zero = refl
entry_none (suc n) (suc a) = entry_none n a

pub nothing_yet : (table : List (Option ℕ)) (n a : ℕ) → table ≡ replicate n None → entry table a ≡ None
nothing_yet table n a e = ap (λ (l : List (Option ℕ)). entry l a) e ∙ entry_none n a
