-- Entries of a table.
use Rattle.std.proofs.Common.{◌≡◌, ◌≢◌, ℕ, zero, suc, ◌+◌, ◌<◌, ◌≤◌, List, [], ◌∷◌, ◌++◌, Option, None, Some, false, cond, length, get_or, set, refl, ap, sym, ◌∙◌, arith, ⊎_elim, subst, replicate}
use Rattle.std.specs.Option.{is_some}
use Rattle.std.proofs.lemmas.Bool.{cases_eq}
use Rattle.std.proofs.lemmas.List.Sums.{sum_by-set}
use Rattle.least_fixed_points.specs.Settles.{entry, Settles, settled, IsWithin, IsMonotone, missing, IsSound}

module _ {T : Type 0} where
  pub entry_at : (table : List (Option T)) (a : ℕ) (d : Option T) → a < length table → entry table a ≡ get_or table a d
  entry_at [] a d h = absurd (omega arith)
  entry_at (x ∷ xs) zero d h = refl
  entry_at (x ∷ xs) (suc a) d h = entry_at xs a d (omega arith)

  pub entry_past : (table : List (Option T)) (a : ℕ) → length table ≤ a → entry table a ≡ None
  entry_past [] a h = refl
  entry_past (x ∷ xs) zero h = absurd (omega arith)
  entry_past (x ∷ xs) (suc a) h = entry_past xs a (omega arith)

  pub entry-set_same : (table : List (Option T)) (a : ℕ) (x : Option T) → a < length table → entry (set table a x) a ≡ x
  entry-set_same [] a x h = absurd (omega arith)
  entry-set_same (y ∷ ys) zero x h = refl
  entry-set_same (y ∷ ys) (suc a) x h = entry-set_same ys a x (omega arith)

  pub entry-set_other : (table : List (Option T)) (a b : ℕ) (x : Option T) → b ≢ a → entry (set table a x) b ≡ entry table b
  entry-set_other [] a b x h = refl
  entry-set_other (y ∷ ys) zero zero x h = absurd (h refl)
  entry-set_other (y ∷ ys) zero (suc b) x h = refl
  entry-set_other (y ∷ ys) (suc a) zero x h = refl
  entry-set_other (y ∷ ys) (suc a) (suc b) x h = entry-set_other ys a b x (λ e. h (ap suc e))

  pub missing-set : (table : List (Option T)) (a : ℕ) (x : T) → a < length table → entry table a ≡ None → missing (set table a (Some x)) < missing table
  missing-set table a x h none =
      let e = sum_by-set (λ (y : Option T). cond (is_some y) 0 1) table a (Some x) None h in
      let z : ◌≡◌ {A = ℕ} (cond (is_some (get_or table a None)) 0 1) 1 = ap (λ (y : Option T). cond (is_some y) 0 1) (sym (entry_at table a None h) ∙ none) in
      omega (arith, e, z)

  pub gone : (x : Option T) → is_some x ≡ false → x ≡ None
  gone None e = refl
  gone (Some x) e = absurd (cc e)

  pub one_more_none : (n : ℕ) (old new : List (Option T)) → old ≡ replicate n None → new ≡ old ++ None ∷ [] → new ≡ replicate (n + 1) None
  one_more_none n old new e f = f ∙ ap (λ (l : List (Option T)). l ++ None ∷ []) e ∙ behind n ∙ ap (λ (k : ℕ). replicate k None) (let same : suc n ≡ n + 1 = omega arith in same)
    where
      behind : (n : ℕ) → ◌≡◌ {A = List (Option T)} (replicate n None ++ None ∷ []) (replicate (suc n) None)
      behind zero = refl
      behind (suc n) = ap (λ (l : List (Option T)). None ∷ l) (behind n)

  entry_none : (n a : ℕ) → entry {T = T} (replicate n None) a ≡ None
  entry_none zero a = refl
  entry_none (suc n) zero = refl
  entry_none (suc n) (suc a) = entry_none n a

  pub nothing_sound : (step : (ℕ → Option T) → ℕ → Option T) (table : List (Option T)) (n : ℕ) → table ≡ replicate n None → IsSound step table
  nothing_sound step table n e =
      let none : (a : ℕ) → entry table a ≡ None = λ a. ap (λ (l : List (Option T)). entry l a) e ∙ entry_none n a in
      record {
        has = λ a t f. absurd (cc (sym (none a) ∙ f));
        follows = λ a t f. absurd (cc (sym (none a) ∙ f));
      }

  module _ (step : (ℕ → Option T) → ℕ → Option T) (monotone : IsMonotone step) where
    -- one more entry that follows
    pub more_sound : (table : List (Option T)) (a : ℕ) (x : T) → a < length table → IsSound step table → entry table a ≡ None → step (entry table) a ≡ Some x → IsSound step (set table a (Some x))
    more_sound table a x h s none follows =
        let wider : IsWithin (entry table) (entry (set table a (Some x))) = λ b u e. ⊎_elim
        (λ (same : b ≡ a). absurd (cc (sym e ∙ ap (entry table) same ∙ none)))
        (λ other. entry-set_other table a b (Some x) other ∙ e) (cases_eq b a) in
        record {
          has = λ b t e. ⊎_elim
              (λ (same : b ≡ a). subst (λ (k : ℕ). Settles step k t) (sym same)
              (settled (entry table) s.has (follows ∙ sym (entry-set_same table a (Some x) h) ∙ sym (ap (entry (set table a (Some x))) same) ∙ e)))
              (λ other. s.has b t (sym (entry-set_other table a b (Some x) other) ∙ e)) (cases_eq b a);
          follows = λ b t e. ⊎_elim
              (λ (same : b ≡ a). monotone (entry table) (entry (set table a (Some x))) wider b t
              (ap (step (entry table)) same ∙ follows ∙ sym (entry-set_same table a (Some x) h) ∙ sym (ap (entry (set table a (Some x))) same) ∙ e))
              (λ other. monotone (entry table) (entry (set table a (Some x))) wider b t (s.follows b t (sym (entry-set_other table a b (Some x) other) ∙ e))) (cases_eq b a);
        }

    -- a sound table to which nothing can be added has all values
    pub complete : (table : List (Option T)) → IsSound step table → ((a : ℕ) → entry table a ≡ None → step (entry table) a ≡ None) → (a : ℕ) (t : T) → Settles step a t → entry table a ≡ Some t
    complete table s closed a t (settled known each follows) =
        let here : step (entry table) a ≡ Some t = monotone known (entry table) (λ b u e. complete table s closed b u (each b u e)) a t follows in
        by_entry (entry table a) refl here
      where
        by_entry : (x : Option T) → entry table a ≡ x → step (entry table) a ≡ Some t → entry table a ≡ Some t
        by_entry None e here = absurd (cc (sym here ∙ closed a e))
        by_entry (Some u) e here = e ∙ sym (s.follows a u e) ∙ here
