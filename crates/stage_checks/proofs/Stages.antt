-- The earliest of stages.
use Rattle.std.proofs.Common.{◌≡◌, ℕ, suc, zero, ◌+◌, ◌<◌, ◌≤◌, ◌≢◌, ⊎_elim, subst, nat_lt, List, [], ◌∷◌, ◌++◌, Option, None, Some, Bool, true, false, cond, ◌||◌, nat_eq, length, refl, ap, sym, ◌∙◌, arith}
use Rattle.std.specs.List.{list_any}
use Rattle.std.proofs.Math.Dec.{eqb-suc-suc, eqb-suc-zero}
use Rattle.lisa_tree.specs.Descriptions.{DescriptionTree}
use Rattle.lisa_tree.specs.Operations.{own_stage}
use Rattle.graph_paths.specs.Paths.{saw}
use Rattle.stage_checks.specs.Controls.{is_before}
use Rattle.stage_checks.specs.Spreading.{entry}
use Rattle.stage_checks.specs.Backward.{first_before, IsEarliest, any_late}
use Rattle.std.proofs.lemmas.Bool.{cases_Bool, cases_eq, eq-eqb, ne_eqb, ltb-true, ltb-false}
use Rattle.lisa_tree.specs.Declarations.{choices, plain_at}
use Rattle.graph_paths.proofs.Seen.{saw_past}
use Rattle.stage_checks.proofs.Tables.{entry_push, entry_past}
use Rattle.stage_checks.proofs.Nodes.{plain_past}

nothing_before : (d : DescriptionTree) (late : Option ℕ) (all : List ℕ) → list_any (λ a. is_before (own_stage d a) late) all ≡ false → None ≡ first_before d late all
nothing_before d late [] e = refl
nothing_before d late (a ∷ rest) e = at (is_before (own_stage d a) late) e (nothing_before d late rest)
  where
    at : (b : Bool) → (b || list_any (λ a. is_before (own_stage d a) late) rest) ≡ false → (list_any (λ a. is_before (own_stage d a) late) rest ≡ false → None ≡ first_before d late rest) → None ≡ cond b (Some a) (first_before d late rest)
    at true e more = absurd (cc e)
    at false e more = more e

pub none_before : (d : DescriptionTree) (late : Option ℕ) (all : List ℕ) (x : Option ℕ) → IsEarliest d all x → is_before x late ≡ false → None ≡ first_before d late all
none_before d late all x earliest e = nothing_before d late all (sym (earliest late) ∙ e)

pub saw_push : (seen : List Bool) (x : Bool) (a : ℕ) → saw (seen ++ x ∷ []) a ≡ cond (nat_eq a (length seen)) x (saw seen a)
saw_push [] x zero = refl
saw_push [] x (suc a) = grind (arith, eqb-suc-zero)
saw_push (y ∷ ys) x zero = grind (arith, eqb-suc-zero)
saw_push (y ∷ ys) x (suc a) = saw_push ys x a ∙ ap (λ (b : Bool). cond b x (saw ys a)) (sym (eqb-suc-suc a (length ys)))

pub entries_pushed : (P : ℕ → Option ℕ → Type 0) (table : List (Option ℕ)) (x : Option ℕ) (n : ℕ) → length table ≡ n → ((c : ℕ) → c < n → P c (entry table c)) → P n x
    → (c : ℕ) → c < n + 1 → P c (entry (table ++ x ∷ []) c)
entries_pushed P table x n len each here c h = subst (P c) (sym (entry_push table x c ∙ ap (λ (k : ℕ). cond (nat_eq c k) x (entry table c)) len)) (⊎_elim same other (cases_eq c n))
  where
    same : c ≡ n → P c (cond (nat_eq c n) x (entry table c))
    same e = subst (λ (b : Bool). P c (cond b x (entry table c))) (sym (eq-eqb c n e)) (subst (λ (k : ℕ). P k x) (sym e) here)

    other : c ≢ n → P c (cond (nat_eq c n) x (entry table c))
    other ne = subst (λ (b : Bool). P c (cond b x (entry table c))) (sym (ne_eqb c n ne)) (each c (omega arith))

pub seen_pushed : (P : ℕ → Bool → Type 0) (seen : List Bool) (x : Bool) (n : ℕ) → length seen ≡ n → ((c : ℕ) → c < n → P c (saw seen c)) → P n x
    → (c : ℕ) → c < n + 1 → P c (saw (seen ++ x ∷ []) c)
seen_pushed P seen x n len each here c h = subst (P c) (sym (saw_push seen x c ∙ ap (λ (k : ℕ). cond (nat_eq c k) x (saw seen c)) len)) (⊎_elim same other (cases_eq c n))
  where
    same : c ≡ n → P c (cond (nat_eq c n) x (saw seen c))
    same e = subst (λ (b : Bool). P c (cond b x (saw seen c))) (sym (eq-eqb c n e)) (subst (λ (k : ℕ). P k x) (sym e) here)

    other : c ≢ n → P c (cond (nat_eq c n) x (saw seen c))
    other ne = subst (λ (b : Bool). P c (cond b x (saw seen c))) (sym (ne_eqb c n ne)) (each c (omega arith))

-- past the choices there are no alternatives
pub earliest_all : (d : DescriptionTree) (table : List (Option ℕ)) (n : ℕ) → length table ≡ n → length (choices d) ≤ n → ((c : ℕ) → c < n → IsEarliest d (plain_at d c) (entry table c))
    → (c : ℕ) → IsEarliest d (plain_at d c) (entry table c)
earliest_all d table n len h each c = ⊎_elim
    (λ (on : nat_lt c n ≡ true). each c (ltb-true c n on))
    (λ (off : nat_lt c n ≡ false). let past = ltb-false c n off in
    subst (λ (x : Option ℕ). IsEarliest d (plain_at d c) x) (sym (entry_past table c (omega arith)))
    (subst (λ (all : List ℕ). IsEarliest d all None) (sym (plain_past d c (omega arith))) (λ late. refl)))
    (cases_Bool (nat_lt c n))

pub late_all : (d : DescriptionTree) (seen : List Bool) (n : ℕ) → length seen ≡ n → length (choices d) ≤ n → ((c : ℕ) → c < n → saw seen c ≡ any_late d (plain_at d c))
    → (c : ℕ) → saw seen c ≡ any_late d (plain_at d c)
late_all d seen n len h each c = ⊎_elim
    (λ (on : nat_lt c n ≡ true). each c (ltb-true c n on))
    (λ (off : nat_lt c n ≡ false). let past = ltb-false c n off in
    saw_past seen c (omega arith) ∙ sym (ap (any_late d) (plain_past d c (omega arith))))
    (cases_Bool (nat_lt c n))
