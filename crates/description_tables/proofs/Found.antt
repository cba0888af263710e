-- Tables of operations in a row.
use Rattle.std.proofs.Common.{◌≡◌, ◌<◌, ◌≤◌, ◌&&◌, ℕ, zero, suc, List, [], ◌∷◌, ◌++◌, Option, None, Some, Bool, true, false, cond, nat_eq, length, get_or, set, refl, ap, sym, ◌∙◌, arith}
use Rattle.std.proofs.Math.Dec.{eqb-suc-suc, eqb-suc-zero}
use Rattle.std.proofs.lemmas.Bool.{ne_eqb}
use Rattle.std.specs.List.{list_all}
use Rattle.std.specs.Option.{option_or}
use Rattle.std.specs.BTreeMap.{BTreeMap}
use Rattle.lisa_tree.specs.Same.{same_name}
use Rattle.name_tables.specs.TableViews.{value_of}
use Rattle.description_tables.specs.Laws.{find_in}

or_none : (x : Option ℕ) (b c : Bool) (place : ℕ) → b ≡ false → x ≡ option_or x (cond (b && c) (Some place) None)
or_none None b c place e = ap (λ (a : Bool). cond (a && c) (Some place) None) (sym e)
or_none (Some k) b c place e = refl

pub found_none : (tables : List (BTreeMap (List ℕ) ℕ)) (t : BTreeMap (List ℕ) ℕ) (o : ℕ) (n : List ℕ) → t.entries ≡ [] → find_in tables o n ≡ None → find_in (tables ++ t ∷ []) o n ≡ None
found_none [] t zero n empty none = grind (arith)
found_none [] t (suc o) n empty none = refl
found_none (u ∷ tables) t zero n empty none = none
found_none (u ∷ tables) t (suc o) n empty none = found_none tables t o n empty none

pub found_entered : (tables : List (BTreeMap (List ℕ) ℕ)) (at : ℕ) (old new : BTreeMap (List ℕ) ℕ) (name : List ℕ) (place o : ℕ) (n : List ℕ) → at < length tables → old ≡ get_or tables at old
    → value_of new n ≡ option_or (value_of old n) (cond (same_name n name) (Some place) None)
    → find_in (set tables at new) o n ≡ option_or (find_in tables o n) (cond (nat_eq at o && same_name n name) (Some place) None)
found_entered [] at old new name place o n h is e = absurd (omega arith)
found_entered (t ∷ tables) zero old new name place zero n h is e = e ∙ ap (λ (u : BTreeMap (List ℕ) ℕ). option_or (value_of u n) (cond (same_name n name) (Some place) None)) is
found_entered (t ∷ tables) zero old new name place (suc o) n h is e = or_none (find_in tables o n) (nat_eq 0 (suc o)) (same_name n name) place (ne_eqb 0 (suc o) (λ f. absurd (cc f)))
found_entered (t ∷ tables) (suc at) old new name place zero n h is e = or_none (value_of t n) (nat_eq (suc at) 0) (same_name n name) place (eqb-suc-zero at)
found_entered (t ∷ tables) (suc at) old new name place (suc o) n h is e =
    found_entered tables at old new name place o n (omega arith) is e
    ∙ ap (λ (b : Bool). option_or (find_in tables o n) (cond (b && same_name n name) (Some place) None)) (sym (eqb-suc-suc at o))

pub found_at : (tables : List (BTreeMap (List ℕ) ℕ)) (o : ℕ) (t : BTreeMap (List ℕ) ℕ) (n : List ℕ) → o < length tables → t ≡ get_or tables o t → value_of t n ≡ find_in tables o n
found_at [] o t n h is = absurd (omega arith)
found_at (u ∷ tables) zero t n h is = ap (λ (v : BTreeMap (List ℕ) ℕ). value_of v n) is
found_at (u ∷ tables) (suc o) t n h is = found_at tables o t n (omega arith) is

pub found_past : (tables : List (BTreeMap (List ℕ) ℕ)) (o : ℕ) (n : List ℕ) → length tables ≤ o → find_in tables o n ≡ None
found_past [] o n h = refl
found_past (u ∷ tables) zero n h = absurd (omega arith)
found_past (u ∷ tables) (suc o) n h = found_past tables o n (omega arith)

pub each : {X : Type 0} (p : X → Bool) (xs : List X) (i : ℕ) (x : X) → list_all p xs ≡ true → i < length xs → x ≡ get_or xs i x → p x ≡ true
each p [] i x all h is = absurd (omega arith)
each p (y ∷ xs) zero x all h is = ap p is ∙ on_left (p y) (list_all p xs) all
  where
    on_left : (a b : Bool) → (a && b) ≡ true → a ≡ true
    on_left a b h = grind arith
each p (y ∷ xs) (suc i) x all h is = each p xs i x (on_right (p y) (list_all p xs) all) (omega arith) is
  where
    on_right : (a b : Bool) → (a && b) ≡ true → b ≡ true
    on_right a b h = grind arith
