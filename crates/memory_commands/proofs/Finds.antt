-- What holds of what is found in a list.
use Rattle.std.proofs.Common.{◌≡◌, ◌∙◌, Bool, true, false, cond, List, [], ◌∷◌, Some, refl, sym, ap, subst}
use Rattle.std.specs.Prelude.{find, zip}
use Rattle.std.specs.List.{AllByRecursion}
use Rattle.lisa_outcomes.proofs.Told.{none_is_no_some, some_is}

-- it passes the test, and what holds of each holds of it
pub found : {X : Type 0} (p : X → Bool) (P : X → Type 0) (xs : List X) (x : X) → AllByRecursion P xs → find p xs ≡ Some x → P x × (p x ≡ true)
found p P [] x all e = absurd (none_is_no_some x e)
found p P (y ∷ ys) x all e = by (p y) refl (λ h. found p P ys x all.1 h) e
  where
    by : (b : Bool) → p y ≡ b → (find p ys ≡ Some x → P x × (p x ≡ true)) → cond b (Some y) (find p ys) ≡ Some x → P x × (p x ≡ true)
    by true is later h = let same = some_is h in (subst P same all.0, ap p (sym same) ∙ is)
    by false is later h = later h

-- what holds of each of a list holds of the first part of each pair
pub first_all : {X Y : Type 0} (P : X → Type 0) (xs : List X) (ys : List Y) → AllByRecursion P xs → AllByRecursion (λ (t : X × Y). P t.0) (zip xs ys)
first_all P [] ys all = tt
first_all P (x ∷ xs) [] all = tt
first_all P (x ∷ xs) (y ∷ ys) all = (all.0, first_all P xs ys all.1)
