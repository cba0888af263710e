-- The first fault of places.
use Rattle.std.proofs.Common.{◌≡◌, List, [], ◌∷◌, ◌++◌, Option, None, Some, refl, ap, ◌∙◌, false}
use Rattle.std.specs.Option.{option_or, is_some}
use Rattle.description_places.specs.Places.{At, Condition, first}

pub or_assoc : {F : Type 0} (a b c : Option F) → option_or a (option_or b c) ≡ option_or (option_or a b) c
or_assoc None b c = refl
or_assoc (Some x) b c = refl

pub gone : {F : Type 0} (a : Option F) → is_some a ≡ false → a ≡ None
gone None e = refl
gone (Some x) e = absurd (cc e)

pub never : {F : Type 0} (a : Option F) → ((x : F) → a ≡ Some x → ⊥) → is_some a ≡ false
never None no_fault = refl
never (Some x) no_fault = absurd (no_fault x refl)

pub first_append : {F : Type 0} (breaks : Condition F) (xs ys : List At) → first breaks (xs ++ ys) ≡ option_or (first breaks xs) (first breaks ys)
first_append breaks [] ys = refl
first_append breaks (x ∷ xs) ys = ap (option_or (breaks x.operation x.region x.scope x.place)) (first_append breaks xs ys) ∙ or_assoc (breaks x.operation x.region x.scope x.place) (first breaks xs) (first breaks ys)
