-- There is no first fault exactly where each place is without fault.
use Rattle.std.proofs.Common.{◌≡◌, List, [], ◌∷◌, Option, None, Some, refl, ap, ◌∙◌}
use Rattle.std.specs.List.{AllByRecursion}
use Rattle.std.specs.Option.{option_or}
use Rattle.description_places.specs.Places.{At, Condition, first}

left_none : {F : Type 0} (a b : Option F) → option_or a b ≡ None → a ≡ None
left_none None b e = refl
left_none (Some x) b e = absurd (cc e)

right_none : {F : Type 0} (a b : Option F) → option_or a b ≡ None → b ≡ None
right_none None b e = e
right_none (Some x) b e = absurd (cc e)

pub all_sound : {F : Type 0} (breaks : Condition F) (all : List At) → first breaks all ≡ None → AllByRecursion (λ (a : At). breaks a.operation a.region a.scope a.place ≡ None) all
all_sound breaks [] e = tt
all_sound breaks (a ∷ all) e = (left_none _ _ e, all_sound breaks all (right_none (breaks a.operation a.region a.scope a.place) _ e))

pub none_found : {F : Type 0} (breaks : Condition F) (all : List At) → AllByRecursion (λ (a : At). breaks a.operation a.region a.scope a.place ≡ None) all → first breaks all ≡ None
none_found breaks [] e = refl
none_found breaks (a ∷ all) e = ap (λ z. option_or z (first breaks all)) e.0 ∙ none_found breaks all e.1
