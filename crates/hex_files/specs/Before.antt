-- Elements with those before them, and what a fault refuses.
use Rattle.std.specs.Prelude.{List, [], ◌∷◌, map, Option, Some, None, Result, Ok, Err}

-- each element of a list, with those before it
abbrev pub with_before : {A : Type 0} → List A → List (List A × A)
with_before [] = []
with_before (x ∷ xs) = ([], x) ∷ map (λ y. (x ∷ y.0, y.1)) (with_before xs)

-- this, where there is no fault
abbrev pub unless : {A F : Type 0} → Option F → A → Result A F
unless None x = Ok x
unless (Some fault) x = Err fault
