-- The place of a field gives its type.
use Rattle.std.proofs.Common.{◌≡◌, ℕ, suc, List, [], ◌∷◌, Option, None, Some, Bool, true, false, cond, refl, ap, sym, ◌∙◌}
use Rattle.std.specs.Prelude.{position, option_map, slice_get}
use Rattle.lisa_tree.specs.declared.tokens.Shape.{Shape}
use Rattle.lisa_tree.specs.Same.{same_name}
use Rattle.lisa_tree.specs.Resources.{shape_in}
use Rattle.description_tables.proofs.Positions.{position-cons}

abbrev by_place : Option ℕ → List (Shape × List ℕ) → Option Shape
by_place None all = None
by_place (Some k) all = option_map (λ (f : Shape × List ℕ). f.0) (slice_get all k)

later : (f : Shape × List ℕ) (all : List (Shape × List ℕ)) (found : Option ℕ) → by_place (option_map suc found) (f ∷ all) ≡ by_place found all
later f all None = refl
later f all (Some k) = refl

first_or_later : (b : Bool) (f : Shape × List ℕ) (all : List (Shape × List ℕ)) (found : Option ℕ) (rest : Option Shape) → by_place found all ≡ rest
    → by_place (cond b (Some 0) (option_map suc found)) (f ∷ all) ≡ cond b (Some f.0) rest
first_or_later true f all found rest e = refl
first_or_later false f all found rest e = later f all found ∙ e

by_place_is : (n : List ℕ) (all : List (Shape × List ℕ)) → by_place (position (λ (f : Shape × List ℕ). same_name n f.1) all) all ≡ shape_in n all
by_place_is n [] = refl
by_place_is n (f ∷ all) =
    ap (λ (p : Option ℕ). by_place p (f ∷ all)) (position-cons (λ (f : Shape × List ℕ). same_name n f.1) f all)
    ∙ first_or_later (same_name n f.1) f all _ _ (by_place_is n all)

pub field_is : (n : List ℕ) (all : List (Shape × List ℕ)) (k : ℕ) → position (λ (f : Shape × List ℕ). same_name n f.1) all ≡ Some k → option_map (λ (f : Shape × List ℕ). f.0) (slice_get all k) ≡ shape_in n all
field_is n all k e = sym (ap (λ (p : Option ℕ). by_place p all) e) ∙ by_place_is n all

pub field_none : (n : List ℕ) (all : List (Shape × List ℕ)) → position (λ (f : Shape × List ℕ). same_name n f.1) all ≡ None → None ≡ shape_in n all
field_none n all e = sym (ap (λ (p : Option ℕ). by_place p all) e) ∙ by_place_is n all
