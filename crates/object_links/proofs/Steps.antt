-- One element more.
use Rattle.std.proofs.Common.{◌≡◌, ◌<◌, ◌+◌, ℕ, suc, Bool, Bor, List, ◌∷◌, length, get_or, drop, drop-cons, Option, None, Some, refl, ap, sym, ◌∙◌, add-one}
use Rattle.std.specs.Option.{option_or}
use Rattle.std.specs.Prelude.{find, ◌++◌}
use Rattle.std.proofs.lemmas.List.Folds.{find-append}
use Rattle.asm_source.specs.declared.parts.Term.{Term}
use Rattle.lisa_engine.specs.declared.parts.ArrayItem.{ArrayItem}
use Rattle.lisa_object.specs.declared.parts.Object.{Object}
use Rattle.lisa_object.specs.declared.parts.ObjectLine.{ObjectLine}

pub one : {T : Type 0} (all : List T) (i : ℕ) (d : T) → i < length all → d ≡ get_or all i d → drop i all ≡ d ∷ drop (i + 1) all
one {T = T} all i d h e =
    drop-cons all i d h
    ∙ ap (λ (s : T). s ∷ drop (suc i) all) (sym e)
    ∙ ap (λ (m : ℕ). d ∷ drop m all) (sym (add-one i))

pub one_memory : (all : List ArrayItem) (i : ℕ) (d : ArrayItem) → i < length all → d ≡ get_or all i d → drop i all ≡ d ∷ drop (i + 1) all
one_memory all i d h e = one all i d h e

pub one_line : (all : List ObjectLine) (i : ℕ) (d : ObjectLine) → i < length all → d ≡ get_or all i d → drop i all ≡ d ∷ drop (i + 1) all
one_line all i d h e = one all i d h e

pub one_object : (all : List Object) (i : ℕ) (d : Object) → i < length all → d ≡ get_or all i d → drop i all ≡ d ∷ drop (i + 1) all
one_object all i d h e = one all i d h e

pub or_assoc : {V : Type 0} (x y z : Option V) → option_or (option_or x y) z ≡ option_or x (option_or y z)
or_assoc None y z = refl
or_assoc (Some x) y z = refl

pub or_none : {V : Type 0} (x : Option V) → option_or x None ≡ x
or_none None = refl
or_none (Some x) = refl

pub one_term : (all : List Term) (i : ℕ) (d : Term) → i < length all → d ≡ get_or all i d → drop i all ≡ d ∷ drop (i + 1) all
one_term all i d h e = one all i d h e

pub find_behind : (p : List ℕ → Bool) (xs ys : List (List ℕ)) → find p (xs ++ ys) ≡ option_or (find p xs) (find p ys)
find_behind p xs ys = find-append p xs ys

pub one_name : (all : List (Bor (List ℕ))) (i : ℕ) (d : Bor (List ℕ)) → i < length all → d ≡ get_or all i d → drop i all ≡ d ∷ drop (i + 1) all
one_name all i d h e = one all i d h e
