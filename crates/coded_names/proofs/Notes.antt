-- One more item.
use Rattle.std.proofs.Common.{◌≡◌, ◌<◌, ◌+◌, ℕ, suc, List, ◌∷◌, length, get_or, drop, drop-cons, Option, None, Some, refl, ap, sym, ◌∙◌, add-one}
use Rattle.std.specs.Option.{option_or}
use Rattle.lisa_tree.specs.declared.descriptions.CodingItem.{CodingItem}
use Rattle.lisa_tree.specs.declared.descriptions.SyntaxItem.{SyntaxItem}

one : {T : Type 0} (all : List T) (i : ℕ) (d : T) → i < length all → d ≡ get_or all i d → drop i all ≡ d ∷ drop (i + 1) all
one {T = T} all i d h e =
    drop-cons all i d h
    ∙ ap (λ (s : T). s ∷ drop (suc i) all) (sym e)
    ∙ ap (λ (m : ℕ). d ∷ drop m all) (sym (add-one i))

pub one_item : (all : List CodingItem) (i : ℕ) (d : CodingItem) → i < length all → d ≡ get_or all i d → drop i all ≡ d ∷ drop (i + 1) all
one_item all i d h e = one all i d h e

pub one_part : (all : List SyntaxItem) (i : ℕ) (d : SyntaxItem) → i < length all → d ≡ get_or all i d → drop i all ≡ d ∷ drop (i + 1) all
one_part all i d h e = one all i d h e

pub or_assoc : {V : Type 0} (x y z : Option V) → option_or (option_or x y) z ≡ option_or x (option_or y z)
or_assoc None y z = refl
or_assoc (Some x) y z = refl

pub or_none : {V : Type 0} (x : Option V) → option_or x None ≡ x
or_none None = refl
or_none (Some x) = refl
