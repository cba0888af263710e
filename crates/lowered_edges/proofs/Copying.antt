-- Copies of items and arrays are these.
use Rattle.std.proofs.Common.{◌≡◌, ◌<◌, ◌+◌, ◌∙◌, ℕ, List, [], ◌∷◌, ◌++◌, length, get_or, take, sym, ap₂}
use Rattle.std.proofs.lemmas.List.{take_more}
use Rattle.lisa_engine.specs.declared.parts.Item.{Item}
use Rattle.lisa_engine.specs.declared.parts.ArrayItem.{ArrayItem}

pub item_copied : (x : Item) (name : List ℕ) → name ≡ x.name → record { name = name; width = x.width } ≡ x
item_copied x name same = λ i. record { name = same i; width = x.width }

pub array_copied : (x : ArrayItem) (name : List ℕ) → name ≡ x.name → record { name = name; width = x.width; depth = x.depth } ≡ x
array_copied x name same = λ i. record { name = same i; width = x.width; depth = x.depth }

-- one more of all
pub copied_more : {X : Type 0} (all before after : List X) (i : ℕ) (x copy : X) → before ≡ take i all → i < length all → x ≡ get_or all i x → copy ≡ x → after ≡ before ++ copy ∷ [] → after ≡ take (i + 1) all
copied_more all before after i x copy was low is same more = more ∙ ap₂ (λ xs y. xs ++ y ∷ []) was (same ∙ is) ∙ sym (take_more all i x low)
