-- Two lists that are folded to the same, one element after the other.
use Rattle.std.proofs.Common.{◌≡◌, List, [], ◌∷◌, ◌++◌, length, Option, None, sym, ap, ◌∙◌, append_assoc, Global}
use Rattle.std.specs.Iterator.{Yields}
use Rattle.std.specs.Vec.Iter.{into_iter_items, into_iter_len, into_iter_steps}
use Rattle.std.specs.declared.vec.IntoIter.{IntoIter}
use Rattle.std.proofs.lemmas.Iterator.Adapters.{YieldsList-from_vec}
use Rattle.std.proofs.lemmas.Iterator.Consumers.{YieldsList-end}
use Rattle.std.proofs.lemmas.List.{append-nil, map-id}

-- whatever comes behind and is the same, the whole is the same
abbrev pub Matches : {A B C : Type 0} → (List A → C) → (List B → C) → List A → List B → Type 0
Matches {A} {B} f g xs ys = (rest : List A) (others : List B) → f rest ≡ g others → f (xs ++ rest) ≡ g (ys ++ others)

pub matches_none : {A B C : Type 0} (f : List A → C) (g : List B → C) → Matches f g [] []
matches_none f g rest others same = same

pub matches_more : {A B C : Type 0} (f : List A → C) (g : List B → C) (xs : List A) (ys : List B) (x : A) (y : B) → Matches f g xs ys
    → ((rest : List A) (others : List B) → f rest ≡ g others → f (x ∷ rest) ≡ g (y ∷ others)) → Matches f g (xs ++ x ∷ []) (ys ++ y ∷ [])
matches_more f g xs ys x y before one rest others same =
    ap f (append_assoc xs (x ∷ []) rest) ∙ before (x ∷ rest) (y ∷ others) (one rest others same) ∙ ap g (sym (append_assoc ys (y ∷ []) others))

pub matches_whole : {A B C : Type 0} (f : List A → C) (g : List B → C) (xs : List A) (ys : List B) → f [] ≡ g [] → Matches f g xs ys → f xs ≡ g ys
matches_whole f g xs ys ends all = ap f (sym (append-nil xs)) ∙ all [] [] ends ∙ ap g (append-nil ys)

-- what a `for` over a vector has yielded at its end
pub yields_whole : {A : Type 0} (s t u : IntoIter A Global) (xs yielded : List A) (r : Option A) → into_iter_items s ≡ xs → into_iter_len s ≡ length xs → Yields (into_iter_steps {X = A} {Z = Global}) s yielded t
    → r ≡ None → into_iter_steps t r u → yielded ≡ xs
yields_whole s t u xs yielded r items len before none step =
    let all = YieldsList-end (YieldsList-from_vec {s = s} xs items len) yielded t before r u none step in
    sym (map-id yielded) ∙ all.0
