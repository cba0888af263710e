-- What stands at a place of a list that is shown.
use Rattle.std.proofs.Common.{◌≡◌, ◌∙◌, ◌<◌, ℕ, List, length, get_or, ap, sym, subst}
use Rattle.std.proofs.lemmas.List.{get_or_default}

pub in_range : {X Y : Type 0} (kept shown : List X) (others : List Y) (k : ℕ) → kept ≡ shown → length shown ≡ length others → k < length others → k < length kept
in_range kept shown others k is long below = subst (λ (n : ℕ). k < n) (sym (ap length is ∙ long)) below

pub read_at : {X : Type 0} (kept shown : List X) (k : ℕ) (x d : X) → kept ≡ shown → k < length kept → x ≡ get_or kept k x → x ≡ get_or shown k d
read_at kept shown k x d is below e = e ∙ get_or_default kept k x d below ∙ ap (λ (l : List _). get_or l k d) is
