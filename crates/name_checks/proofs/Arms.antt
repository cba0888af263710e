-- An arm for several places: what holds at each of them holds at the one that stands there.
use Rattle.std.proofs.Common.{◌≡◌, ◌⊎◌, inl, inr, sym, subst}

pub last_arm : {S : Type 0} (P : S → Type 0) {s t : S} → P t → s ≡ t → P s
last_arm P h e = subst P (sym e) h

pub one_arm : {S A : Type 0} (P : S → Type 0) {s t : S} → P t → (A → P s) → (s ≡ t) ⊎ A → P s
one_arm P h others (inl e) = subst P (sym e) h
one_arm P h others (inr other) = others other
