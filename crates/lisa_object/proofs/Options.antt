-- Chains of steps that may fail.
use Rattle.std.proofs.Common.{◌≡◌, Bool, true, false, cond, Option, Some, None, refl}
use Rattle.lisa_object.specs.Reading.{◌>>=◌}

pub bind_some : {A B : Type 0} (r : Option A) (f : A → Option B) (y : B) → (r >>= f) ≡ Some y → (x : A) × (r ≡ Some x) × (f x ≡ Some y)
bind_some (Some x) f y e = (x, refl, e)
bind_some None f y e = absurd cc

pub some_is : {A : Type 0} (x y : A) → ◌≡◌ {A = Option A} (Some x) (Some y) → x ≡ y
some_is x y e = cc

-- what passed a test
pub guard_some : {A : Type 0} (t : Bool) (x y : A) → ◌≡◌ {A = Option A} (cond t (Some x) None) (Some y) → (t ≡ true) × (x ≡ y)
guard_some true x y e = (refl, cc)
guard_some false x y e = absurd cc

pub cond_some : {A : Type 0} (t : Bool) (r : Option A) (y : A) → cond t r None ≡ Some y → (t ≡ true) × (r ≡ Some y)
cond_some true r y e = (refl, e)
cond_some false r y e = absurd cc
