-- Places among others, and conditions that are broken at none of them.
use Rattle.std.proofs.Common.{◌≡◌, ◌⊎◌, ◌↔◌, List, [], ◌∷◌, ◌++◌, Option, None, Some, refl, sym, inl, inr, ⊎_elim, subst}
use Rattle.std.specs.Option.{option_or}
use Rattle.lisa_tree.specs.declared.faults.DescFault.{DescFault}
use Rattle.lisa_tree.specs.Descriptions.{DescriptionTree}
use Rattle.description_places.specs.Places.{At, Condition, first, description_places}
use Rattle.lisa_machine.specs.Freedom.{AreFree, IsFree, IsFreeAt, IsAmong, Stands, AllStand}

pub among_left : (a : At) (xs ys : List At) → IsAmong a xs → IsAmong a (xs ++ ys)
among_left a [] ys h = absurd h
among_left a (x ∷ xs) ys (inl e) = inl e
among_left a (x ∷ xs) ys (inr h) = inr (among_left a xs ys h)

pub among_right : (a : At) (xs ys : List At) → IsAmong a ys → IsAmong a (xs ++ ys)
among_right a [] ys h = h
among_right a (x ∷ xs) ys h = inr (among_right a xs ys h)

pub among_either : (a : At) (xs ys : List At) → IsAmong a (xs ++ ys) → IsAmong a xs ⊎ IsAmong a ys
among_either a [] ys h = inr h
among_either a (x ∷ xs) ys (inl e) = inl (inl e)
among_either a (x ∷ xs) ys (inr h) = ⊎_elim (λ l. inl (inr l)) (λ r. inr r) (among_either a xs ys h)

-- ---- free places

or_first : (x y : Option DescFault) → option_or x y ≡ None → x ≡ None
or_first None y e = refl
or_first (Some f) y e = e

or_second : (x y : Option DescFault) → option_or x y ≡ None → y ≡ None
or_second None y e = e
or_second (Some f) y e = absurd (cc e)

or_none : (x y : Option DescFault) → x ≡ None → y ≡ None → option_or x y ≡ None
or_none None y e f = f
or_none (Some z) y e f = e

module _ (breaks : Condition DescFault) where
  pub free_each : (all : List At) → AreFree breaks all → (a : At) → IsAmong a all → IsFreeAt breaks a
  free_each [] e a h = absurd h
  free_each (b ∷ rest) e a (inl same) = subst (λ (z : At). IsFreeAt breaks z) (sym same) (or_first (breaks b.operation b.region b.scope b.place) (first breaks rest) e)
  free_each (b ∷ rest) e a (inr h) = free_each rest (or_second (breaks b.operation b.region b.scope b.place) (first breaks rest) e) a h

  pub free_all : (all : List At) → ((a : At) → IsAmong a all → IsFreeAt breaks a) → AreFree breaks all
  free_all [] f = refl
  free_all (b ∷ rest) f = or_none (breaks b.operation b.region b.scope b.place) (first breaks rest) (f b (inl refl)) (free_all rest (λ a h. f a (inr h)))

  pub free_place : (d : DescriptionTree) → IsFree breaks d → (a : At) → Stands d a → IsFreeAt breaks a
  free_place d e a h = free_each (description_places d) e a h

  pub free_places : (d : DescriptionTree) → IsFree breaks d → (all : List At) → AllStand d all → AreFree breaks all
  free_places d e all f = free_all all (λ a h. free_place d e a (f a h))

  pub free_first : (a : At) (rest : List At) → AreFree breaks (a ∷ rest) ↔ (IsFreeAt breaks a × AreFree breaks rest)
  free_first a rest = (
    λ e. (or_first (breaks a.operation a.region a.scope a.place) (first breaks rest) e, or_second (breaks a.operation a.region a.scope a.place) (first breaks rest) e),
    λ p. or_none (breaks a.operation a.region a.scope a.place) (first breaks rest) p.0 p.1,
  )

  pub free_both : (xs ys : List At) → AreFree breaks (xs ++ ys) ↔ (AreFree breaks xs × AreFree breaks ys)
  free_both xs ys = (
    λ e. (free_all xs (λ a h. free_each (xs ++ ys) e a (among_left a xs ys h)), free_all ys (λ a h. free_each (xs ++ ys) e a (among_right a xs ys h))),
    λ p. free_all (xs ++ ys) (λ a h. ⊎_elim (λ l. free_each xs p.0 a l) (λ r. free_each ys p.1 a r) (among_either a xs ys h)),
  )

pub stand_both : (d : DescriptionTree) (xs ys : List At) → AllStand d (xs ++ ys) ↔ (AllStand d xs × AllStand d ys)
stand_both d xs ys = (
  λ f. (λ a h. f a (among_left a xs ys h), λ a h. f a (among_right a xs ys h)),
  λ p a h. ⊎_elim (λ l. p.0 a l) (λ r. p.1 a r) (among_either a xs ys h),
)

pub stand_first : (d : DescriptionTree) (a : At) (rest : List At) → AllStand d (a ∷ rest) ↔ (Stands d a × AllStand d rest)
stand_first d a rest = (
  λ f. (f a (inl refl), λ b h. f b (inr h)),
  λ p b h. ⊎_elim (λ same. subst (λ (z : At). Stands d z) (sym same) p.0) (λ later. p.1 b later) h,
)
