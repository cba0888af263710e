-- What the values of a list make together, as the least that is above them all.
use Rattle.std.proofs.Common.{◌≡◌, ◌||◌, ℕ, Bool, true, false, List, [], ◌∷◌, Option, None, Some, nat_eq, refl, ap, sym, ◌∙◌, subst, inl, inr}
use Rattle.std.proofs.lemmas.Bool.{or_cases, eq-eqb, eqb-true}
use Rattle.std.proofs.lemmas.Option.{same_Some}
use Rattle.graph_paths.specs.Paths.{is_in}
use Rattle.description_types.specs.Facts.{together, merged_from, merged}
use Rattle.description_types.specs.Sourced.{IsJoin}

module _ {T : Type 0} (f : T → T → T) (join : IsJoin f) where
  pub below_then : (x y z : T) → f x y ≡ y → f y z ≡ z → f x z ≡ z
  below_then x y z e g = ap (f x) (sym g) ∙ sym (join.associates x y z) ∙ ap (λ (t : T). f t z) e ∙ g

  pub one_value : (x y : T) → f x y ≡ y → f y x ≡ x → x ≡ y
  one_value x y e g = sym g ∙ join.commutes y x ∙ e

  first_below : (x y : T) → f x (f x y) ≡ f x y
  first_below x y = sym (join.associates x x y) ∙ ap (λ (t : T). f t y) (join.idles x)

  second_below : (x y : T) → f y (f x y) ≡ f x y
  second_below x y = join.commutes y (f x y) ∙ join.associates x y y ∙ ap (f x) (join.idles y)

  both_below : (x y s : T) → f x s ≡ s → f y s ≡ s → f (f x y) s ≡ s
  both_below x y s e g = join.associates x y s ∙ ap (f x) g ∙ e

  -- a value that is known, and below another one
  pub record Below (value : Option T) (t : T) : Type 0 where
    pub it : T
    pub is : value ≡ Some it
    pub below : f it t ≡ t

  module _ (value : ℕ → Option T) where
    none_from : (all : List ℕ) → merged_from f value None all ≡ None
    none_from [] = refl
    none_from (a ∷ rest) = none_from rest

    -- the least that is above one value and those of a list
    record From (x : T) (all : List ℕ) (t : T) : Type 0 where
      pub first : f x t ≡ t
      pub each : (k : ℕ) → is_in k all ≡ true → Below (value k) t
      pub least : (s : T) → f x s ≡ s → ((k : ℕ) (u : T) → is_in k all ≡ true → value k ≡ Some u → f u s ≡ s) → f t s ≡ s

    here_in : (a : ℕ) (rest : List ℕ) → is_in a (a ∷ rest) ≡ true
    here_in a rest = ap (λ (b : Bool). b || is_in a rest) (eq-eqb a a refl)

    later_in : (k a : ℕ) (rest : List ℕ) → is_in k rest ≡ true → is_in k (a ∷ rest) ≡ true
    later_in k a rest e = by (nat_eq k a)
      where
        by : (b : Bool) → (b || is_in k rest) ≡ true
        by true = refl
        by false = e

    from : (x : T) (all : List ℕ) (t : T) → merged_from f value (Some x) all ≡ Some t → From x all t
    from x [] t e =
        let same : x ≡ t = same_Some x t e in
        record { first = ap (λ (y : T). f y t) same ∙ join.idles t; each = λ k h. absurd (cc h); least = λ s h each. subst (λ (y : T). f y s ≡ s) same h }
    from x (a ∷ rest) t e = by (value a) refl (λ y k. from (f x y) rest t k)
      where
        by : (r : Option T) → value a ≡ r → ((y : T) → merged_from f value (Some (f x y)) rest ≡ Some t → From (f x y) rest t) → From x (a ∷ rest) t
        by None is next = absurd (cc (sym (none_from rest) ∙ sym (ap (λ (r : Option T). merged_from f value (together f (Some x) r) rest) is) ∙ e))
        by (Some y) is next =
            let more = next y (sym (ap (λ (r : Option T). merged_from f value (together f (Some x) r) rest) is) ∙ e) in
            record {
              first = below_then x (f x y) t (first_below x y) more.first;
              each = λ k h. elim (or_cases (nat_eq k a) (is_in k rest) h) [
                | inl same ↦ record { it = y; is = ap value (eqb-true k a same) ∙ is; below = below_then y (f x y) t (second_below x y) more.first }
                | inr later ↦ more.each k later
              ];
              least = λ s h each. more.least s (both_below x y s h (each a y (here_in a rest) is)) (λ k u l g. each k u (later_in k a rest l) g);
            }

    -- the least that is above all values of a list
    pub record Together (all : List ℕ) (t : T) : Type 0 where
      pub each : (k : ℕ) → is_in k all ≡ true → Below (value k) t
      pub least : (s : T) → ((k : ℕ) (u : T) → is_in k all ≡ true → value k ≡ Some u → f u s ≡ s) → f t s ≡ s
      pub number : ℕ
      pub listed : is_in number all ≡ true

    pub are_together : (all : List ℕ) (t : T) → merged f value all ≡ Some t → Together all t
    are_together [] t e = absurd (cc e)
    are_together (a ∷ rest) t e = by (value a) refl
      where
        by : (r : Option T) → value a ≡ r → Together (a ∷ rest) t
        by None is = absurd (cc (sym (none_from rest) ∙ sym (ap (λ (r : Option T). merged_from f value r rest) is) ∙ e))
        by (Some x) is =
            let more = from x rest t (sym (ap (λ (r : Option T). merged_from f value r rest) is) ∙ e) in
            record {
              each = λ k h. elim (or_cases (nat_eq k a) (is_in k rest) h) [
                | inl same ↦ record { it = x; is = ap value (eqb-true k a same) ∙ is; below = more.first }
                | inr later ↦ more.each k later
              ];
              least = λ s each. more.least s (each a x (here_in a rest) is) (λ k u l g. each k u (later_in k a rest l) g);
              number = a;
              listed = here_in a rest;
            }

    has_from : (x : T) (all : List ℕ) → ((k : ℕ) → is_in k all ≡ true → (u : T) × (value k ≡ Some u)) → (t : T) × (merged_from f value (Some x) all ≡ Some t)
    has_from x [] each = (x, refl)
    has_from x (a ∷ rest) each =
        let here = each a (here_in a rest) in
        let more = has_from (f x here.0) rest (λ k l. each k (later_in k a rest l)) in
        (more.0, ap (λ (r : Option T). merged_from f value (together f (Some x) r) rest) here.1 ∙ more.1)

    pub has_together : (all : List ℕ) (k : ℕ) → is_in k all ≡ true → ((k : ℕ) → is_in k all ≡ true → (u : T) × (value k ≡ Some u)) → (t : T) × (merged f value all ≡ Some t)
    has_together [] k h each = absurd (cc h)
    has_together (a ∷ rest) k h each =
        let here = each a (here_in a rest) in
        let more = has_from here.0 rest (λ k l. each k (later_in k a rest l)) in
        (more.0, ap (λ (r : Option T). merged_from f value r rest) here.1 ∙ more.1)
