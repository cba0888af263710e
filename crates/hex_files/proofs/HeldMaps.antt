-- The values of writes are what their map has.
use Rattle.std.proofs.Common.{◌≡◌, ℕ, ◌+◌, ◌-◌, ◌<◌, max, Bool, true, false, cond, List, [], ◌∷◌, length, map, Option, Some, None, unwrap_or, refl, ap, subst, ◌∙◌, arith, ◌⊎◌, inl, inr, ⊎_elim, get_or, eq-eqb}
use Rattle.std.specs.Prelude.{◌==◌, IsSome, is_some}
use Rattle.std.specs.List.{range_with_len}
use Rattle.std.proofs.lemmas.Bool.{cases_lt, eqb-true, false≢true}
use Rattle.std.proofs.lemmas.List.FromFn.{get_or-map-range_with_len, length-map-range_with_len}
use Rattle.hex_files.specs.Maps.{Write, or_else, held_at, reach, values_of, HoldsMap}

value_at : List Write → ℕ → ℕ
value_at ws place = unwrap_or (held_at ws place) 0

values_are : (ws : List Write) → values_of ws ≡ map (value_at ws) (range_with_len 0 (reach ws))
unfolding values_of value_at
values_are ws = refl

length-values : (ws : List Write) → length (values_of ws) ≡ reach ws
length-values ws = ap length (values_are ws) ∙ length-map-range_with_len (value_at ws) 0 (reach ws)

at_place : (later : Option ℕ) (b : Bool) (value : ℕ) → b ≡ true → IsSome (or_else later (cond b (Some value) None))
at_place None b value e = ap (λ (c : Bool). is_some (cond c (Some value) None)) e
at_place (Some v) b value e = refl

later_place : (later here : Option ℕ) → IsSome later → IsSome (or_else later here)
later_place None here e = absurd (false≢true e)
later_place (Some v) here e = refl

either_place : (later here : Option ℕ) → IsSome (or_else later here) → IsSome later ⊎ IsSome here
either_place None here e = inr e
either_place (Some v) here e = inl refl

here_place : (b : Bool) (value : ℕ) → IsSome (cond b (Some value) None) → b ≡ true
here_place true value e = refl
here_place false value e = absurd (false≢true e)

-- no place behind the last one is written
written_below : (ws : List Write) (place : ℕ) → IsSome (held_at ws place) → place < reach ws
unfolding held_at reach
written_below [] place e = absurd (false≢true e)
written_below (w ∷ ws) place e = ⊎_elim
    (λ later. omega (arith, written_below ws place later))
    (λ here. omega (arith, eqb-true w.0 place (here_place (w.0 == place) w.1 here)))
    (either_place (held_at ws place) (cond (w.0 == place) (Some w.1) None) e)

-- and the last one is
last_written : (ws : List Write) → 0 < reach ws → IsSome (held_at ws (reach ws - 1))
unfolding held_at reach
last_written [] pos = absurd (omega arith)
last_written (w ∷ ws) pos = ⊎_elim
    (λ lt.
    let e : reach ws - 1 ≡ max (w.0 + 1) (reach ws) - 1 = omega (arith, lt) in
    subst (λ (p : ℕ). IsSome (held_at (w ∷ ws) p)) e (later_place (held_at ws (reach ws - 1)) (cond (w.0 == reach ws - 1) (Some w.1) None) (last_written ws (omega (arith, lt)))))
    (λ le.
    let e : w.0 ≡ max (w.0 + 1) (reach ws) - 1 = omega (arith, le) in
    subst (λ (p : ℕ). IsSome (held_at (w ∷ ws) p)) e (at_place (held_at ws w.0) (w.0 == w.0) w.1 (eq-eqb w.0 w.0 refl)))
    (cases_lt w.0 (reach ws))

pub values_hold : (ws : List Write) → HoldsMap ws (values_of ws)
unfolding value_at
values_hold ws = record {
  each = λ place lt. ap (λ (l : List ℕ). get_or l place 0) (values_are ws) ∙ get_or-map-range_with_len (value_at ws) 0 (reach ws) place place 0 (omega (arith, lt, length-values ws)) (omega arith);
  all = λ place e. omega (arith, written_below ws place e, length-values ws);
  last = λ pos.
      let e : reach ws - 1 ≡ length (values_of ws) - 1 = omega (arith, length-values ws) in
      subst (λ (p : ℕ). IsSome (held_at ws p)) e (last_written ws (omega (arith, pos, length-values ws)));
}
