-- The variable of a loop has a type with each value that the loop gives it, and the loop has a turn for each number below its limit.
use Rattle.std.proofs.Common.{◌≡◌, ◌<◌, ◌≤◌, ◌↔◌, ◌+◌, ◌*◌, ◌-◌, ◌/◌, ◌%◌, ◌^◌, ◌||◌, ◌&&◌, ℕ, suc, min, Option, None, Some, Bool, true, false, cond, nat_eq, nat_lt, refl, sym, ap, ◌∙◌, arith, subst}
use Rattle.std.specs.Cmp.Lexicographic.{same_text}
use Rattle.std.proofs.lemmas.Bool.{and_parts, ltb-true, ltb-false, eqb-true}
use Rattle.std.proofs.lemmas.Nat.{mul-le}
use Rattle.std.proofs.lemmas.Option.{same_Some}
use Rattle.std.proofs.lemmas.Grind.{div_ceil_times}
use Rattle.lisa_tree.specs.declared.tokens.Shape.{Shape}
use Rattle.lisa_tree.specs.declared.faults.DescFault.TheVariants as faults
use Rattle.lisa_tree.specs.Statements.{HeadTree}
use Rattle.lisa_tree.specs.Descriptions.{DescriptionTree}
use Rattle.description_places.specs.declared.sites.Region.{Region}
use Rattle.description_places.specs.Literals.{literal}
use Rattle.description_places.specs.Scopes.{Scope}
use Rattle.description_places.specs.Places as places
use Rattle.description_places.specs.Places.{at}
use Rattle.lisa_tree.specs.Same.{same_name}
use Rattle.lisa_tree.specs.Operations.{name_at}
use Rattle.lisa_machine.specs.shape_checks.declared.bounds.Bounds.{Bounds}
use Rattle.lisa_machine.specs.shape_checks.Bounds.{limit_of, step_of, bounds_with, where_typed, bounds_of, turns, last_value, number_bits, holds, holds_values}
use Rattle.lisa_machine.specs.shape_checks.Shapes.{is_width, counter_width, bad_width, open_fault, without_bound}
use Rattle.lisa_machine.specs.Freedom.{IsFree, Stands}
use Rattle.lisa_machine.specs.Running.{FitsLoop}
use Rattle.lisa_machine.proofs.Among.{free_place}
use Rattle.use_promises.specs.Counting.{HoldsValues, TurnsBelow}

-- ---- bounds

record AreBounds (x y z : Option ℕ) (b : Bounds) : Type 0 where
  pub first : x ≡ Some b.first
  pub limit : y ≡ Some b.limit
  pub step : z ≡ Some b.step
  pub onward : 0 < b.step

with_bounds : (x y z : Option ℕ) (b : Bounds) → bounds_with x y z ≡ Some b → AreBounds x y z b
with_bounds None y z b e = absurd (cc e)
with_bounds (Some first) None z b e = absurd (cc e)
with_bounds (Some first) (Some limit) None b e = absurd (cc e)
with_bounds (Some first) (Some limit) (Some step) b e = by (nat_lt 0 step) refl e
  where
    made : Bounds
    made = record { first = first; limit = limit; step = step }

    by : (t : Bool) → nat_lt 0 step ≡ t → cond t (Some made) None ≡ Some b → AreBounds (Some first) (Some limit) (Some step) b
    by false is f = absurd (cc f)
    by true is f = let same : made ≡ b = cc f in subst (AreBounds (Some first) (Some limit) (Some step)) same (record { first = refl; limit = refl; step = refl; onward = ltb-true 0 step is })

-- ---- values

each_held : (shape : Shape) (b : Bounds) → holds_values shape (Some b) ≡ true → (k : ℕ) → k < turns b → b.first + k * b.step < 2 ^ number_bits shape.kind shape.width
each_held shape b e k low = by (nat_eq (turns b) 0) (holds shape (last_value b)) refl refl e
  where
    by : (x y : Bool) → nat_eq (turns b) 0 ≡ x → holds shape (last_value b) ≡ y → (x || y) ≡ true → b.first + k * b.step < 2 ^ number_bits shape.kind shape.width
    by true y none is f = let no_turn : turns b ≡ 0 = eqb-true (turns b) 0 none in absurd (omega (arith, no_turn, low))
    by false true none is f =
        let last : last_value b < 2 ^ number_bits shape.kind shape.width = ltb-true (last_value b) (2 ^ number_bits shape.kind shape.width) is in
        let within : k ≤ turns b - 1 = omega (arith, low) in
        let less : k * b.step ≤ (turns b - 1) * b.step = mul-le k b.step (turns b - 1) b.step within (omega arith) in
        under (b.first) (k * b.step) ((turns b - 1) * b.step) (2 ^ number_bits shape.kind shape.width) less last
      where
        under : (a x y m : ℕ) → x ≤ y → a + y < m → a + x < m
        under a x y m l h = omega (arith, l, h)
    by false false none is f = absurd (cc f)

-- ---- turns

-- so many times a step are the least that reach what is left
below_all : (a n k s : ℕ) → a ≤ n * s → k * s < a → k < n
below_all a n k s reach low = by (nat_lt k n) refl
  where
    by : (t : Bool) → nat_lt k n ≡ t → k < n
    by true on = ltb-true k n on
    by false off = let most = mul-le n s k s (ltb-false k n off) (omega arith) in absurd (omega (arith, most, reach, low))

below_each : (a n k s : ℕ) → n * s < a + s → k < n → k * s < a
below_each a n k s reach low = let most = mul-le (suc k) s n s (omega (arith, low)) (omega arith) in omega (arith, most, reach)

exact_turns : (b : Bounds) → 0 < b.step → (k : ℕ) → (k < turns b) ↔ (b.first + k * b.step < b.limit)
exact_turns b onward k =
    let t = div_ceil_times (b.limit - b.first) b.step onward in (
      (λ low. shift b.first b.limit (k * b.step) (below_each (b.limit - b.first) (turns b) k b.step t.1 low)),
      (λ low. below_all (b.limit - b.first) (turns b) k b.step t.0 (back b.first b.limit (k * b.step) low)),
    )
  where
    shift : (first limit x : ℕ) → x < limit - first → first + x < limit
    shift first limit x h = omega (arith, h)

    back : (first limit x : ℕ) → first + x < limit → x < limit - first
    back first limit x h = omega (arith, h)

pub turns_below : (head : HeadTree) → HoldsValues head → FitsLoop head → TurnsBelow head
turns_below head h fits =
    let same : h.bounds ≡ fits.bounds = same_Some h.bounds fits.bounds (sym h.are ∙ fits.are) in
    record {
      shape = h.shape;
      typed = h.typed;
      bounds = h.bounds;
      are = h.are;
      exact = exact_turns h.bounds h.onward;
      few = subst (λ (b : Bounds). turns b ≤ 256) (sym same) fits.few;
      held = λ k low. h.each k ((exact_turns h.bounds h.onward k).1 low);
    }

-- ---- heads

module _ (d : DescriptionTree) where
  pub counter_holds : IsFree (without_bound d) d → IsFree bad_width d → (o : ℕ) (region : Region) (scope : Scope) (head : HeadTree) → Stands d (at o region scope (places.Counts head)) → HoldsValues head
  counter_holds bounds widths o region scope head s = by (bounds_of head) refl (free_place (without_bound d) d bounds _ s)
    where
      of_all : (b : Bounds) → bounds_of head ≡ Some b → (shape : Shape) → head.shape ≡ Some shape → (same : Bool) → same_name head.name head.next ≡ same
          → cond same (bounds_with (literal head.first) (limit_of head.name head.test) (step_of head.name head.step)) None ≡ Some b → HoldsValues head
      of_all b are shape typed false other e = absurd (cc e)
      of_all b are shape typed true same e =
          let w = with_bounds (literal head.first) (limit_of head.name head.test) (step_of head.name head.step) b e in
          let c : counter_width (Some shape) head ≡ None = ap (λ (r : Option Shape). counter_width r head) (sym typed) ∙ free_place bad_width d widths _ s in
          let held = (and_parts (is_width shape.width) (holds_values shape (bounds_of head)) (on (is_width shape.width && holds_values shape (bounds_of head)) c)).1 in
          record {
            shape = shape;
            typed = typed;
            bounds = b;
            are = are;
            next = sym (same_text head.name head.next (sym same));
            first = w.first;
            limit = w.limit;
            step = w.step;
            onward = w.onward;
            each = each_held shape b (ap (holds_values shape) (sym are) ∙ held);
          }
        where
          on : (t : Bool) → cond t None (Some (faults.BadWidth head.name shape.width)) ≡ None → t ≡ true
          on true f = refl
          on false f = absurd (cc f)

      typed_so : (b : Bounds) → bounds_of head ≡ Some b → (r : Option Shape) → head.shape ≡ r
          → where_typed r (cond (same_name head.name head.next) (bounds_with (literal head.first) (limit_of head.name head.test) (step_of head.name head.step)) None) ≡ Some b → HoldsValues head
      typed_so b are None none e = absurd (cc e)
      typed_so b are (Some shape) typed e = of_all b are shape typed (same_name head.name head.next) refl e

      by : (r : Option Bounds) → bounds_of head ≡ r → open_fault (name_at d o) r ≡ None → HoldsValues head
      by None is e = absurd (cc e)
      by (Some b) is e = typed_so b is head.shape refl is
