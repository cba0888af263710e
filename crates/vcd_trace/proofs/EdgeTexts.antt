-- What the edges of a run append.
use Rattle.std.proofs.Common.{◌≡◌, ℕ, zero, suc, ◌+◌, ◌<◌, ◌≤◌, List, [], ◌++◌, length, refl, sym, ap, ◌∙◌, subst, arith, ⊎_elim, append_assoc, take, get_or, Option, Result, Ok}
use Rattle.std.specs.List.{flat_map}
use Rattle.lisa_io.proofs.Known.{puts_more}
use Rattle.lisa_io.specs.Contents.{Puts}
use Rattle.std.proofs.lemmas.Bool.{cases_eq}
use Rattle.std.proofs.lemmas.List.{append-nil}
use Rattle.lisa_engine.specs.State.{State}
use Rattle.lisa_engine.specs.ScheduleLine.{Line}
use Rattle.lisa_engine.specs.Machines.{Machine, course_of, state_at}
use Rattle.lisa_engine.specs.declared.parts.Item.{Item}
use Rattle.lisa_engine.proofs.Edges.{Led}
use Rattle.vcd_trace.specs.VcdText.{time_line, changed_values, declarations_text, first_values, edges_text, vcd_text}

-- what the edges after some append follows what those did
pub edges_rest : (items : List Item) (values : ℕ → List ℕ) (k n : ℕ) → k ≤ n → (rest : List ℕ) × (edges_text items values n ≡ edges_text items values k ++ rest)
edges_rest items values k zero le = let e : k ≡ zero = omega arith in ([], subst (λ j. [] ≡ edges_text items values j ++ []) (sym e) refl)
edges_rest items values k (suc n) le = ⊎_elim
    (λ e. ([], subst (λ j. edges_text items values (suc n) ≡ edges_text items values j ++ []) (sym e) (sym (append-nil (edges_text items values (suc n))))))
    (λ ne. let more = edges_rest items values k n (omega arith) in (
      more.0 ++ (time_line (suc n) ++ changed_values items (values n) (values (suc n))),
      ap (λ t. t ++ (time_line (suc n) ++ changed_values items (values n) (values (suc n)))) more.1
          ∙ append_assoc (edges_text items values k) more.0 (time_line (suc n) ++ changed_values items (values n) (values (suc n))),
    ))
    (cases_eq k (suc n))

-- what one edge appends, by the states of the definition
module _ {D : Type 0} (present : D → State) (machine : D → Machine) (first now next : D) (lines : List Line) (edge : ℕ) (at_first : present first ≡ (machine first).defined [])
    (led : Led present machine first now lines 0 edge) (led_next : Led present machine first next lines 0 (edge + 1)) where
  pub edges_more : edges_text (machine first).items (λ k. (state_at (course_of (machine first) lines) k).items) edge
      ++ (time_line (edge + 1) ++ changed_values (machine now).items (present now).items (present next).items)
      ≡ edges_text (machine first).items (λ k. (state_at (course_of (machine first) lines) k).items) (edge + 1)
  edges_more =
      let m = machine first in
      let e : edge + 1 ≡ suc edge = omega arith in
      let state = state_at (course_of m lines) in
      let one : time_line (edge + 1) ++ changed_values (machine now).items (present now).items (present next).items ≡ time_line (edge + 1) ++ changed_values m.items (state edge).items (state (edge + 1)).items
      = λ i. time_line (edge + 1) ++ changed_values (led.kept i).items (led.leads at_first i).items (led_next.leads at_first i).items in
      ap (λ t. edges_text m.items (λ k. (state k).items) edge ++ t) one
      ∙ subst (λ n. edges_text m.items (λ k. (state k).items) edge ++ (time_line n ++ changed_values m.items (state edge).items (state n).items) ≡ edges_text m.items (λ k. (state k).items) n) (sym e) refl

pub puts_over : {T E : Type 0} {a b : Option (List ℕ)} {x y : ℕ} {r : Result T E} {s t : List ℕ} → s ≡ t → Puts {T = T} {E = E} a b x y r s → Puts {T = T} {E = E} a b x y r t
puts_over {T = T} {E = E} {a = a} {b = b} {x = x} {y = y} {r = r} e p = subst (λ t. Puts {T = T} {E = E} a b x y r t) e p

pub joined_text : (items : List Item) (values : ℕ → List ℕ) (n : ℕ) → (declarations_text items ++ first_values items (values 0)) ++ edges_text items values n ≡ vcd_text items values n
joined_text items values n = append_assoc (declarations_text items) (first_values items (values 0)) (edges_text items values n)

-- the step of a loop that appends a text for each element
pub puts_item : {X T E : Type 0} (f : X → List ℕ) (xs : List X) (i : ℕ) (v : X) (u : T) (a b c : Option (List ℕ)) (x y z : ℕ) (r : Result T E)
    → i < length xs → v ≡ get_or xs i v → Puts {T = T} {E = E} a b x y (Ok u) (flat_map f (take i xs)) → Puts b c y z r (f v) → Puts a c x z r (flat_map f (take (i + 1) xs))
puts_item f xs i v u a b c x y z r within is p q = puts_more f xs i v u a b c x y z r within p (subst (λ w. Puts b c y z r (f w)) is q)
