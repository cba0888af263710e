-- The lines of cells that changed, by the touches of one array in a row.
use Rattle.std.proofs.Common.{◌≡◌, ℕ, suc, ◌+◌, ◌<◌, ◌≤◌, Bool, true, false, List, [], ◌∷◌, ◌++◌, length, take, get_or, refl, sym, ap, ◌∙◌, subst, arith, ⊎_elim, Option, Some, None, Result, Ok, Err}
use Rattle.std.specs.Prelude.{find, ◌==◌, ◌&&◌}
use Rattle.std.specs.List.{flat_map, enumerate_from}
use Rattle.std.proofs.lemmas.Bool.{cases_Bool, cases_lt, cases_eq, and_left, and_right, and_from, eq-eqb, ne_eqb}
use Rattle.std.proofs.lemmas.List.FromFn.{get_or-enumerate_from, length-enumerate_from}
use Rattle.lisa_io.specs.Contents.{Puts}
use Rattle.lisa_io.proofs.Known.{puts_more}
use Rattle.lisa_engine.specs.Text.{changed_cell}
use Rattle.lisa_engine.specs.Changes.{is_at, value_before, touched_line, IsRow, IsCut}
use Rattle.lisa_engine.specs.declared.parts.Touch.{Touch}
use Rattle.lisa_engine.proofs.Silent.{silent, silent_rest, found_first, found_none}
use Rattle.lisa_engine.proofs.Places.{any_default}

no_touch : Touch
no_touch = record { array = 0; index = 0; before = 0 }

-- the touches before a place are dealt with: those of the array are of cells before the next one
pub record IsDone (row : List Touch) (cells : List ℕ) (array place next : ℕ) : Type 0 where
  pub within : next ≤ length cells
  pub arrays : (k : ℕ) (d : Touch) → k < place → (get_or row k d).array ≤ array
  pub indexes : (k : ℕ) (d : Touch) → k < place → (get_or row k d).array ≡ array → (get_or row k d).index < next

-- a cell without a touch has no line
untouched : (row : List Touch) (name : List ℕ) (array index now : ℕ) → ((k : ℕ) (d : Touch) → k < length row → (get_or row k d).array ≡ array → (get_or row k d).index ≡ index → ⊥)
    → touched_line row name array (index, now) ≡ []
untouched row name array index now none =
    let nothing : find (is_at array index) row ≡ None
    = found_none (is_at array index) row no_touch (λ k h. ⊎_elim
    (λ e. and_right ((get_or row k no_touch).array == array) ((get_or row k no_touch).index == index) (ne_eqb (get_or row k no_touch).index index (λ f. none k no_touch h e f)))
    (λ ne. and_left ((get_or row k no_touch).array == array) ((get_or row k no_touch).index == index) (ne_eqb (get_or row k no_touch).array array ne))
    (cases_eq (get_or row k no_touch).array array)) in
    rw (nothing, eq-eqb now now refl) refl

numbered : (cells : List ℕ) (q : ℕ) → q < length cells → get_or (enumerate_from 0 cells) q (0, 0) ≡ (q, get_or cells q 0)
numbered cells q within = let e : 0 + q ≡ q = omega arith in get_or-enumerate_from 0 cells q (0, 0) within ∙ (λ i. (e i, get_or cells q 0))

-- another answer of the same kind, after as much
pub puts_answer : {T U E : Type 0} {u : T} {v : U} {a b : Option (List ℕ)} {x y : ℕ} {s : List ℕ} → Puts {T = T} {E = E} a b x y (Ok u) s → Puts {T = U} {E = E} a b x y (Ok v) s
puts_answer p = record { all = p.all; front = p.front; cause = record { later = p.cause.later; failed = tt } }

module _ (row : List Touch) (cells : List ℕ) (name : List ℕ) (array place next : ℕ) (done : IsDone row cells array place next) where
  lines : List (ℕ × ℕ)
  lines = enumerate_from 0 cells

  -- cells that no touch is of, from the next one on
  quiet : (q : ℕ) → q < length cells → ((k : ℕ) (d : Touch) → k < length row → (get_or row k d).array ≡ array → (get_or row k d).index ≡ q → ⊥)
      → touched_line row name array (get_or (enumerate_from 0 cells) q (0, 0)) ≡ []
  quiet q within none = ap (touched_line row name array) (numbered cells q within) ∙ untouched row name array q (get_or cells q 0) none

  module _ (later : (k : ℕ) (d : Touch) → place ≤ k → k < length row → array < (get_or row k d).array) where
    -- the rest of the array has no line
    pub all_done : flat_map (touched_line row name array) (take next (enumerate_from 0 cells)) ≡ flat_map (touched_line row name array) (enumerate_from 0 cells)
    all_done = silent_rest (touched_line row name array) (enumerate_from 0 cells) next (0, 0) (omega (arith, done.within, length-enumerate_from 0 cells))
        (λ q from below. quiet q (omega (arith, length-enumerate_from 0 cells)) (λ k d h e f. ⊎_elim
        (λ l. let i = done.indexes k d l e in omega arith)
        (λ g. let j = later k d g h in omega arith)
        (cases_lt k place)))

    pub cut_here : place ≤ length row → IsCut row (array + 1) place
    cut_here within = record {
      within = within;
      before = λ k d h. omega (arith, done.arrays k d h);
      after = λ k d from h. omega (arith, later k d from h);
    }

  module _ (sorted : IsRow row) (touch : Touch) (within : place < length row) (is : touch ≡ get_or row place touch) (here : touch.array ≡ array) where
    at_place : (d : Touch) → get_or row place d ≡ touch
    at_place d = any_default row place d touch within ∙ sym is

    -- no later touch of the array is of an earlier cell
    not_earlier : (k : ℕ) (d : Touch) → place ≤ k → k < length row → (get_or row k d).array ≡ array → touch.index ≤ (get_or row k d).index
    not_earlier k d from h e = ⊎_elim
        (λ l. let less = sorted.indexes place k d l h (ap (λ t. t.array) (at_place d) ∙ here ∙ sym e) in omega (arith, ap (λ t. t.index) (at_place d), less))
        (λ g. let same : place ≡ k = omega arith in let it = ap (λ t. t.index) (ap (λ j. get_or row j d) (sym same) ∙ at_place d) in omega (arith, it))
        (cases_lt place k)

    pub one_skipped : touch.index < next → IsDone row cells array (place + 1) next
    one_skipped old = record {
      within = done.within;
      arrays = λ k d h. ⊎_elim (λ l. done.arrays k d l) (λ g. let same : k ≡ place = omega arith in let it = ap (λ t. t.array) (ap (λ j. get_or row j d) same ∙ at_place d) in omega (arith, it, here)) (cases_lt k place);
      indexes = λ k d h e. ⊎_elim (λ l. done.indexes k d l e) (λ g. let same : k ≡ place = omega arith in let it = ap (λ t. t.index) (ap (λ j. get_or row j d) same ∙ at_place d) in omega (arith, it)) (cases_lt k place);
    }

    module _ (new : next ≤ touch.index) (in_array : touch.index < length cells) where
      pub one_done : IsDone row cells array (place + 1) (touch.index + 1)
      one_done = record {
        within = omega arith;
        arrays = λ k d h. ⊎_elim (λ l. done.arrays k d l) (λ g. let same : k ≡ place = omega arith in let it = ap (λ t. t.array) (ap (λ j. get_or row j d) same ∙ at_place d) in omega (arith, it, here)) (cases_lt k place);
        indexes = λ k d h e. ⊎_elim (λ l. let i = done.indexes k d l e in omega arith) (λ g. let same : k ≡ place = omega arith in let it = ap (λ t. t.index) (ap (λ j. get_or row j d) same ∙ at_place d) in omega (arith, it)) (cases_lt k place);
      }

      -- it is the first touch of its cell
      first_touch : (now : ℕ) → value_before row array touch.index now ≡ touch.before
      first_touch now =
          let found : find (is_at array touch.index) row ≡ Some (get_or row place touch) = found_first (is_at array touch.index) row place touch within
          (subst (λ t. is_at array touch.index t ≡ true) is (and_from (touch.array == array) (touch.index == touch.index) (eq-eqb touch.array array here) (eq-eqb touch.index touch.index refl)))
          (λ k h. ⊎_elim
          (λ e. and_right ((get_or row k touch).array == array) ((get_or row k touch).index == touch.index) (ne_eqb (get_or row k touch).index touch.index (λ f. let i = done.indexes k touch h e in omega arith)))
          (λ ne. and_left ((get_or row k touch).array == array) ((get_or row k touch).index == touch.index) (ne_eqb (get_or row k touch).array array ne))
          (cases_eq (get_or row k touch).array array)) in
          rw found (ap (λ t. t.before) (sym is))

      -- the cells before it have no line
      up_to_here : flat_map (touched_line row name array) (take next (enumerate_from 0 cells)) ≡ flat_map (touched_line row name array) (take touch.index (enumerate_from 0 cells))
      up_to_here = silent (touched_line row name array) (enumerate_from 0 cells) next touch.index (0, 0) new (omega (arith, in_array, length-enumerate_from 0 cells))
          (λ q from below. quiet q (omega arith) (λ k d h e f. ⊎_elim
          (λ l. let i = done.indexes k d l e in omega arith)
          (λ g. let j = not_earlier k d g h e in omega arith)
          (cases_lt k place)))

      pub cells_more : {T E : Type 0} (now : ℕ) (u : T) (a b c : Option (List ℕ)) (x y z : ℕ) (r : Result T E) → now ≡ get_or cells touch.index 0
          → Puts {T = T} {E = E} a b x y (Ok u) (flat_map (touched_line row name array) (take next (enumerate_from 0 cells)))
          → Puts b c y z r (changed_cell name (touch.index, (touch.before, now)))
          → Puts a c x z r (flat_map (touched_line row name array) (take (touch.index + 1) (enumerate_from 0 cells)))
      cells_more {T = T} {E = E} now u a b c x y z r is_now p q =
          puts_more (touched_line row name array) (enumerate_from 0 cells) touch.index (0, 0) u a b c x y z r (omega (arith, in_array, length-enumerate_from 0 cells))
          (subst (λ t. Puts {T = T} {E = E} a b x y (Ok u) t) up_to_here p)
          (subst (λ t. Puts b c y z r t) line q)
        where
          line : changed_cell name (touch.index, (touch.before, now)) ≡ touched_line row name array (get_or (enumerate_from 0 cells) touch.index (0, 0))
          line = (λ i. changed_cell name (touch.index, (sym (first_touch now) i, now)))
              ∙ ap (λ v. touched_line row name array (touch.index, v)) is_now ∙ ap (touched_line row name array) (sym (numbered cells touch.index in_array))

-- a touch of another array, where the earlier arrays are dealt with, and those behind it are of later arrays
pub later_here : (row : List Touch) (array from place : ℕ) (touch : Touch) → IsRow row → IsCut row array from → from ≤ place → place < length row → touch ≡ get_or row place touch → (touch.array ≡ array → ⊥)
    → (k : ℕ) (d : Touch) → place ≤ k → k < length row → array < (get_or row k d).array
later_here row array from place touch sorted cut begun within is other k d after h =
    let here : (get_or row place d).array ≡ touch.array = ap (λ t. t.array) (any_default row place d touch within ∙ sym is) in
    let past = cut.after place d begun within in
    ⊎_elim
    (λ l. let more = sorted.arrays place k d l h in omega arith)
    (λ g. let same : k ≡ place = omega arith in omega (arith, ap (λ j. (get_or row j d).array) same))
    (cases_lt place k)

pub puts_over : {T U E : Type 0} {u : T} {v : U} {a b : Option (List ℕ)} {x y : ℕ} {s t : List ℕ} → s ≡ t → Puts {T = T} {E = E} a b x y (Ok u) s → Puts {T = U} {E = E} a b x y (Ok v) t
puts_over {U = U} {E = E} {v = v} {a = a} {b = b} {x = x} {y = y} e p = subst (λ t. Puts {T = U} {E = E} a b x y (Ok v) t) e (puts_answer p)

-- a sink and a number by other names
pub moved : {D T E : Type 0} (written : D → Option (List ℕ)) (faults : D → ℕ) (f : ℕ → List ℕ) (Q : ℕ → Type 0) {a : Option (List ℕ)} {x : ℕ} {u : T} {out new : D} {next index : ℕ} → out ≡ new → next ≡ index
    → Puts {T = T} {E = E} a (written new) x (faults new) (Ok u) (f index) → Q index → Puts {T = T} {E = E} a (written out) x (faults out) (Ok u) (f next) × Q next
moved {T = T} {E = E} written faults f Q {a = a} {x = x} {u = u} {new = new} {next = next} same_out same_next p q =
    subst (λ o. Puts {T = T} {E = E} a (written o) x (faults o) (Ok u) (f next) × Q next) (sym same_out)
    (subst (λ n. Puts {T = T} {E = E} a (written new) x (faults new) (Ok u) (f n) × Q n) (sym same_next) (p, q))

pub puts_failed : {T U E : Type 0} {e : E} {a b : Option (List ℕ)} {x y : ℕ} {s : List ℕ} → Puts {T = T} {E = E} a b x y (Err e) s → Puts {T = U} {E = E} a b x y (Err e) s
puts_failed p = record { all = tt; front = p.front; cause = record { later = p.cause.later; failed = p.cause.failed } }
