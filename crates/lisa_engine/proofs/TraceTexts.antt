-- Texts with two ways to end early.
use Rattle.std.proofs.Common.{◌≡◌, ℕ, zero, suc, ◌+◌, ◌<◌, ◌≤◌, List, [], ◌∷◌, ◌++◌, length, take, refl, sym, ap, ◌∙◌, subst, arith, Option, Some, None, Result, Ok, Err, append_assoc, length-append, ⊎_elim}
use Rattle.std.proofs.lemmas.Bool.{cases_eq}
use Rattle.std.specs.Io.KnownBytes.{Appends}
use Rattle.std.specs.Result.{IsErrAnd}
use Rattle.std.proofs.Math.Seq.{take-append-add, take-length}
use Rattle.std.proofs.lemmas.List.{append-nil, take-append-le}
use Rattle.lisa_io.specs.Causes.{Rose}
use Rattle.lisa_io.specs.Contents.{AppendsFront, Puts}
use Rattle.lisa_io.proofs.Known.{appends_none, appends_more}
use Rattle.lisa_engine.specs.State.{State}
use Rattle.lisa_engine.specs.Text.{change_text, changes_text}
use Rattle.lisa_engine.specs.ScheduleLine.{Line}
use Rattle.lisa_engine.specs.Machines.{Machine, course_of, state_at}
use Rattle.lisa_engine.specs.Traces.{PutsUnless}
use Rattle.lisa_engine.proofs.Edges.{Led}
use Rattle.lisa_engine.specs.declared.parts.Item.{Item}
use Rattle.lisa_engine.specs.declared.parts.ArrayItem.{ArrayItem}
use Rattle.lisa_engine.specs.declared.trace.TraceEnd.{TraceEnd}
use Rattle.lisa_engine.specs.declared.trace.TraceEnd.TheVariants.{WriteFault, NoMemory}

front_after : (a b c : Option (List ℕ)) (s t : List ℕ) → Appends a b s → AppendsFront b c t → AppendsFront a c (s ++ t)
front_after a b c s t p q = (length s + q.0, omega (arith, length-append s t, q.1), rw take-append-add (appends_more a b c s (take q.0 t) p q.2))

front_in : (a b : Option (List ℕ)) (s t : List ℕ) → AppendsFront a b s → AppendsFront a b (s ++ t)
front_in a b s t q = (q.0, omega (arith, length-append s t, q.1), rw (take-append-le q.0 s t q.1) q.2)

-- a text that was appended without a fault
pub unless_ok : {T U E : Type 0} {u : T} {v : U} {a b : Option (List ℕ)} {x y : ℕ} {s : List ℕ} → Puts {T = T} {E = E} a b x y (Ok u) s → PutsUnless {T = U} a b x y (Ok v) s
unless_ok p = record { all = p.all; front = p.front; later = p.cause.later; fault = λ e. cc }

-- a failure of the output
pub unless_failed : {T U E : Type 0} {e : E} {a b : Option (List ℕ)} {x y : ℕ} {s : List ℕ} (r : Result U TraceEnd) (Q : TraceEnd → Type 0) → IsErrAnd r Q → Puts {T = T} {E = E} a b x y (Err e) s → PutsUnless {T = U} a b x y r s
unless_failed (Ok v) Q is p = absurd is
unless_failed (Err d) Q is p = record { all = tt; front = p.front; later = p.cause.later; fault = λ e. p.cause.failed }

-- want of memory before anything was appended
pub unless_wanted : {U : Type 0} {a : Option (List ℕ)} {x : ℕ} (s : List ℕ) (r : Result U TraceEnd) → IsErrAnd r (λ e. e ≡ NoMemory) → PutsUnless {T = U} a a x x r s
unless_wanted s (Ok v) is = absurd is
unless_wanted {a = a} s (Err d) is = record { all = tt; front = (0, omega arith, appends_none a); later = omega arith; fault = λ e. let same : ◌≡◌ {A = TraceEnd} NoMemory WriteFault = (sym is ∙ (let f : d ≡ WriteFault = cc in f)) in cc }

-- a text, and then another
pub unless_then : {T U : Type 0} {u : T} {a b c : Option (List ℕ)} {x y z : ℕ} {r : Result U TraceEnd} {s t : List ℕ} → PutsUnless {T = T} a b x y (Ok u) s → PutsUnless {T = U} b c y z r t → PutsUnless {T = U} a c x z r (s ++ t)
unless_then {a = a} {b = b} {c = c} {r = Ok v} {s = s} {t = t} p q = record { all = appends_more a b c s t p.all q.all; front = front_after a b c s t p.all q.front; later = omega (arith, p.later, q.later); fault = λ e. cc }
unless_then {a = a} {b = b} {c = c} {r = Err d} {s = s} {t = t} p q = record { all = tt; front = front_after a b c s t p.all q.front; later = omega (arith, p.later, q.later); fault = λ e. let h = q.fault e in omega (arith, p.later, h) }

-- the same end, whatever else was to be appended
pub unless_stop : {T U : Type 0} {e : TraceEnd} {a b : Option (List ℕ)} {x y : ℕ} {s : List ℕ} (t : List ℕ) (r : Result U TraceEnd) → IsErrAnd r (λ d. d ≡ e) → PutsUnless {T = T} a b x y (Err e) s → PutsUnless {T = U} a b x y r (s ++ t)
unless_stop t (Ok v) is p = absurd is
unless_stop {e = e} {a = a} {b = b} {s = s} t (Err d) is p = record {
  all = tt;
  front = front_in a b s t p.front;
  later = p.later;
  fault = λ f. p.fault (ap Err (sym is ∙ (let g : d ≡ WriteFault = cc in g)));
}

-- no text
pub unless_none : {U : Type 0} {v : U} {a : Option (List ℕ)} {x : ℕ} → PutsUnless {T = U} a a x x (Ok v) []
unless_none {a = a} = record { all = appends_none a; front = (0, omega arith, appends_none a); later = omega arith; fault = λ e. cc }

-- what the edges after some change follows what those changed
pub changes_rest : (items : List Item) (arrays : List ArrayItem) (state : ℕ → State) (k n : ℕ) → k ≤ n → (rest : List ℕ) × (changes_text items arrays state n ≡ changes_text items arrays state k ++ rest)
changes_rest items arrays state k zero le = let e : k ≡ zero = omega arith in ([], subst (λ j. [] ≡ changes_text items arrays state j ++ []) (sym e) refl)
changes_rest items arrays state k (suc n) le = ⊎_elim
    (λ e. ([], subst (λ j. changes_text items arrays state (suc n) ≡ changes_text items arrays state j ++ []) (sym e) (sym (append-nil (changes_text items arrays state (suc n))))))
    (λ ne. let more = changes_rest items arrays state k n (omega arith) in (
      more.0 ++ change_text items arrays (suc n) (state n) (state (suc n)),
      ap (λ t. t ++ change_text items arrays (suc n) (state n) (state (suc n))) more.1 ∙ append_assoc (changes_text items arrays state k) more.0 (change_text items arrays (suc n) (state n) (state (suc n))),
    ))
    (cases_eq k (suc n))

-- what one edge changed, by the states of the definition
module _ {D : Type 0} (present : D → State) (machine : D → Machine) (first now next : D) (lines : List Line) (edge : ℕ) (at_first : present first ≡ (machine first).defined [])
    (led : Led present machine first now lines 0 edge) (led_next : Led present machine first next lines 0 (edge + 1)) where
  pub changes_more : changes_text (machine first).items (machine first).arrays (state_at (course_of (machine first) lines)) edge
      ++ change_text (machine now).items (machine now).arrays (edge + 1) (present now) (present next)
      ≡ changes_text (machine first).items (machine first).arrays (state_at (course_of (machine first) lines)) (edge + 1)
  changes_more =
      let m = machine first in
      let state = state_at (course_of m lines) in
      let e : edge + 1 ≡ suc edge = omega arith in
      let one : change_text (machine now).items (machine now).arrays (edge + 1) (present now) (present next) ≡ change_text m.items m.arrays (edge + 1) (state edge) (state (edge + 1))
      = λ i. change_text (led.kept i).items (led.kept i).arrays (edge + 1) (led.leads at_first i) (led_next.leads at_first i) in
      ap (λ t. changes_text m.items m.arrays state edge ++ t) one
      ∙ subst (λ n. changes_text m.items m.arrays state edge ++ change_text m.items m.arrays n (state edge) (state n) ≡ changes_text m.items m.arrays state n) (sym e) refl

pub unless_over : {T : Type 0} {a b : Option (List ℕ)} {x y : ℕ} {r : Result T TraceEnd} {s t : List ℕ} → s ≡ t → PutsUnless {T = T} a b x y r s → PutsUnless {T = T} a b x y r t
unless_over {T = T} {a = a} {b = b} {x = x} {y = y} {r = r} e p = subst (λ t. PutsUnless {T = T} a b x y r t) e p
