-- Answers that end early.
use Rattle.std.proofs.Common.{◌≡◌, ℕ, ◌+◌, ◌<◌, List, length, take, get_or, Option, Result, Ok, Err, subst, sym, ◌∙◌, arith}
use Rattle.std.specs.List.{flat_map}
use Rattle.std.specs.Result.{IsErrAnd}
use Rattle.std.specs.Prelude.{OnOk}
use Rattle.lisa_io.specs.Contents.{Puts}
use Rattle.lisa_io.specs.declared.outside.Failed.{Failed}
use Rattle.lisa_io.proofs.Known.{appends_none, puts_more}
use Rattle.lisa_engine.specs.Traces.{PutsUnless}
use Rattle.lisa_engine.specs.declared.trace.TraceEnd.{TraceEnd}
use Rattle.lisa_engine.specs.declared.trace.TraceEnd.TheVariants.{WriteFault, NoMemory}

pub puts_done : {T U : Type 0} {u : U} {a b : Option (List ℕ)} {x y : ℕ} {t : List ℕ} (v : T) → Puts {T = U} {E = Failed} a b x y (Ok u) t → PutsUnless {T = T} a b x y (Ok v) t
puts_done v p = record { all = p.all; front = p.front; later = p.cause.later; fault = λ e. absurd (cc) }

pub puts_failed : {T U : Type 0} {e : Failed} {a b : Option (List ℕ)} {x y : ℕ} {t : List ℕ} → Puts {T = U} {E = Failed} a b x y (Err e) t → PutsUnless {T = T} a b x y (Err WriteFault) t
puts_failed p = record { all = tt; front = p.front; later = p.cause.later; fault = λ _. p.cause.failed }

pub puts_memory : {T : Type 0} (a : Option (List ℕ)) (x : ℕ) (t : List ℕ) → PutsUnless {T = T} a a x x (Err NoMemory) t
puts_memory a x t = record { all = tt; front = (0, omega arith, appends_none a); later = omega arith; fault = λ e. absurd (cc) }

-- one more line of a list
pub line_more : {X T E : Type 0} (f : X → List ℕ) (xs : List X) (i : ℕ) (line : X) {u : T} {a b c : Option (List ℕ)} {x y z : ℕ} {r : Result T E} → i < length xs → line ≡ get_or xs i line
    → Puts {T = T} {E = E} a b x y (Ok u) (flat_map f (take i xs)) → Puts b c y z r (f line) → Puts a c x z r (flat_map f (take (i + 1) xs))
line_more f xs i line {u = u} {a = a} {b = b} {c = c} {x = x} {y = y} {z = z} {r = r} within is p q =
    puts_more f xs i line u a b c x y z r within p (subst (λ e. Puts b c y z r (f e)) is q)

pub puts_at : {T : Type 0} {a b : Option (List ℕ)} {x y : ℕ} {r : Result T TraceEnd} {t u : List ℕ} → t ≡ u → PutsUnless {T = T} a b x y r t → PutsUnless {T = T} a b x y r u
puts_at {T = T} {a = a} {b = b} {x = x} {y = y} {r = r} e p = subst (λ v. PutsUnless {T = T} a b x y r v) e p

-- want of memory, passed on
pub puts_spent : {T : Type 0} (r : Result T TraceEnd) (e : TraceEnd) (a : Option (List ℕ)) (x : ℕ) (t : List ℕ) → IsErrAnd r (λ d. d ≡ e) → e ≡ NoMemory → PutsUnless {T = T} a a x x r t
puts_spent (Ok v) e a x t is memory = absurd is
puts_spent {T = T} (Err d) e a x t is memory = subst (λ f. PutsUnless {T = T} a a x x (Err f) t) (sym (is ∙ memory)) (puts_memory a x t)

pub on_ok : {T E X : Type 0} (r : Result T E) → X → OnOk r X
on_ok (Ok v) h = h
on_ok (Err e) h = tt

pub on_map : {T E X Y : Type 0} (r : Result T E) → OnOk r X → (X → Y) → OnOk r Y
on_map (Ok v) h f = f h
on_map (Err e) h f = tt
