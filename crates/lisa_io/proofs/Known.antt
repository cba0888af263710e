-- Known bytes, over several calls.
use Rattle.std.proofs.Common.{◌≡◌, ℕ, ◌+◌, ◌<◌, ◌≤◌, List, [], ◌∷◌, ◌++◌, length, take, drop, sym, ap, ◌∙◌, arith, append_assoc, Option, Some, None}
use Rattle.std.proofs.Common.{Result, Ok, Err, length-append}
use Rattle.std.proofs.Common.{get_or, subst}
use Rattle.std.proofs.lemmas.Grind.{flat_map-append}
use Rattle.std.specs.List.{flat_map}
use Rattle.std.specs.Result.{IsErrAnd}
use Rattle.std.proofs.lemmas.List.{append-nil, take-append-le, take_more, take_all, take-append-drop}
use Rattle.std.proofs.Math.Seq.{take-append-add, take-length}
use Rattle.lisa_io.specs.Causes.{HasCause}
use Rattle.lisa_io.specs.Contents.{AppendsFront, Puts}
use Rattle.std.specs.Io.KnownBytes.{Appends, Keeps}

pub appends_none : (a : Option (List ℕ)) → Appends a a []
appends_none None = tt
appends_none (Some xs) = sym (append-nil xs)

pub appends_more : (a b c : Option (List ℕ)) (xs ys : List ℕ) → Appends a b xs → Appends b c ys → Appends a c (xs ++ ys)
appends_more None b c xs ys p q = tt
appends_more (Some ws) None c xs ys p q = absurd p
appends_more (Some ws) (Some bs) None xs ys p q = absurd q
appends_more (Some ws) (Some bs) (Some cs) xs ys p q = q ∙ ap (λ t. t ++ ys) p ∙ append_assoc ws xs ys

pub appends_kept : (a b c : Option (List ℕ)) (xs : List ℕ) → Appends a b xs → Keeps b c → Appends a c xs
appends_kept None b c xs p q = tt
appends_kept (Some ws) None c xs p q = absurd p
appends_kept (Some ws) (Some bs) None xs p q = absurd q
appends_kept (Some ws) (Some bs) (Some cs) xs p q = q ∙ p

front_more : (a b c : Option (List ℕ)) (s t : List ℕ) → Appends a b s → AppendsFront b c t → AppendsFront a c (s ++ t)
front_more a b c s t p q =
    (length s + q.0, omega (arith, length-append s t, q.1), rw take-append-add (appends_more a b c s (take q.0 t) p q.2))

front_wider : (a b : Option (List ℕ)) (s t : List ℕ) → AppendsFront a b s → AppendsFront a b (s ++ t)
front_wider a b s t q = (q.0, omega (arith, length-append s t, q.1), rw (take-append-le q.0 s t q.1) q.2)

-- a whole text, and then as much as another call appends
pub puts_then : {T E : Type 0} {u : T} {a b c : Option (List ℕ)} {x y z : ℕ} {r : Result T E} {s t : List ℕ}
    → Puts {T = T} {E = E} a b x y (Ok u) s → Puts b c y z r t → Puts a c x z r (s ++ t)
puts_then {a = a} {b = b} {c = c} {r = Ok v} {s = s} {t = t} p q = record {
  all = appends_more a b c s t p.all q.all;
  front = front_more a b c s t p.all q.front;
  cause = record { later = omega (arith, p.cause.later, q.cause.later); failed = tt };
}
puts_then {a = a} {b = b} {c = c} {r = Err e} {s = s} {t = t} p q = record {
  all = tt;
  front = front_more a b c s t p.all q.front;
  cause = record { later = omega (arith, p.cause.later, q.cause.later); failed = omega (arith, p.cause.later, q.cause.failed) };
}

-- no text
pub puts_nothing : {T E : Type 0} {u : T} {a : Option (List ℕ)} {x : ℕ} → Puts {T = T} {E = E} a a x x (Ok u) []
puts_nothing {a = a} = record { all = appends_none a; front = (0, omega arith, appends_none a); cause = record { later = omega arith; failed = tt } }

-- a whole text, and then a call that appends nothing, as `flush`
pub puts_flushed : {T E : Type 0} {u : T} {a b c : Option (List ℕ)} {x y z : ℕ} {r : Result T E} {s : List ℕ}
    → Puts {T = T} {E = E} a b x y (Ok u) s → Keeps b c → HasCause y z r → Puts a c x z r s
puts_flushed {a = a} {b = b} {c = c} {r = Ok v} {s = s} p kept cause = record {
  all = appends_kept a b c s p.all kept;
  front = (length s, omega arith, rw take-length (appends_kept a b c s p.all kept));
  cause = record { later = omega (arith, p.cause.later, cause.later); failed = tt };
}
puts_flushed {a = a} {b = b} {c = c} {r = Err e} {s = s} p kept cause = record {
  all = tt;
  front = (length s, omega arith, rw take-length (appends_kept a b c s p.all kept));
  cause = record { later = omega (arith, p.cause.later, cause.later); failed = omega (arith, p.cause.later, cause.failed) };
}

-- a failure stays one, whatever else was to be appended
pub puts_stop : {T E : Type 0} {e : E} {a b : Option (List ℕ)} {x y : ℕ} {s : List ℕ} (t : List ℕ)
    → Puts {T = T} {E = E} a b x y (Err e) s → Puts {T = T} {E = E} a b x y (Err e) (s ++ t)
puts_stop {a = a} {b = b} {s = s} t p = record { all = tt; front = front_wider a b s t p.front; cause = p.cause }

-- at the exit of a `?`: another failure, after as much
pub puts_exit : {T E U F : Type 0} {e : E} {a b : Option (List ℕ)} {x y : ℕ} {s : List ℕ} (r : Result U F) (Q : F → Type 0)
    → IsErrAnd r Q → Puts {T = T} {E = E} a b x y (Err e) s → Puts {T = U} {E = F} a b x y r s
puts_exit (Ok v) Q is p = absurd is
puts_exit (Err d) Q is p = record { all = tt; front = p.front; cause = record { later = p.cause.later; failed = p.cause.failed } }

-- the step of a loop that appends a text for each element
pub puts_more : {X T E : Type 0} (f : X → List ℕ) (xs : List X) (i : ℕ) (d : X) (u : T) (a b c : Option (List ℕ)) (x y z : ℕ) (r : Result T E)
    → i < length xs → Puts {T = T} {E = E} a b x y (Ok u) (flat_map f (take i xs)) → Puts b c y z r (f (get_or xs i d)) → Puts a c x z r (flat_map f (take (i + 1) xs))
puts_more f xs i d u a b c x y z r within p q =
    let e : flat_map f (take (i + 1) xs) ≡ flat_map f (take i xs) ++ f (get_or xs i d)
    = ap (flat_map f) (take_more xs i d within) ∙ flat_map-append f (take i xs) (get_or xs i d ∷ []) ∙ ap (λ t. flat_map f (take i xs) ++ t) (append-nil (f (get_or xs i d))) in
    subst (λ t. Puts a c x z r t) (sym e) (puts_then p q)

pub puts_none : {X T E : Type 0} (f : X → List ℕ) (xs : List X) (u : T) (a : Option (List ℕ)) (x : ℕ) → Puts {T = T} {E = E} a a x x (Ok u) (flat_map f (take 0 xs))
puts_none f xs u a x = record { all = appends_none a; front = (0, omega arith, appends_none a); cause = record { later = omega arith; failed = tt } }

-- the end of such a loop, and a failure in it
pub puts_whole : {X T E : Type 0} (f : X → List ℕ) (xs : List X) (n : ℕ) (a b : Option (List ℕ)) (x y : ℕ) (r : Result T E)
    → length xs ≤ n → Puts a b x y r (flat_map f (take n xs)) → Puts a b x y r (flat_map f xs)
puts_whole f xs n a b x y r all p = subst (λ t. Puts a b x y r (flat_map f t)) (take_all n xs all) p

pub puts_early : {X T E : Type 0} (f : X → List ℕ) (xs : List X) (n : ℕ) (e : E) (a b : Option (List ℕ)) (x y : ℕ)
    → Puts {T = T} {E = E} a b x y (Err e) (flat_map f (take n xs)) → Puts {T = T} {E = E} a b x y (Err e) (flat_map f xs)
puts_early {T = T} {E = E} f xs n e a b x y p =
    let q : flat_map f (take n xs) ++ flat_map f (drop n xs) ≡ flat_map f xs = sym (flat_map-append f (take n xs) (drop n xs)) ∙ ap (flat_map f) (take-append-drop n xs) in
    subst (λ t. Puts {T = T} {E = E} a b x y (Err e) t) q (puts_stop (flat_map f (drop n xs)) p)
