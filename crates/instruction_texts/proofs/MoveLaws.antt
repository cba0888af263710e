-- What a form says from a place on is what its steps say.
use Rattle.std.proofs.Common.{◌≡◌, ℕ, zero, suc, ◌+◌, ◌-◌, ◌*◌, ◌^◌, ◌<◌, ◌≤◌, true, ◌&&◌, List, [], ◌∷◌, ◌++◌, length, drop, Option, Some, None, refl, sym, ap, ◌∙◌, subst, arith, inl, inr, ◌⊎◌}
use Rattle.std.specs.Prelude.{nat_le}
use Rattle.std.specs.List.{slice_get}
use Rattle.std.proofs.lemmas.List.{append-nil, drop_all}
use Rattle.std.proofs.lemmas.Bool.{leb-true, le-leb}
use Rattle.std.proofs.lemmas.Nat.{pow-add}
use Rattle.std.proofs.Math.Nat.{mul-le-mul_right, pow-suc}
use Rattle.instruction_texts.specs.declared.shapes.Shape.{Shape}
use Rattle.instruction_texts.specs.declared.shapes.Shape.TheVariants.{Other, Literal, Unsigned, Signed}
use Rattle.instruction_texts.specs.declared.shapes.Token.{Token}
use Rattle.instruction_texts.specs.declared.shapes.Token.TheVariants.{Word, Sign}
use Rattle.instruction_texts.specs.declared.shapes.Ending.{Ending}
use Rattle.instruction_texts.specs.declared.shapes.Ending.TheVariants.{Plain}
use Rattle.instruction_texts.specs.declared.places.Pending.{Pending}
use Rattle.instruction_texts.specs.declared.places.Pending.TheVariants.{Nothing, Minus, Digits}
use Rattle.instruction_texts.specs.declared.places.Place.{Place}
use Rattle.instruction_texts.specs.Runs.{base_of, value, ends, accepts}
use Rattle.instruction_texts.specs.Shapes as shapes
use Rattle.instruction_texts.specs.Shapes.{lead, whole, upper, lower, before_sign, IsText, Spells, other, literal, unsigned, positive, negative}
use Rattle.instruction_texts.specs.Leads.{lead_of}
use Rattle.instruction_texts.specs.Moves.{Mark, RunOf, Step, Accepts, sizes, FromDigits, From, Tells, place_at, step, first_of, second_of, negative_of, first_from, second_from, first_step, second_step, is_last, is_nothing, room_of, room}
use Rattle.instruction_texts.specs.Meetings.{step_weight}
use Rattle.instruction_texts.proofs.CommonRuns.{accepts_splits, splits_accepts, plain_is, power_some}

-- a token of the step, and what is said behind it
pub record Via (ss : List Shape) (s : Step) (ts : List Token) : Type 0 where
  pub token : Token
  pub rest : List Token
  pub is : ts ≡ token ∷ rest
  pub accepted : Accepts s.piece token
  pub told : Tells ss s.next rest

abbrev pub Through : List Shape → Option Step → List Token → Type 0
Through ss None ts = ⊥
Through ss (Some s) ts = Via ss s ts

-- ---- pieces at the front of a list of shapes

-- a step of which the place behind it is known
pub record Onward (left : List Shape) (s : Step) (ts : List Token) : Type 0 where
  pub token : Token
  pub rest : List Token
  pub is : ts ≡ token ∷ rest
  pub accepted : Accepts s.piece token
  pub told : From s.next.pending left rest

abbrev Onwards : List Shape → Option Step → List Token → Type 0
Onwards left None ts = ⊥
Onwards left (Some s) ts = Onward left s ts

word_accepted : (p : List ℕ) (e : Ending) (cs : List ℕ) → ends e cs ≡ true → Accepts (RunOf p e) (Word (lead_of e p ++ cs))
word_accepted p e cs h = (lead_of e p ++ cs, refl, splits_accepts (lead_of e p) e cs h)

plain_accepted : (p : List ℕ) → Accepts (RunOf p Plain) (Word p)
plain_accepted p = (p, refl, subst (λ (l : List ℕ). accepts p Plain l ≡ true) (append-nil p) (splits_accepts p Plain [] refl))

minus_told : (n : ℕ) (ss : List Shape) (cs : List ℕ) (ts : List Token) → ends (lower n) cs ≡ true → IsText ss ts → FromDigits (2 ^ (n - 1)) ss (Word cs ∷ ts)
minus_told n ss cs ts h t = (cs, ts, refl, h, t)

negative_onward : (k n : ℕ) (p cs : List ℕ) (ss : List Shape) (ts us : List Token) → ends (lower n) cs ≡ true → IsText ss ts → us ≡ before_sign p (Sign 45 ∷ Word cs ∷ ts) → Onward ss (negative_of k p (2 ^ (n - 1))) us
negative_onward k n [] cs ss ts us h t e = record { token = Sign 45; rest = Word cs ∷ ts; is = e; accepted = refl; told = minus_told n ss cs ts h t }
negative_onward k n (c ∷ p) cs ss ts us h t e = record { token = Word (c ∷ p); rest = Sign 45 ∷ Word cs ∷ ts; is = e; accepted = plain_accepted (c ∷ p); told = (Word cs ∷ ts, refl, minus_told n ss cs ts h t) }

abbrev Splits : ℕ → Shape → List Shape → List Token → Type 0
Splits k s ss ts = Onward ss (first_of k s) ts ⊎ Onwards ss (second_of k s) ts

split : (k : ℕ) (s : Shape) (ss : List Shape) {vs : List ℕ} {ts : List Token} → Spells (s ∷ ss) vs ts → Splits k s ss ts
split k s ss (other {c = c} {vs = vs} {ts = ts} t) = inl (record { token = Sign c; rest = ts; is = refl; accepted = refl; told = (vs, t) })
split k s ss (literal {p = p} {vs = vs} {ts = ts} t) = inl (record { token = Word p; rest = ts; is = refl; accepted = plain_accepted p; told = (vs, t) })
split k s ss (unsigned {hex = hex} {p = p} cs {n = n} {vs = vs} {ts = ts} h v t e) = inl (record { token = Word (lead hex p ++ cs); rest = ts; is = e; accepted = word_accepted p (whole hex n) cs h; told = (vs, t) })
split k s ss (positive {p = p} cs {n = n} {vs = vs} {ts = ts} h v t e) = inl (record { token = Word (p ++ cs); rest = ts; is = e; accepted = word_accepted p (upper n) cs h; told = (vs, t) })
split k s ss (negative {p = p} cs {n = n} {vs = vs} {ts = ts} {us = us} h v t e) = inr (negative_onward k n p cs ss ts us h (vs, t) e)

-- ---- and back

word_text : (t : Token) (rest : List Token) (p cs : List ℕ) (text : List ℕ) → t ≡ Word text → text ≡ p ++ cs → t ∷ rest ≡ Word (p ++ cs) ∷ rest
word_text t rest p cs text a b = ap (λ (x : Token). x ∷ rest) (a ∙ ap (λ (l : List ℕ). Word l) b)

first_joins : (k : ℕ) (s : Shape) (ss : List Shape) (ts : List Token) → Onward ss (first_of k s) ts → IsText (s ∷ ss) ts
first_joins k (Other c) ss ts o = (o.told.0, subst (λ (l : List Token). Spells (Other c ∷ ss) o.told.0 l) (sym (o.is ∙ ap (λ (x : Token). x ∷ o.rest) o.accepted)) (other o.told.1))
first_joins k (Literal p) ss ts o =
    let a = o.accepted in
    (o.told.0, subst (λ (l : List Token). Spells (Literal p ∷ ss) o.told.0 l) (sym (o.is ∙ ap (λ (x : Token). x ∷ o.rest) (a.1 ∙ ap (λ (l : List ℕ). Word l) (plain_is p a.0 a.2)))) (literal o.told.1))
first_joins k (Unsigned hex p n) ss ts o =
    let a = o.accepted in
    let b = accepts_splits (lead hex p) (whole hex n) a.0 a.2 in
    (value (base_of hex) b.tail ∷ o.told.0, unsigned b.tail b.ended refl o.told.1 (o.is ∙ word_text o.token o.rest (lead hex p) b.tail a.0 a.1 b.is))
first_joins k (Signed p n) ss ts o =
    let a = o.accepted in
    let b = accepts_splits p (upper n) a.0 a.2 in
    (value 10 b.tail ∷ o.told.0, positive b.tail b.ended refl o.told.1 (o.is ∙ word_text o.token o.rest p b.tail a.0 a.1 b.is))

negative_joins : (p : List ℕ) (n : ℕ) (ss : List Shape) (ts under : List Token) → FromDigits (2 ^ (n - 1)) ss under → ts ≡ before_sign p (Sign 45 ∷ under) → IsText (Signed p n ∷ ss) ts
negative_joins p n ss ts under d e = ((2 ^ n - value 10 d.0) ∷ d.4.0, negative d.0 d.3 refl d.4.1 (e ∙ ap (λ (l : List Token). before_sign p (Sign 45 ∷ l)) d.2))

second_joins : (k : ℕ) (s : Shape) (ss : List Shape) (ts : List Token) → Onwards ss (second_of k s) ts → IsText (s ∷ ss) ts
second_joins k (Other c) ss ts o = absurd o
second_joins k (Literal p) ss ts o = absurd o
second_joins k (Unsigned hex p n) ss ts o = absurd o
second_joins k (Signed [] n) ss ts o = negative_joins [] n ss ts o.rest o.told (o.is ∙ ap (λ (x : Token). x ∷ o.rest) o.accepted)
second_joins k (Signed (c ∷ p) n) ss ts o =
    let a = o.accepted in
    let m = o.told in
    negative_joins (c ∷ p) n ss ts m.0 m.2 (o.is ∙ ap (λ (x : Token). x ∷ o.rest) (a.1 ∙ ap (λ (l : List ℕ). Word l) (plain_is (c ∷ p) a.0 a.2)) ∙ ap (λ (l : List Token). Word (c ∷ p) ∷ l) m.1)

-- ---- at a place

first_shape : (k : ℕ) (s : Shape) → (first_of k s).next.shape ≡ k
first_shape k (Other c) = refl
first_shape k (Literal p) = refl
first_shape k (Unsigned hex p n) = refl
first_shape k (Signed p n) = refl

negative_shape : (k high : ℕ) (p : List ℕ) → (negative_of k p high).next.shape ≡ k
negative_shape k high [] = refl
negative_shape k high (c ∷ p) = refl

behind_next : (ss : List Shape) (k : ℕ) (x : Shape) → slice_get ss k ≡ Some x → drop k ss ≡ x ∷ drop (suc k) ss
behind_next [] k x e = absurd cc
behind_next (y ∷ ss) zero x e = let h : y ≡ x = cc in ap (λ (z : Shape). z ∷ ss) h
behind_next (y ∷ ss) (suc k) x e = behind_next ss k x e

behind_piece : (ss : List Shape) (k : ℕ) (x : Shape) → slice_get ss k ≡ Some x → drop k ss ≡ x ∷ drop (k + 1) ss
behind_piece ss k x e = let h : suc k ≡ k + 1 = omega arith in behind_next ss k x e ∙ ap (λ (j : ℕ). x ∷ drop j ss) h

no_piece : (ss : List Shape) (k : ℕ) → slice_get ss k ≡ None → drop k ss ≡ []
no_piece [] zero e = refl
no_piece [] (suc k) e = refl
no_piece (y ∷ ss) zero e = absurd cc
no_piece (y ∷ ss) (suc k) e = no_piece ss k e

to_via : (ss : List Shape) (k : ℕ) (s : Step) (ts : List Token) → s.next.shape ≡ k → Onward (drop k ss) s ts → Via ss s ts
to_via ss k s ts e o = record { token = o.token; rest = o.rest; is = o.is; accepted = o.accepted; told = subst (λ (j : ℕ). From s.next.pending (drop j ss) o.rest) (sym e) o.told }

to_through : (ss : List Shape) (k : ℕ) (x : Shape) (ts : List Token) → Onwards (drop k ss) (second_of k x) ts → Through ss (second_of k x) ts
to_through ss k (Other c) ts o = absurd o
to_through ss k (Literal p) ts o = absurd o
to_through ss k (Unsigned hex p n) ts o = absurd o
to_through ss k (Signed p n) ts o = to_via ss k (negative_of k p (2 ^ (n - 1))) ts (negative_shape k (2 ^ (n - 1)) p) o

nothing_said : {ts : List Token} → IsText [] ts → ts ≡ []
nothing_said t = go t.1 where
  go : {vs : List ℕ} {us : List Token} → Spells [] vs us → us ≡ []
  go shapes.end = refl

-- what is said from a place goes through one of its steps
through : (pending : Pending) (k : ℕ) (ss : List Shape) (t : Token) (ts : List Token) → From pending (drop k ss) (t ∷ ts) → Through ss (first_from pending k (slice_get ss k)) (t ∷ ts) ⊎ Through ss (second_from pending k (slice_get ss k)) (t ∷ ts)
through (Minus high) k ss t ts f = inl (record { token = Sign 45; rest = f.0; is = f.1; accepted = refl; told = f.2 })
through (Digits high) k ss t ts f = inl (record { token = Word f.0; rest = f.1; is = f.2; accepted = word_accepted [] (sizes high) f.0 f.3; told = f.4 })
through Nothing k ss t ts f = go (slice_get ss k) refl where
  go : (o : Option Shape) → slice_get ss k ≡ o → Through ss (first_from Nothing k o) (t ∷ ts) ⊎ Through ss (second_from Nothing k o) (t ∷ ts)
  go None e = absurd (let h : t ∷ ts ≡ [] = nothing_said (subst (λ (l : List Shape). IsText l (t ∷ ts)) (no_piece ss k e) f) in cc)
  go (Some x) e =
      let g : IsText (x ∷ drop (k + 1) ss) (t ∷ ts) = subst (λ (l : List Shape). IsText l (t ∷ ts)) (behind_piece ss k x e) f in
      elim (split (k + 1) x (drop (k + 1) ss) g.1) [
        | inl o ↦ inl (to_via ss (k + 1) (first_of (k + 1) x) (t ∷ ts) (first_shape (k + 1) x) o)
        | inr o ↦ inr (to_through ss (k + 1) x (t ∷ ts) o)
      ]

pub through_step : (ss : List Shape) (place : Place) (t : Token) (ts : List Token) → Tells ss place (t ∷ ts) → Through ss (first_step ss place) (t ∷ ts) ⊎ Through ss (second_step ss place) (t ∷ ts)
through_step ss place t ts f = through place.pending place.shape ss t ts f

one_token : (ss : List Shape) (k : ℕ) (s : Step) (token : Token) (ts : List Token) → s.next.shape ≡ k → Accepts s.piece token → Tells ss s.next ts → Onward (drop k ss) s (token ∷ ts)
one_token ss k s token ts e a b = record { token = token; rest = ts; is = refl; accepted = a; told = subst (λ (j : ℕ). From s.next.pending (drop j ss) ts) e b }

first_from_tells : (pending : Pending) (k : ℕ) (ss : List Shape) (s : Step) → first_from pending k (slice_get ss k) ≡ Some s → (token : Token) (ts : List Token) → Accepts s.piece token → Tells ss s.next ts → From pending (drop k ss) (token ∷ ts)
first_from_tells (Minus high) k ss s e token ts a b =
    let same : step (Mark 45) k (Digits high) ≡ s = cc in
    let a' : Accepts (Mark 45) token = subst (λ (x : Step). Accepts x.piece token) (sym same) a in
    let b' : Tells ss (place_at k (Digits high)) ts = subst (λ (x : Step). Tells ss x.next ts) (sym same) b in
    (ts, ap (λ (x : Token). x ∷ ts) a', b')
first_from_tells (Digits high) k ss s e token ts a b =
    let same : step (RunOf [] (sizes high)) k Nothing ≡ s = cc in
    let a' : Accepts (RunOf [] (sizes high)) token = subst (λ (x : Step). Accepts x.piece token) (sym same) a in
    let b' : Tells ss (place_at k Nothing) ts = subst (λ (x : Step). Tells ss x.next ts) (sym same) b in
    let c = accepts_splits [] (sizes high) a'.0 a'.2 in
    (c.tail, ts, ap (λ (x : Token). x ∷ ts) (a'.1 ∙ ap (λ (l : List ℕ). Word l) c.is), c.ended, b')
first_from_tells Nothing k ss s e token ts a b = go (slice_get ss k) refl e where
  go : (o : Option Shape) → slice_get ss k ≡ o → first_from Nothing k o ≡ Some s → IsText (drop k ss) (token ∷ ts)
  go None h g = absurd cc
  go (Some x) h g =
      let same : first_of (k + 1) x ≡ s = cc in
      let a' : Accepts (first_of (k + 1) x).piece token = subst (λ (y : Step). Accepts y.piece token) (sym same) a in
      let b' : Tells ss (first_of (k + 1) x).next ts = subst (λ (y : Step). Tells ss y.next ts) (sym same) b in
      subst (λ (l : List Shape). IsText l (token ∷ ts)) (sym (behind_piece ss k x h)) (first_joins (k + 1) x (drop (k + 1) ss) (token ∷ ts) (one_token ss (k + 1) (first_of (k + 1) x) token ts (first_shape (k + 1) x) a' b'))

pub first_tells : (ss : List Shape) (place : Place) (s : Step) → first_step ss place ≡ Some s → (token : Token) (ts : List Token) → Accepts s.piece token → Tells ss s.next ts → Tells ss place (token ∷ ts)
first_tells ss place s e = first_from_tells place.pending place.shape ss s e

second_onward : (ss : List Shape) (k : ℕ) (x : Shape) (s : Step) (token : Token) (ts : List Token) → second_of k x ≡ Some s → Accepts s.piece token → Tells ss s.next ts → Onwards (drop k ss) (second_of k x) (token ∷ ts)
second_onward ss k (Other c) s token ts e a b = absurd cc
second_onward ss k (Literal p) s token ts e a b = absurd cc
second_onward ss k (Unsigned hex p n) s token ts e a b = absurd cc
second_onward ss k (Signed p n) s token ts e a b =
    let same : negative_of k p (2 ^ (n - 1)) ≡ s = cc in
    one_token ss k (negative_of k p (2 ^ (n - 1))) token ts (negative_shape k (2 ^ (n - 1)) p) (subst (λ (y : Step). Accepts y.piece token) (sym same) a) (subst (λ (y : Step). Tells ss y.next ts) (sym same) b)

second_from_tells : (pending : Pending) (k : ℕ) (ss : List Shape) (s : Step) → second_from pending k (slice_get ss k) ≡ Some s → (token : Token) (ts : List Token) → Accepts s.piece token → Tells ss s.next ts → From pending (drop k ss) (token ∷ ts)
second_from_tells (Minus high) k ss s e token ts a b = absurd cc
second_from_tells (Digits high) k ss s e token ts a b = absurd cc
second_from_tells Nothing k ss s e token ts a b = go (slice_get ss k) refl e where
  go : (o : Option Shape) → slice_get ss k ≡ o → second_from Nothing k o ≡ Some s → IsText (drop k ss) (token ∷ ts)
  go None h g = absurd cc
  go (Some x) h g = subst (λ (l : List Shape). IsText l (token ∷ ts)) (sym (behind_piece ss k x h)) (second_joins (k + 1) x (drop (k + 1) ss) (token ∷ ts) (second_onward ss (k + 1) x s token ts g a b))

pub second_tells : (ss : List Shape) (place : Place) (s : Step) → second_step ss place ≡ Some s → (token : Token) (ts : List Token) → Accepts s.piece token → Tells ss s.next ts → Tells ss place (token ∷ ts)
second_tells ss place s e = second_from_tells place.pending place.shape ss s e

-- ---- ends

past_all : (ss : List Shape) (k : ℕ) → IsText (drop k ss) [] → length ss ≤ k
past_all [] k t = omega arith
past_all (s ∷ ss) zero t = absurd (elim (split 0 s ss t.1) [ inl o ↦ (let h : [] ≡ o.token ∷ o.rest = o.is in cc) | inr o ↦ empty_second s o ]) where
  empty_second : (s : Shape) → Onwards ss (second_of 0 s) [] → ⊥
  empty_second (Other c) o = o
  empty_second (Literal p) o = o
  empty_second (Unsigned hex p n) o = o
  empty_second (Signed p n) o = let h : [] ≡ o.token ∷ o.rest = o.is in cc
past_all (s ∷ ss) (suc k) t = let h = past_all ss k t in omega arith

ends_from : (pending : Pending) (k : ℕ) (ss : List Shape) → From pending (drop k ss) [] → (is_nothing pending && nat_le (length ss) k) ≡ true
ends_from Nothing k ss f = le-leb (length ss) k (past_all ss k f)
ends_from (Minus high) k ss f = absurd (let h : [] ≡ Sign 45 ∷ f.0 = f.1 in cc)
ends_from (Digits high) k ss f = absurd (let h : [] ≡ Word f.0 ∷ f.1 = f.2 in cc)

pub ends_here : (ss : List Shape) (place : Place) → Tells ss place [] → is_last (length ss) place ≡ true
ends_here ss place f = ends_from place.pending place.shape ss f

last_from : (pending : Pending) (k : ℕ) (ss : List Shape) → (is_nothing pending && nat_le (length ss) k) ≡ true → From pending (drop k ss) []
last_from Nothing k ss h = subst (λ (l : List Shape). IsText l []) (sym (drop_all k ss (leb-true (length ss) k h))) ([], shapes.end)
last_from (Minus high) k ss h = absurd cc
last_from (Digits high) k ss h = absurd cc

pub last_place : (ss : List Shape) (place : Place) → is_last (length ss) place ≡ true → Tells ss place []
last_place ss place h = last_from place.pending place.shape ss h

-- ---- each step leaves less

pub power_up : (i j : ℕ) → i < j → 5 * 5 ^ i ≤ 5 ^ j
power_up i j h =
    let e : 5 ^ j ≡ 5 ^ suc i * 5 ^ (j - suc i) = ap (λ (k : ℕ). 5 ^ k) {x = j} {y = suc i + (j - suc i)} (omega arith) ∙ pow-add 5 (suc i) (j - suc i) in
    let p : 0 < 5 ^ (j - suc i) = power_some 5 (j - suc i) (omega arith) in
    let m : 1 * 5 ^ suc i ≤ 5 ^ (j - suc i) * 5 ^ suc i = mul-le-mul_right (5 ^ suc i) p in
    let c : 5 ^ (j - suc i) * 5 ^ suc i ≡ 5 ^ suc i * 5 ^ (j - suc i) = grind arith in
    let s : 5 ^ suc i ≡ 5 ^ i * 5 = pow-suc 5 i in omega arith

less_room : (ss : List Shape) (k : ℕ) (x : Shape) (s : Step) → slice_get ss k ≡ Some x → s.next.shape ≡ k + 1 → room_of s.next.pending (length (drop (k + 1) ss)) < 3 * length (drop k ss) → room ss s.next < 3 * length (drop k ss)
less_room ss k x s e n h = subst (λ (j : ℕ). room_of s.next.pending (length (drop j ss)) < 3 * length (drop k ss)) (sym n) h

first_room : (k : ℕ) (x : Shape) (left : ℕ) → room_of (first_of k x).next.pending left ≡ 3 * left
first_room k (Other c) left = refl
first_room k (Literal p) left = refl
first_room k (Unsigned hex p n) left = refl
first_room k (Signed p n) left = refl

negative_room : (k high : ℕ) (p : List ℕ) (left : ℕ) → room_of (negative_of k p high).next.pending left ≤ 3 * left + 2
negative_room k high [] left = omega arith
negative_room k high (c ∷ p) left = omega arith

shorter : (ss : List Shape) (k : ℕ) (x : Shape) → slice_get ss k ≡ Some x → length (drop k ss) ≡ suc (length (drop (k + 1) ss))
shorter ss k x e = ap (λ (l : List Shape). length l) (behind_piece ss k x e)

first_less : (pending : Pending) (k : ℕ) (ss : List Shape) → 5 * step_weight ss (first_from pending k (slice_get ss k)) ≤ 5 ^ room_of pending (length (drop k ss))
first_less (Minus high) k ss = power_up (3 * length (drop k ss) + 1) (3 * length (drop k ss) + 2) (omega arith)
first_less (Digits high) k ss = power_up (3 * length (drop k ss)) (3 * length (drop k ss) + 1) (omega arith)
first_less Nothing k ss = go (slice_get ss k) refl where
  go : (o : Option Shape) → slice_get ss k ≡ o → 5 * step_weight ss (first_from Nothing k o) ≤ 5 ^ (3 * length (drop k ss))
  go None e = omega arith
  go (Some x) e =
      let s = first_of (k + 1) x in
      let l = shorter ss k x e in
      let r = first_room (k + 1) x (length (drop (k + 1) ss)) in
      power_up (room ss s.next) (3 * length (drop k ss)) (less_room ss k x s e (first_shape (k + 1) x) (omega arith))

second_less : (pending : Pending) (k : ℕ) (ss : List Shape) → 5 * step_weight ss (second_from pending k (slice_get ss k)) ≤ 5 ^ room_of pending (length (drop k ss))
second_less (Minus high) k ss = omega arith
second_less (Digits high) k ss = omega arith
second_less Nothing k ss = go (slice_get ss k) refl where
  at : (x : Shape) → slice_get ss k ≡ Some x → 5 * step_weight ss (second_of (k + 1) x) ≤ 5 ^ (3 * length (drop k ss))
  at (Other c) e = omega arith
  at (Literal p) e = omega arith
  at (Unsigned hex p n) e = omega arith
  at (Signed p n) e =
      let s = negative_of (k + 1) p (2 ^ (n - 1)) in
      let l = shorter ss k (Signed p n) e in
      let r = negative_room (k + 1) (2 ^ (n - 1)) p (length (drop (k + 1) ss)) in
      power_up (room ss s.next) (3 * length (drop k ss)) (less_room ss k (Signed p n) s e (negative_shape (k + 1) (2 ^ (n - 1)) p) (omega arith))

  go : (o : Option Shape) → slice_get ss k ≡ o → 5 * step_weight ss (second_from Nothing k o) ≤ 5 ^ (3 * length (drop k ss))
  go None e = omega arith
  go (Some x) e = at x e

pub first_lighter : (ss : List Shape) (place : Place) → 5 * step_weight ss (first_step ss place) ≤ 5 ^ room ss place
first_lighter ss place = first_less place.pending place.shape ss

pub second_lighter : (ss : List Shape) (place : Place) → 5 * step_weight ss (second_step ss place) ≤ 5 ^ room ss place
second_lighter ss place = second_less place.pending place.shape ss
