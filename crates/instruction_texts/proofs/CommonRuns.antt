-- Two runs have a text in common exactly where one of a few texts is common.
use Rattle.std.proofs.Common.{◌≡◌, ℕ, zero, suc, ◌+◌, ◌*◌, ◌^◌, ◌<◌, ◌≤◌, Bool, true, false, not, cond, ◌&&◌, ◌||◌, List, [], ◌∷◌, ◌++◌, length, Option, Some, None, refl, sym, ap, ap₂, ◌∙◌, subst, arith, nat_eq, nat_lt, inl, inr, ◌⊎◌, append_assoc}
use Rattle.std.specs.Prelude.{nat_le, is_some}
use Rattle.std.specs.List.{find}
use Rattle.std.proofs.lemmas.Bool.{eq-eqb, ne_eqb, cases_eq, and_parts, and_from, ltb-true, lt-ltb, leb-true, le-leb}
use Rattle.std.proofs.lemmas.List.{length-append, append-nil}
use Rattle.std.proofs.lemmas.Nat.{pow-add}
use Rattle.std.proofs.Math.Nat.{mul-le-mul_right, mul-le-mul_left, pow-suc, pow-zero}
use Rattle.std.proofs.lemmas.Bool.Decides.{nat_tests}
use Rattle.instruction_texts.specs.declared.shapes.Ending.{Ending}
use Rattle.instruction_texts.specs.declared.shapes.Ending.TheVariants.{Plain, Number}
use Rattle.instruction_texts.specs.Runs.{digit, base_of, value, all_digits, is_plain, ends, strip, ends_some, accepts, tries, common_run}

-- ---- prefixes

pub strip_append : (p cs : List ℕ) → strip p (p ++ cs) ≡ Some cs
strip_append [] cs = refl
strip_append (c ∷ p) cs = rw (eq-eqb c c refl) (strip_append p cs)

pub strip_is : (p text cs : List ℕ) → strip p text ≡ Some cs → text ≡ p ++ cs
strip_is [] text cs e = cc
strip_is (c ∷ p) [] cs e = absurd cc
strip_is (c ∷ p) (d ∷ text) cs e = go (cases_eq c d) (λ h. strip_is p text cs h) where
  go : (c ≡ d) ⊎ (c ≡ d → ⊥) → (strip p text ≡ Some cs → text ≡ p ++ cs) → d ∷ text ≡ c ∷ (p ++ cs)
  go (inl same) below = ap₂ (λ (x : ℕ) (l : List ℕ). x ∷ l) (sym same) (below (rw (eq-eqb c d same) at e))
  go (inr other) below = absurd (let f : None ≡ Some cs = rw (ne_eqb c d other) at e in cc)

pub record Splits (p : List ℕ) (e : Ending) (text : List ℕ) : Type 0 where
  pub tail : List ℕ
  pub is : text ≡ p ++ tail
  pub ended : ends e tail ≡ true

pub accepts_splits : (p : List ℕ) (e : Ending) (text : List ℕ) → accepts p e text ≡ true → Splits p e text
accepts_splits p e text a = go (strip p text) refl a where
  go : (o : Option (List ℕ)) → strip p text ≡ o → ends_some e o ≡ true → Splits p e text
  go None s h = absurd cc
  go (Some cs) s h = record { tail = cs; is = strip_is p text cs s; ended = h }

pub splits_accepts : (p : List ℕ) (e : Ending) (cs : List ℕ) → ends e cs ≡ true → accepts p e (p ++ cs) ≡ true
splits_accepts p e cs h = rw (strip_append p cs) h

-- one of two prefixes of a text begins the other
pub data Begins (p q ds es : List ℕ) : Type 0 where
  first : (r : List ℕ) → q ≡ p ++ r → ds ≡ r ++ es → Begins p q ds es
  second : (r : List ℕ) → p ≡ q ++ r → es ≡ r ++ ds → Begins p q ds es

pub begins : (p q ds es : List ℕ) → p ++ ds ≡ q ++ es → Begins p q ds es
begins [] q ds es e = first q refl e
begins (c ∷ p) [] ds es e = second (c ∷ p) refl (sym e)
begins (c ∷ p) (d ∷ q) ds es e = go (begins p q ds es (cc)) where
  go : Begins p q ds es → Begins (c ∷ p) (d ∷ q) ds es
  go (first r a b) = first r (let h : c ≡ d = cc in ap₂ (λ (x : ℕ) (l : List ℕ). x ∷ l) (sym h) a) b
  go (second r a b) = second r (let h : c ≡ d = cc in ap₂ (λ (x : ℕ) (l : List ℕ). x ∷ l) h a) b

-- ---- looking for a text

pub find_in : (f : List ℕ → Bool) (xs ys : List (List ℕ)) (x : List ℕ) → f x ≡ true → is_some (find f (xs ++ x ∷ ys)) ≡ true
find_in f [] ys x h = rw h refl
find_in f (y ∷ xs) ys x h = go (f y) (find_in f xs ys x h) where
  go : (b : Bool) → is_some (find f (xs ++ x ∷ ys)) ≡ true → is_some (cond b (Some y) (find f (xs ++ x ∷ ys))) ≡ true
  go true k = refl
  go false k = k

pub find_is : (f : List ℕ → Bool) (xs : List (List ℕ)) (x : List ℕ) → find f xs ≡ Some x → f x ≡ true
find_is f [] x e = absurd cc
find_is f (y ∷ xs) x e = go (f y) refl e (λ s. find_is f xs x s) where
  go : (b : Bool) → f y ≡ b → cond b (Some y) (find f xs) ≡ Some x → (find f xs ≡ Some x → f x ≡ true) → f x ≡ true
  go true h s k = let same : y ≡ x = cc in subst (λ (z : List ℕ). f z ≡ true) same h
  go false h s k = k s

-- ---- numbers

pub value_append : (b : ℕ) (r cs : List ℕ) → value b (r ++ cs) ≡ value b r * b ^ length cs + value b cs
value_append b [] cs = omega arith
value_append b (c ∷ r) cs =
    ap₂ (λ (x y : ℕ). digit c * b ^ x + y) (length-append r cs) (value_append b r cs)
    ∙ ap (λ (x : ℕ). digit c * x + (value b r * b ^ length cs + value b cs)) (pow-add b (length r) (length cs))
    ∙ grind arith

pub digits_left : (b : ℕ) (r cs : List ℕ) → all_digits b (r ++ cs) ≡ true → all_digits b r ≡ true
digits_left b [] cs h = refl
digits_left b (c ∷ r) cs h = let t = and_parts (nat_lt (digit c) b) (all_digits b (r ++ cs)) h in and_from (nat_lt (digit c) b) (all_digits b r) t.0 (digits_left b r cs t.1)

pub digits_join : (b : ℕ) (r cs : List ℕ) → all_digits b r ≡ true → all_digits b cs ≡ true → all_digits b (r ++ cs) ≡ true
digits_join b [] cs h k = k
digits_join b (c ∷ r) cs h k = let t = and_parts (nat_lt (digit c) b) (all_digits b r) h in and_from (nat_lt (digit c) b) (all_digits b (r ++ cs)) t.0 (digits_join b r cs t.1 k)

pub base_big : (hex : Bool) → 10 ≤ base_of hex
base_big true = omega arith
base_big false = omega arith

zero_is : (c : ℕ) → digit c ≡ 0 → c ≡ 48
zero_is c e = grind (arith, nat_tests)

one_digit : (hex : Bool) (c : ℕ) → digit c ≤ 1 → all_digits (base_of hex) (c ∷ []) ≡ true
one_digit true c h = and_from (nat_lt (digit c) 16) true (lt-ltb (digit c) 16 (omega arith)) refl
one_digit false c h = and_from (nat_lt (digit c) 10) true (lt-ltb (digit c) 10 (omega arith)) refl

plain_longer : (r cs : List ℕ) (c d : ℕ) → is_plain (r ++ (c ∷ cs)) ≡ true → is_plain (r ++ (d ∷ [])) ≡ true
plain_longer [] cs c d h = refl
plain_longer (x ∷ []) cs c d h = h
plain_longer (x ∷ y ∷ r) cs c d h = h

-- what it is to be a number of this kind
pub record IsNumber (hex positive : Bool) (high : ℕ) (cs : List ℕ) : Type 0 where
  pub digits : all_digits (base_of hex) cs ≡ true
  pub plain : is_plain cs ≡ true
  pub below : value (base_of hex) cs ≤ high
  pub above : positive ≡ true → 0 < value (base_of hex) cs

pub number_parts : (hex positive : Bool) (high : ℕ) (cs : List ℕ) → ends (Number hex positive high) cs ≡ true → IsNumber hex positive high cs
number_parts hex positive high cs h =
    let v = value (base_of hex) cs in
    let t = and_parts (all_digits (base_of hex) cs && is_plain cs) (nat_le v high && (not positive || nat_lt 0 v)) h in
    let a = and_parts (all_digits (base_of hex) cs) (is_plain cs) t.0 in
    let b = and_parts (nat_le v high) (not positive || nat_lt 0 v) t.1 in
    record { digits = a.0; plain = a.1; below = leb-true v high b.0; above = λ is. ltb-true 0 v (subst (λ (p : Bool). (not p || nat_lt 0 v) ≡ true) is b.1) }

positive_from : (positive : Bool) (v : ℕ) → (positive ≡ true → 0 < v) → (not positive || nat_lt 0 v) ≡ true
positive_from true v h = lt-ltb 0 v (h refl)
positive_from false v h = refl

pub number_from : (hex positive : Bool) (high : ℕ) (cs : List ℕ) → IsNumber hex positive high cs → ends (Number hex positive high) cs ≡ true
number_from hex positive high cs is =
    let v = value (base_of hex) cs in
    and_from (all_digits (base_of hex) cs && is_plain cs) (nat_le v high && (not positive || nat_lt 0 v)) (and_from _ _ is.digits is.plain)
    (and_from (nat_le v high) (not positive || nat_lt 0 v) (le-leb v high is.below) (positive_from positive v is.above))

one_value : (hex : Bool) → value (base_of hex) (49 ∷ []) ≡ 1
one_value true = refl
one_value false = refl

pub power_some : (b k : ℕ) → 0 < b → 0 < b ^ k
power_some b zero h = let e : b ^ 0 ≡ 1 = pow-zero b in omega arith
power_some b (suc k) h = let q : 1 * b ≤ b ^ k * b = mul-le-mul_right b (power_some b k h) in let e : b ^ suc k ≡ b ^ k * b = pow-suc b k in omega arith

first_power : (hex : Bool) → base_of hex ^ 1 ≡ base_of hex
first_power true = refl
first_power false = refl

value_some : (hex : Bool) (c : ℕ) (cs : List ℕ) → 0 < digit c → 0 < value (base_of hex) (c ∷ cs)
value_some hex c cs h =
    let b = base_of hex in
    let big : 10 ≤ b = base_big hex in
    let p : 0 < b ^ length cs = power_some b (length cs) (omega arith) in
    let q : 1 * b ^ length cs ≤ digit c * b ^ length cs = mul-le-mul_right (b ^ length cs) h in omega arith

least : (hex : Bool) (r : List ℕ) (c : ℕ) (cs : List ℕ) → 0 < digit c → value (base_of hex) (r ++ 49 ∷ []) ≤ value (base_of hex) (r ++ c ∷ cs)
least hex r c cs h =
    let b = base_of hex in
    let big : 10 ≤ b = base_big hex in
    let some : 0 < value b (c ∷ cs) = value_some hex c cs h in
    let p : 0 < b ^ length cs = power_some b (length cs) (omega arith) in
    let q : 1 * b ≤ b ^ length cs * b = mul-le-mul_right b p in
    let s : b ^ suc (length cs) ≡ b ^ length cs * b = pow-suc b (length cs) in
    let m : value b r * b ≤ value b r * b ^ suc (length cs) = mul-le-mul_left (value b r) (omega arith) in
    let one : value b (49 ∷ []) ≡ 1 = one_value hex in
    let first : b ^ 1 ≡ b = first_power hex in
    let e : value b (r ++ 49 ∷ []) ≡ value b r * b + 1 = value_append b r (49 ∷ []) ∙ ap₂ (λ (x y : ℕ). value b r * x + y) first one in
    let f : value b (r ++ c ∷ cs) ≡ value b r * b ^ suc (length cs) + value b (c ∷ cs) = value_append b r (c ∷ cs) in
    omega arith

-- the least number that may follow the longer prefix decides
abbrev pub Both : Bool → Bool → ℕ → Bool → Bool → ℕ → List ℕ → ℕ → Type 0
Both hex positive high hex' positive' high' r c = (ends (Number hex positive high) (r ++ c ∷ []) ≡ true) × (ends (Number hex' positive' high') (c ∷ []) ≡ true)

pub numbers_meet : (hex positive : Bool) (high : ℕ) (hex' positive' : Bool) (high' : ℕ) (r ds : List ℕ)
    → ends (Number hex positive high) (r ++ ds) ≡ true → ends (Number hex' positive' high') ds ≡ true
    → Both hex positive high hex' positive' high' r 48 ⊎ Both hex positive high hex' positive' high' r 49
numbers_meet hex positive high hex' positive' high' r [] a b = absurd (let p = (number_parts hex' positive' high' [] b).plain in cc)
numbers_meet hex positive high hex' positive' high' r (c ∷ cs) a b = go (cases_eq (digit c) 0) where
  A : IsNumber hex positive high (r ++ c ∷ cs)
  A = number_parts hex positive high (r ++ c ∷ cs) a

  B : IsNumber hex' positive' high' (c ∷ cs)
  B = number_parts hex' positive' high' (c ∷ cs) b

  single : (ds : List ℕ) → digit c ≡ 0 → is_plain (c ∷ ds) ≡ true → [] ≡ ds
  single [] e h = refl
  single (d ∷ ds) e h = absurd (let k : not (nat_eq (digit c) 0) ≡ false = rw e refl in cc)

  go : (digit c ≡ 0) ⊎ (digit c ≡ 0 → ⊥) → Both hex positive high hex' positive' high' r 48 ⊎ Both hex positive high hex' positive' high' r 49
  go (inl e) =
      let is : c ∷ cs ≡ 48 ∷ [] = ap₂ (λ (x : ℕ) (l : List ℕ). x ∷ l) (zero_is c e) (sym (single cs e B.plain)) in
      inl (subst (λ (l : List ℕ). ends (Number hex positive high) (r ++ l) ≡ true) is a, subst (λ (l : List ℕ). ends (Number hex' positive' high') l ≡ true) is b)
  go (inr ne) =
      let some : 0 < digit c = omega arith in
      let small : digit 49 ≤ 1 = omega arith in
      let up : value (base_of hex) (r ++ 49 ∷ []) ≤ value (base_of hex) (r ++ c ∷ cs) = least hex r c cs some in
      let one : value (base_of hex') (49 ∷ []) ≡ 1 = one_value hex' in
      let at : 0 < value (base_of hex') (c ∷ cs) = value_some hex' c cs some in
      let split : value (base_of hex) (r ++ 49 ∷ []) ≡ value (base_of hex) r * base_of hex ^ 1 + value (base_of hex) (49 ∷ []) = value_append (base_of hex) r (49 ∷ []) in
      let last : value (base_of hex) (49 ∷ []) ≡ 1 = one_value hex in
      let A' = A in let B' = B in
      let below : value (base_of hex) (r ++ c ∷ cs) ≤ high = A'.below in
      let below' : value (base_of hex') (c ∷ cs) ≤ high' = B'.below in
      inr (
        number_from hex positive high (r ++ 49 ∷ []) (record {
          digits = digits_join (base_of hex) r (49 ∷ []) (digits_left (base_of hex) r (c ∷ cs) A'.digits) (one_digit hex 49 small);
          plain = plain_longer r cs c 49 A'.plain;
          below = omega arith;
          above = λ _. omega arith;
        }),
        number_from hex' positive' high' (49 ∷ []) (record {
          digits = one_digit hex' 49 small;
          plain = refl;
          below = omega arith;
          above = λ _. omega arith;
        }),
      )

-- ---- two runs

pub is_nil : (cs : List ℕ) → ends Plain cs ≡ true → cs ≡ []
is_nil [] h = refl
is_nil (c ∷ cs) h = absurd cc

module _ (p : List ℕ) (e : Ending) (q : List ℕ) (f : Ending) where
  hit : (xs ys : List (List ℕ)) (t : List ℕ) → accepts p e t ≡ true → accepts q f t ≡ true → is_some (find (λ t. accepts p e t && accepts q f t) (xs ++ t ∷ ys)) ≡ true
  hit xs ys t a b = find_in (λ t. accepts p e t && accepts q f t) xs ys t (and_from (accepts p e t) (accepts q f t) a b)

pub plain_is : (p text : List ℕ) → accepts p Plain text ≡ true → text ≡ p
plain_is p text a = let s = accepts_splits p Plain text a in s.is ∙ ap (λ (l : List ℕ). p ++ l) (is_nil s.tail s.ended) ∙ append-nil p

-- a number behind a prefix that begins the other
behind : (p r q : List ℕ) (e : Ending) (c : ℕ) → q ≡ p ++ r → ends e (r ++ c ∷ []) ≡ true → accepts p e (q ++ c ∷ []) ≡ true
behind p r q e c is h = subst (λ (l : List ℕ). accepts p e l ≡ true) (sym (append_assoc p r (c ∷ [])) ∙ ap (λ (l : List ℕ). l ++ c ∷ []) (sym is)) (splits_accepts p e (r ++ c ∷ []) h)

pub run_common : (p : List ℕ) (e : Ending) (q : List ℕ) (f : Ending) (text : List ℕ) → accepts p e text ≡ true → accepts q f text ≡ true
    → is_some (common_run p e q f) ≡ true
run_common p Plain q f text a b = let t = plain_is p text a in hit p Plain q f [] (tries q f) p (subst (λ (l : List ℕ). accepts p Plain l ≡ true) t a) (subst (λ (l : List ℕ). accepts q f l ≡ true) t b)
run_common p (Number hex positive high) q Plain text a b =
    let e = Number hex positive high in
    let t = plain_is q text b in hit p e q Plain (tries p e) [] q (subst (λ (l : List ℕ). accepts p e l ≡ true) t a) (subst (λ (l : List ℕ). accepts q Plain l ≡ true) t b)
run_common p (Number hex positive high) q (Number hex' positive' high') text a b = go (begins p q A.tail B.tail (sym A.is ∙ B.is)) where
  A : Splits p (Number hex positive high) text
  A = accepts_splits p (Number hex positive high) text a

  B : Splits q (Number hex' positive' high') text
  B = accepts_splits q (Number hex' positive' high') text b

  go : Begins p q A.tail B.tail → is_some (common_run p (Number hex positive high) q (Number hex' positive' high')) ≡ true
  go (first r x y) = let e : Ending = Number hex positive high in let f : Ending = Number hex' positive' high' in elim (numbers_meet hex positive high hex' positive' high' r B.tail (subst (λ (l : List ℕ). ends e l ≡ true) y A.ended) B.ended) [
    | inl t ↦ hit p e q f (tries p e) ((q ++ 49 ∷ []) ∷ []) (q ++ 48 ∷ []) (behind p r q e 48 x t.0) (splits_accepts q f (48 ∷ []) t.1)
    | inr t ↦ hit p e q f (tries p e ++ (q ++ 48 ∷ []) ∷ []) [] (q ++ 49 ∷ []) (behind p r q e 49 x t.0) (splits_accepts q f (49 ∷ []) t.1)
  ]
  go (second r x y) = let e : Ending = Number hex positive high in let f : Ending = Number hex' positive' high' in elim (numbers_meet hex' positive' high' hex positive high r A.tail (subst (λ (l : List ℕ). ends f l ≡ true) y B.ended) A.ended) [
    | inl t ↦ hit p e q f [] ((p ++ 49 ∷ []) ∷ tries q f) (p ++ 48 ∷ []) (splits_accepts p e (48 ∷ []) t.1) (behind q r p f 48 x t.0)
    | inr t ↦ hit p e q f ((p ++ 48 ∷ []) ∷ []) (tries q f) (p ++ 49 ∷ []) (splits_accepts p e (49 ∷ []) t.1) (behind q r p f 49 x t.0)
  ]
