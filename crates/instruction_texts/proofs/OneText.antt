-- A value has one numeral, so a tree's shape spells one text with its values.
use Rattle.std.proofs.Common.{◌≡◌, ℕ, suc, ◌+◌, ◌-◌, ◌*◌, ◌^◌, ◌<◌, ◌≤◌, Bool, true, false, List, [], ◌∷◌, ◌++◌, length, refl, sym, ap, ap₂, ◌∙◌, subst, arith, nat_eq, nat_lt, inl, inr}
use Rattle.std.proofs.lemmas.List.{append-nil}
use Rattle.std.proofs.lemmas.Bool.{and_parts, ltb-true, cases_lt, cases_order, eqb-false, not-true}
use Rattle.std.proofs.lemmas.Bool.Decides.{nat_tests}
use Rattle.std.proofs.Math.Nat.{mul-le-mul_right, pow-suc}
use Rattle.std.proofs.lemmas.Nat.{pow-add}
use Rattle.instruction_trees.proofs.Numbers.{doubled}
use Rattle.instruction_texts.specs.declared.shapes.Shape.{Shape}
use Rattle.instruction_texts.specs.declared.shapes.Token.{Token}
use Rattle.instruction_texts.specs.declared.shapes.Token.TheVariants.{Word, Sign}
use Rattle.instruction_texts.specs.declared.shapes.Ending.TheVariants.{Number}
use Rattle.instruction_texts.specs.Runs.{digit, base_of, value, all_digits, is_plain, ends}
use Rattle.instruction_texts.specs.Shapes as shapes
use Rattle.instruction_texts.specs.Shapes.{lead, whole, upper, lower, before_sign, Spells, other, literal, unsigned, positive, negative, IsWide}
use Rattle.instruction_texts.proofs.CommonRuns.{number_parts, power_some, base_big}

one_digit_less : (a b q v w : ℕ) → v < q → a < b → a * q + v < b * q + w
one_digit_less a b q v w h lt = let k : suc a * q ≤ b * q = mul-le-mul_right q lt in let e : suc a * q ≡ a * q + q = grind arith in omega arith

parts_same : (a b q v w : ℕ) → v < q → w < q → a * q + v ≡ b * q + w → (a ≡ b) × (v ≡ w)
parts_same a b q v w h k e = elim (cases_order a b) [
  | inl same ↦ (same, (let s : a * q ≡ b * q = ap (λ (x : ℕ). x * q) same in omega arith))
  | inr (inl lt) ↦ absurd (let l = one_digit_less a b q v w h lt in omega arith)
  | inr (inr gt) ↦ absurd (let l = one_digit_less b a q w v k gt in omega arith)
]

digit_same : (c d : ℕ) → digit c < 16 → digit c ≡ digit d → c ≡ d
digit_same c d h e = grind (arith, nat_tests)

value_below : (hex : Bool) (cs : List ℕ) → all_digits (base_of hex) cs ≡ true → value (base_of hex) cs < base_of hex ^ length cs
value_below hex [] h = power_some (base_of hex) 0 (let b : 10 ≤ base_of hex = base_big hex in omega arith)
value_below hex (c ∷ cs) h =
    let b = base_of hex in
    let t = and_parts (nat_lt (digit c) b) (all_digits b cs) h in
    let lt : digit c < b = ltb-true (digit c) b t.0 in
    let v : value b cs < b ^ length cs = value_below hex cs t.1 in
    let l : digit c * b ^ length cs + value b cs < b * b ^ length cs + 0 = one_digit_less (digit c) b (b ^ length cs) (value b cs) 0 v lt in
    let e : b ^ suc (length cs) ≡ b * b ^ length cs = pow-suc b (length cs) ∙ grind arith in omega arith

base_16 : (hex : Bool) → base_of hex ≤ 16
base_16 true = omega arith
base_16 false = omega arith

same_numbers : (hex : Bool) (cs ds : List ℕ) → length cs ≡ length ds → all_digits (base_of hex) cs ≡ true → all_digits (base_of hex) ds ≡ true → value (base_of hex) cs ≡ value (base_of hex) ds → cs ≡ ds
same_numbers hex [] [] l x y e = refl
same_numbers hex [] (d ∷ ds) l x y e = absurd cc
same_numbers hex (c ∷ cs) [] l x y e = absurd cc
same_numbers hex (c ∷ cs) (d ∷ ds) l x y e =
    let b = base_of hex in
    let m : length cs ≡ length ds = omega arith in
    let s = and_parts (nat_lt (digit c) b) (all_digits b cs) x in
    let t = and_parts (nat_lt (digit d) b) (all_digits b ds) y in
    let p = parts_same (digit c) (digit d) (b ^ length cs) (value b cs) (value b ds) (value_below hex cs s.1) (subst (λ (k : ℕ). value b ds < b ^ k) (sym m) (value_below hex ds t.1)) (e ∙ ap (λ (k : ℕ). digit d * b ^ k + value b ds) (sym m)) in
    let small : base_of hex ≤ 16 = base_16 hex in
    let low : digit c < b = ltb-true (digit c) b s.0 in
    ap₂ (λ (z : ℕ) (zs : List ℕ). z ∷ zs) (digit_same c d (omega arith) p.0) (same_numbers hex cs ds m s.1 t.1 p.1)

pub power_mono : (b i j : ℕ) → 0 < b → i ≤ j → b ^ i ≤ b ^ j
power_mono b i j h le =
    let e : b ^ j ≡ b ^ i * b ^ (j - i) = ap (λ (k : ℕ). b ^ k) (omega arith) ∙ pow-add b i (j - i) in
    let p : 0 < b ^ (j - i) = power_some b (j - i) h in
    let m : 1 * b ^ i ≤ b ^ (j - i) * b ^ i = mul-le-mul_right (b ^ i) p in
    let c : b ^ (j - i) * b ^ i ≡ b ^ i * b ^ (j - i) = grind arith in omega arith

shorter_less : (hex : Bool) (cs ds : List ℕ) → all_digits (base_of hex) cs ≡ true → is_plain cs ≡ true → is_plain ds ≡ true → length cs < length ds → value (base_of hex) cs < value (base_of hex) ds
shorter_less hex [] ds x p q lt = absurd cc
shorter_less hex (c ∷ cs) [] x p q lt = absurd (omega arith)
shorter_less hex (c ∷ cs) (d ∷ []) x p q lt = absurd (omega arith)
shorter_less hex (c ∷ cs) (d ∷ e ∷ es) x p q lt =
    let b = base_of hex in
    let big : 10 ≤ b = base_big hex in
    let n = length (e ∷ es) in
    let zero_no = eqb-false (digit d) 0 (not-true (nat_eq (digit d) 0) q) in
    let some : 0 < digit d = elim (cases_lt 0 (digit d)) [ inl h ↦ h | inr h ↦ absurd (zero_no (omega arith)) ] in
    let m : 1 * b ^ n ≤ digit d * b ^ n = mul-le-mul_right (b ^ n) some in
    let u : value b (c ∷ cs) < b ^ length (c ∷ cs) = value_below hex (c ∷ cs) x in
    let o : b ^ length (c ∷ cs) ≤ b ^ n = power_mono b (length (c ∷ cs)) n (omega arith) (omega arith) in
    omega arith

pub same_numerals : (hex : Bool) (cs ds : List ℕ) → all_digits (base_of hex) cs ≡ true → is_plain cs ≡ true → all_digits (base_of hex) ds ≡ true → is_plain ds ≡ true
    → value (base_of hex) cs ≡ value (base_of hex) ds → cs ≡ ds
same_numerals hex cs ds x p y q e = elim (cases_order (length cs) (length ds)) [
  | inl l ↦ same_numbers hex cs ds l x y e
  | inr (inl lt) ↦ absurd (let h = shorter_less hex cs ds x p q lt in omega arith)
  | inr (inr gt) ↦ absurd (let h = shorter_less hex ds cs y q p gt in omega arith)
]

same_ends : (hex pos pos' : Bool) (high high' : ℕ) (cs ds : List ℕ) → ends (Number hex pos high) cs ≡ true → ends (Number hex pos' high') ds ≡ true → value (base_of hex) cs ≡ value (base_of hex) ds → cs ≡ ds
same_ends hex pos pos' high high' cs ds h k e =
    let a = number_parts hex pos high cs h in let b = number_parts hex pos' high' ds k in same_numerals hex cs ds a.digits a.plain b.digits b.plain e

-- the values with and without a sign lie apart
apart : (n v : ℕ) (cs ds : List ℕ) → 0 < n → ends (upper n) cs ≡ true → v ≡ value 10 cs → ends (lower n) ds ≡ true → v ≡ 2 ^ n - value 10 ds → ⊥
apart n v cs ds some h x k y =
    let a : value 10 cs ≤ 2 ^ (n - 1) - 1 = (number_parts false false (2 ^ (n - 1) - 1) cs h).below in
    let b : value 10 ds ≤ 2 ^ (n - 1) = (number_parts false true (2 ^ (n - 1)) ds k).below in
    let two : 2 ^ n ≡ 2 ^ (n - 1) + 2 ^ (n - 1) = ap (λ (j : ℕ). 2 ^ j) (omega arith) ∙ doubled (n - 1) in
    let p : 0 < 2 ^ (n - 1) = power_some 2 (n - 1) (omega arith) in omega arith

pub text_is_one : {ss : List Shape} {vs ws : List ℕ} {ts us : List Token} → IsWide ss → Spells ss vs ts → Spells ss ws us → vs ≡ ws → ts ≡ us
text_is_one wide shapes.end shapes.end e = refl
text_is_one wide (other {c = c} s) (other t) e = ap (λ (l : List Token). Sign c ∷ l) (text_is_one wide s t e)
text_is_one wide (literal {p = p} s) (literal t) e = ap (λ (l : List Token). Word p ∷ l) (text_is_one wide s t e)
text_is_one wide (unsigned {hex = hex} {p = p} cs {n = n} {v = v} h x s a) (unsigned ds {v = w} k y t b) e =
    let head : v ≡ w = cc in
    let is : cs ≡ ds = same_ends hex false false (2 ^ n - 1) (2 ^ n - 1) cs ds h k (sym x ∙ head ∙ y) in
    a ∙ ap₂ (λ (z : List ℕ) (l : List Token). Word (lead hex p ++ z) ∷ l) is (text_is_one wide s t (cc)) ∙ sym b
text_is_one wide (positive {p = p} cs {n = n} {v = v} h x s a) (positive ds {v = w} k y t b) e =
    let head : v ≡ w = cc in
    let is : cs ≡ ds = same_ends false false false (2 ^ (n - 1) - 1) (2 ^ (n - 1) - 1) cs ds h k (sym x ∙ head ∙ y) in
    a ∙ ap₂ (λ (z : List ℕ) (l : List Token). Word (p ++ z) ∷ l) is (text_is_one wide.1 s t (cc)) ∙ sym b
text_is_one wide (negative {p = p} cs {n = n} {v = v} h x s a) (negative ds {v = w} k y t b) e =
    let head : v ≡ w = cc in
    let A = number_parts false true (2 ^ (n - 1)) cs h in
    let B = number_parts false true (2 ^ (n - 1)) ds k in
    let below : value 10 cs ≤ 2 ^ (n - 1) = A.below in
    let below' : value 10 ds ≤ 2 ^ (n - 1) = B.below in
    let up : 2 ^ (n - 1) ≤ 2 ^ n = power_mono 2 (n - 1) n (omega arith) (omega arith) in
    let is : cs ≡ ds = same_ends false true true (2 ^ (n - 1)) (2 ^ (n - 1)) cs ds h k (let q : v ≡ w = head in omega arith) in
    a ∙ ap₂ (λ (z : List ℕ) (l : List Token). before_sign p (Sign 45 ∷ Word z ∷ l)) is (text_is_one wide.1 s t (cc)) ∙ sym b
text_is_one wide (positive cs {n = n} {v = v} h x s a) (negative ds {v = w} k y t b) e = let head : v ≡ w = cc in absurd (apart n v cs ds wide.0 h x k (head ∙ y))
text_is_one wide (negative cs {n = n} {v = v} h x s a) (positive ds {v = w} k y t b) e = let head : v ≡ w = cc in absurd (apart n w ds cs wide.0 k y h (sym head ∙ x))

-- ---- one text has one list of values

same_tail : (p cs ds : List ℕ) → p ++ cs ≡ p ++ ds → cs ≡ ds
same_tail [] cs ds e = e
same_tail (c ∷ p) cs ds e = same_tail p cs ds (cc)

pub same_word : (p cs ds : List ℕ) (ts us xs : List Token) → xs ≡ Word (p ++ cs) ∷ ts → xs ≡ Word (p ++ ds) ∷ us → (cs ≡ ds) × (ts ≡ us)
same_word p cs ds ts us xs a b =
    let e : Word (p ++ cs) ∷ ts ≡ Word (p ++ ds) ∷ us = sym a ∙ b in
    let w : p ++ cs ≡ p ++ ds = cc in
    let t : ts ≡ us = cc in (same_tail p cs ds w, t)

pub same_minus : (p cs ds : List ℕ) (ts us xs : List Token) → xs ≡ before_sign p (Sign 45 ∷ Word cs ∷ ts) → xs ≡ before_sign p (Sign 45 ∷ Word ds ∷ us) → (cs ≡ ds) × (ts ≡ us)
same_minus [] cs ds ts us xs a b = let e : Sign 45 ∷ Word cs ∷ ts ≡ Sign 45 ∷ Word ds ∷ us = sym a ∙ b in ((cc), (cc))
same_minus (c ∷ p) cs ds ts us xs a b = let e : Word (c ∷ p) ∷ Sign 45 ∷ Word cs ∷ ts ≡ Word (c ∷ p) ∷ Sign 45 ∷ Word ds ∷ us = sym a ∙ b in ((cc), (cc))

longer : (p cs : List ℕ) → p ≡ p ++ cs → cs ≡ []
longer p cs e = sym (same_tail p [] cs (append-nil p ∙ e))

-- a number without a sign is no number with one
pub not_both : (p cs ds : List ℕ) (n : ℕ) (ts us xs : List Token) → ends (upper n) cs ≡ true → xs ≡ Word (p ++ cs) ∷ ts → xs ≡ before_sign p (Sign 45 ∷ Word ds ∷ us) → ⊥
not_both [] cs ds n ts us xs h a b = let e : Word cs ∷ ts ≡ Sign 45 ∷ Word ds ∷ us = sym a ∙ b in cc
not_both (c ∷ p) cs ds n ts us xs h a b =
    let e : Word (c ∷ (p ++ cs)) ∷ ts ≡ Word (c ∷ p) ∷ Sign 45 ∷ Word ds ∷ us = sym a ∙ b in
    let w : c ∷ p ≡ c ∷ (p ++ cs) = cc in
    let k = (number_parts false false (2 ^ (n - 1) - 1) cs h).plain in
    let z : cs ≡ [] = longer (c ∷ p) cs w in
    let f : is_plain [] ≡ true = subst (λ (l : List ℕ). is_plain l ≡ true) z k in cc

pub one_values : {ss : List Shape} {vs ws : List ℕ} {ts us : List Token} → Spells ss vs ts → Spells ss ws us → ts ≡ us → vs ≡ ws
one_values shapes.end shapes.end e = refl
one_values (other s) (other t) e = one_values s t (cc)
one_values (literal s) (literal t) e = one_values s t (cc)
one_values (unsigned {hex = hex} {p = p} cs {ts = ts} {us = xs} h v s a) (unsigned ds {ts = us} k w t b) e =
    let m = same_word (lead hex p) cs ds ts us xs a (e ∙ b) in
    ap₂ (λ (x : ℕ) (l : List ℕ). x ∷ l) (v ∙ ap (value (base_of hex)) m.0 ∙ sym w) (one_values s t m.1)
one_values (positive {p = p} cs {ts = ts} {us = xs} h v s a) (positive ds {ts = us} k w t b) e =
    let m = same_word p cs ds ts us xs a (e ∙ b) in
    ap₂ (λ (x : ℕ) (l : List ℕ). x ∷ l) (v ∙ ap (value 10) m.0 ∙ sym w) (one_values s t m.1)
one_values (negative {p = p} cs {n = n} {ts = ts} {us = xs} h v s a) (negative ds {ts = us} k w t b) e =
    let m = same_minus p cs ds ts us xs a (e ∙ b) in
    ap₂ (λ (x : ℕ) (l : List ℕ). x ∷ l) (v ∙ ap (λ (l : List ℕ). 2 ^ n - value 10 l) m.0 ∙ sym w) (one_values s t m.1)
one_values (positive {p = p} cs {n = n} {ts = ts} {us = xs} h v s a) (negative ds {ts = us} k w t b) e = absurd (not_both p cs ds n ts us xs h a (e ∙ b))
one_values (negative {p = p} cs {n = n} {ts = ts} {us = xs} h v s a) (positive ds {ts = us} {us = ys} k w t b) e = absurd (not_both p ds cs n us ts ys k b (sym e ∙ a))
