-- Bits and the numbers that they are.
use Rattle.std.proofs.Common.{◌≡◌, ℕ, zero, suc, ◌+◌, ◌-◌, ◌*◌, ◌/◌, ◌%◌, ◌^◌, ◌<◌, ◌≤◌, Bool, true, false, ◌&&◌, ◌||◌, List, [], ◌∷◌, length, refl, sym, ap, ap₂, ◌∙◌, subst, arith, nat_eq}
use Rattle.std.specs.Prelude.{bit_and, bit_or}
use Rattle.std.specs.Int.{bit_at}
use Rattle.std.proofs.lemmas.Nat.{and_block, or_block, mod-pow-add, mod_low}
use Rattle.std.proofs.lemmas.Nat.Bits.{bit_at_cat_low, bit_at_cat_high, bit_at-lt}
use Rattle.instruction_trees.specs.Bits.{one_if, value, digits}

abbrev pub zipped : (Bool → Bool → Bool) → List Bool → List Bool → List Bool
zipped f (a ∷ as') (b ∷ bs) = f a b ∷ zipped f as' bs
zipped f _ _ = []

pub doubled : (n : ℕ) → 2 ^ suc n ≡ 2 ^ n + 2 ^ n
doubled n = omega arith

pub value_lt : (bs : List Bool) → value bs < 2 ^ length bs
value_lt [] = omega arith
value_lt (true ∷ bs) = omega (arith, value_lt bs, doubled (length bs))
value_lt (false ∷ bs) = omega (arith, value_lt bs, doubled (length bs))

pub length-digits : (n v : ℕ) → length (digits n v) ≡ n
length-digits zero v = refl
length-digits (suc n) v = ap suc (length-digits n v)

-- what stands above n bits does not show in them
pub digits_low : (n m a r : ℕ) → n ≤ m → digits n (a * 2 ^ m + r) ≡ digits n r
digits_low zero m a r le = refl
digits_low (suc n) m a r le = ap₂ (λ (b : ℕ) (bs : List Bool). nat_eq b 1 ∷ bs) (bit_at_cat_low a m r n le) (digits_low n m a r (omega arith))

one_bit : (b : Bool) → nat_eq (bit_at (one_if b) 0) 1 ≡ b
one_bit true = refl
one_bit false = refl

pub digits_value : (bs : List Bool) → digits (length bs) (value bs) ≡ bs
digits_value [] = refl
digits_value (b ∷ bs) =
    let zero_is : length bs - length bs ≡ 0 = omega arith in
    let top : bit_at (one_if b * 2 ^ length bs + value bs) (length bs) ≡ bit_at (one_if b) 0 = bit_at_cat_high (one_if b) (length bs) (value bs) (length bs) (value_lt bs) (omega arith) ∙ ap (bit_at (one_if b)) zero_is in
    ap₂ (λ (c : Bool) (cs : List Bool). c ∷ cs) (ap (λ (k : ℕ). nat_eq k 1) top ∙ one_bit b) (digits_low (length bs) (length bs) (one_if b) (value bs) (omega arith) ∙ digits_value bs)

top_bit : (k : ℕ) → k < 2 → one_if (nat_eq k 1) ≡ k
top_bit zero h = refl
top_bit (suc zero) h = refl
top_bit (suc (suc k)) h = absurd (omega arith)

pub value_digits_mod : (n v : ℕ) → value (digits n v) ≡ v % 2 ^ n
value_digits_mod zero v = omega arith
value_digits_mod (suc n) v =
    ap₂ (λ (a b : ℕ). a + b) (ap₂ (λ (a b : ℕ). a * 2 ^ b) (top_bit (v / 2 ^ n % 2) (bit_at-lt v n)) (length-digits n v)) (value_digits_mod n v)
    ∙ sym (mod-pow-add v 1 n) ∙ ap (λ (k : ℕ). v % 2 ^ k) (omega arith)

pub value_digits : (n v : ℕ) → v < 2 ^ n → value (digits n v) ≡ v
value_digits n v h = value_digits_mod n v ∙ ap (λ (k : ℕ). k % 2 ^ n) (omega arith) ∙ mod_low 0 n v h

pub value_same : (xs ys : List Bool) → length xs ≡ length ys → value xs ≡ value ys → xs ≡ ys
value_same xs ys l e = sym (digits_value xs) ∙ ap₂ digits l e ∙ digits_value ys

and_bits : (a b : Bool) → bit_and (one_if a) (one_if b) ≡ one_if (a && b)
and_bits true true = refl
and_bits true false = refl
and_bits false true = refl
and_bits false false = refl

or_bits : (a b : Bool) → bit_or (one_if a) (one_if b) ≡ one_if (a || b)
or_bits true true = refl
or_bits true false = refl
or_bits false true = refl
or_bits false false = refl

pub length-zipped : (f : Bool → Bool → Bool) (xs ys : List Bool) → length xs ≡ length ys → length (zipped f xs ys) ≡ length xs
length-zipped f [] [] e = refl
length-zipped f [] (y ∷ ys) e = absurd cc
length-zipped f (x ∷ xs) [] e = absurd cc
length-zipped f (x ∷ xs) (y ∷ ys) e = ap suc (length-zipped f xs ys (omega arith))

module _ (op : ℕ → ℕ → ℕ) (f : Bool → Bool → Bool)
    (at_bits : (a b : Bool) → op (one_if a) (one_if b) ≡ one_if (f a b))
    (blocks : (k a b r s : ℕ) → r < 2 ^ k → s < 2 ^ k → op (a * 2 ^ k + r) (b * 2 ^ k + s) ≡ op a b * 2 ^ k + op r s)
    (at_zero : op 0 0 ≡ 0) where
  value_op : (xs ys : List Bool) → length xs ≡ length ys → op (value xs) (value ys) ≡ value (zipped f xs ys)
  value_op [] [] e = at_zero
  value_op [] (y ∷ ys) e = absurd cc
  value_op (x ∷ xs) [] e = absurd cc
  value_op (x ∷ xs) (y ∷ ys) e =
      let l : length xs ≡ length ys = omega arith in
      ap (λ (k : ℕ). op (one_if x * 2 ^ length xs + value xs) (one_if y * 2 ^ k + value ys)) (sym l)
      ∙ blocks (length xs) (one_if x) (one_if y) (value xs) (value ys) (value_lt xs) (subst (λ (k : ℕ). value ys < 2 ^ k) (sym l) (value_lt ys))
      ∙ ap₂ (λ (a b : ℕ). a + b) (ap₂ (λ (a b : ℕ). a * 2 ^ b) (at_bits x y) (sym (length-zipped f xs ys l))) (value_op xs ys l)

pub value_and : (xs ys : List Bool) → length xs ≡ length ys → bit_and (value xs) (value ys) ≡ value (zipped (λ a b. a && b) xs ys)
value_and = value_op bit_and (λ a b. a && b) and_bits and_block refl

pub value_or : (xs ys : List Bool) → length xs ≡ length ys → bit_or (value xs) (value ys) ≡ value (zipped (λ a b. a || b) xs ys)
value_or = value_op bit_or (λ a b. a || b) or_bits or_block refl
