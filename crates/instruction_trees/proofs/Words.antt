-- The word of a tree is its form's pattern and its values, each at its place.
use Rattle.std.proofs.Common.{◌≡◌, ℕ, zero, suc, ◌+◌, ◌*◌, ◌^◌, Bool, List, [], ◌∷◌, ◌++◌, length, map, Some, refl, sym, ap, ap₂, ◌∙◌, arith}
use Rattle.std.proofs.lemmas.List.{length-append, length-map, map-append}
use Rattle.std.proofs.lemmas.Nat.{pow-add}
use Rattle.instruction_trees.specs.Bits.{one_if, value, digits, Frame, pattern_bit, pattern_bits, pattern}
use Rattle.instruction_trees.specs.Trees.{Item, Fixed, Free, Field, Child, Table, coding, Tree, Done, Pass, Value, Choose, Fits, held, IsBelow, bits, form_bits, size}
use Rattle.instruction_trees.specs.Values.{own_values, sum_of, inner_values, values}
use Rattle.instruction_trees.proofs.Numbers.{value_digits}
use Rattle.instruction_trees.proofs.Trees.{sizes, no_bits}

-- what each value adds to the word
abbrev pub weighed : Table → ℕ → Tree ℕ → List Item → Tree ℕ
weighed table low (Pass t) (Fixed b ∷ items) = Pass (weighed table low t items)
weighed table low (Pass t) (Free ∷ items) = Pass (weighed table low t items)
weighed table low (Value v t) (Field n ∷ items) = Value (v * 2 ^ (low + size table t items)) (weighed table low t items)
weighed table low (Choose k own t) (Child ks ∷ items) = Choose k (weighed table (low + size table t items) own (coding table k)) (weighed table low t items)
weighed table low _ _ = Done

-- the sum over its fields, in coding order
abbrev pub total : Tree ℕ → ℕ
total Done = 0
total (Pass t) = total t
total (Value v t) = v + total t
total (Choose k own t) = total own + total t

value_append : (xs ys : List Bool) → value (xs ++ ys) ≡ value xs * 2 ^ length ys + value ys
value_append [] ys = omega arith
value_append (x ∷ xs) ys =
    ap₂ (λ (a b : ℕ). one_if x * a + b) (ap (λ (k : ℕ). 2 ^ k) (length-append xs ys) ∙ pow-add 2 (length xs) (length ys)) (value_append xs ys)
    ∙ grind arith

pattern_append : (fs gs : Frame) → pattern (fs ++ gs) ≡ pattern fs * 2 ^ length gs + pattern gs
pattern_append fs gs = ap value (map-append pattern_bit fs gs) ∙ value_append (pattern_bits fs) (pattern_bits gs) ∙ ap (λ (k : ℕ). value (pattern_bits fs) * 2 ^ k + value (pattern_bits gs)) (length-map gs pattern_bit)

plain_held : (bs : List Bool) → pattern_bits (map (λ b. Some b) bs) ≡ bs
plain_held [] = refl
plain_held (b ∷ bs) = ap (λ (l : List Bool). b ∷ l) (plain_held bs)

pattern_open : (n : ℕ) → pattern (no_bits n) ≡ 0
pattern_open zero = refl
pattern_open (suc n) = let e = pattern_open n in omega arith

spread : (p q l k : ℕ) → (p * 2 ^ k + q) * 2 ^ l ≡ p * 2 ^ (l + k) + q * 2 ^ l
spread p q l k = let e : 2 ^ (l + k) ≡ 2 ^ l * 2 ^ k = pow-add 2 l k in rw e (grind arith)

add_left_comm : (a b c : ℕ) → a + (b + c) ≡ b + (a + c)
add_left_comm a b c = omega arith

regroup : (a b c d : ℕ) → (a + b) + (c + d) ≡ (a + c) + (b + d)
regroup a b c d = omega arith

headed : (a p q l t x y : ℕ) → x ≡ y → p * l ≡ q * l + t → (a * 2 ^ x + p) * l ≡ (a * 2 ^ y + q) * l + t
headed a p q l t x y e h = rw e (grind arith)

module _ (table : Table) where
  same_sizes : (t : Tree ℕ) (items : List Item) → length (pattern_bits (bits table t items)) ≡ length (pattern_bits (form_bits table t items))
  same_sizes t items = length-map (bits table t items) pattern_bit ∙ sizes table t items ∙ sym (length-map (form_bits table t items) pattern_bit)

  pub word_is : (low : ℕ) (t : Tree ℕ) (items : List Item) → Fits IsBelow table t items
      → pattern (bits table t items) * 2 ^ low ≡ pattern (form_bits table t items) * 2 ^ low + total (weighed table low t items)
  word_is low Done [] fits = omega arith
  word_is low (Pass t) (Fixed b ∷ items) fits = headed (one_if b) (pattern (bits table t items)) (pattern (form_bits table t items)) (2 ^ low) (total (weighed table low t items)) _ _ (same_sizes t items) (word_is low t items fits)
  word_is low (Pass t) (Free ∷ items) fits = headed 0 (pattern (bits table t items)) (pattern (form_bits table t items)) (2 ^ low) (total (weighed table low t items)) _ _ (same_sizes t items) (word_is low t items fits)
  word_is low (Value v t) (Field n ∷ items) fits =
      let k = size table t items in
      let own : pattern (held n v) ≡ v = ap value (plain_held (digits n v)) ∙ value_digits n v fits.0 in
      let a : pattern (held n v ++ bits table t items) ≡ v * 2 ^ k + pattern (bits table t items) = pattern_append (held n v) (bits table t items) ∙ ap₂ (λ (x y : ℕ). x * 2 ^ y + pattern (bits table t items)) own (sizes table t items) in
      let b : pattern (no_bits n ++ form_bits table t items) ≡ pattern (form_bits table t items) = pattern_append (no_bits n) (form_bits table t items) ∙ ap (λ (x : ℕ). x * 2 ^ k + pattern (form_bits table t items)) (pattern_open n) ∙ omega arith in
      let h = word_is low t items fits.1 in
      ap (λ (x : ℕ). x * 2 ^ low) a ∙ spread v (pattern (bits table t items)) low k ∙ ap (λ (x : ℕ). v * 2 ^ (low + k) + x) h
      ∙ add_left_comm (v * 2 ^ (low + k)) (pattern (form_bits table t items) * 2 ^ low) (total (weighed table low t items))
      ∙ ap (λ (x : ℕ). x * 2 ^ low + (v * 2 ^ (low + k) + total (weighed table low t items))) (sym b)
  word_is low (Choose c own t) (Child ks ∷ items) fits =
      let k = size table t items in
      let fs = bits table own (coding table c) in
      let gs = form_bits table own (coding table c) in
      let a : pattern (fs ++ bits table t items) ≡ pattern fs * 2 ^ k + pattern (bits table t items) = pattern_append fs (bits table t items) ∙ ap (λ (y : ℕ). pattern fs * 2 ^ y + pattern (bits table t items)) (sizes table t items) in
      let b : pattern (gs ++ form_bits table t items) ≡ pattern gs * 2 ^ k + pattern (form_bits table t items) = pattern_append gs (form_bits table t items) in
      let h = word_is low t items fits.2 in
      let j = word_is (low + k) own (coding table c) fits.1 in
      ap (λ (x : ℕ). x * 2 ^ low) a ∙ spread (pattern fs) (pattern (bits table t items)) low k ∙ ap₂ (λ (x y : ℕ). x + y) j h
      ∙ regroup (pattern gs * 2 ^ (low + k)) (total (weighed table (low + k) own (coding table c))) (pattern (form_bits table t items) * 2 ^ low) (total (weighed table low t items))
      ∙ ap (λ (x : ℕ). x + (total (weighed table (low + k) own (coding table c)) + total (weighed table low t items))) (sym (spread (pattern gs) (pattern (form_bits table t items)) low k) ∙ ap (λ (x : ℕ). x * 2 ^ low) (sym b))
  word_is low _ _ fits = absurd fits

sum_append : (xs ys : List ℕ) → sum_of (xs ++ ys) ≡ sum_of xs + sum_of ys
sum_append [] ys = omega arith
sum_append (x ∷ xs) ys = let e = sum_append xs ys in omega arith

total_parts : (t : Tree ℕ) → total t ≡ sum_of (own_values t) + sum_of (inner_values t)
total_parts Done = refl
total_parts (Pass t) = total_parts t
total_parts (Value v t) = let e = total_parts t in omega arith
total_parts (Choose k own t) =
    let a = total_parts own in let b = total_parts t in
    let c = sum_append (own_values own ++ inner_values own) (inner_values t) in
    let d = sum_append (own_values own) (inner_values own) in omega arith

pub total_is : (t : Tree ℕ) → total t ≡ sum_of (values t)
total_is t = total_parts t ∙ sym (sum_append (own_values t) (inner_values t))

at_once : (p q t : ℕ) → p * 2 ^ 0 ≡ q * 2 ^ 0 + t → p ≡ q + t
at_once p q t e = omega arith

pub whole_word : (table : Table) (t : Tree ℕ) (items : List Item) → Fits IsBelow table t items → pattern (bits table t items) ≡ pattern (form_bits table t items) + sum_of (values (weighed table 0 t items))
whole_word table t items fits = at_once (pattern (bits table t items)) (pattern (form_bits table t items)) (total (weighed table 0 t items)) (word_is table 0 t items fits) ∙ ap (λ (x : ℕ). pattern (form_bits table t items) + x) (total_is (weighed table 0 t items))
