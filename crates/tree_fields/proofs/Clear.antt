-- No field has a literal bit.
use Rattle.std.proofs.Common.{◌≡◌, ℕ, zero, suc, ◌+◌, ◌*◌, ◌/◌, ◌%◌, ◌^◌, ◌<◌, ◌≤◌, Bool, false, List, [], ◌∷◌, ◌++◌, length, map, get_or, Option, Some, None, refl, sym, ap, ap₂, ◌∙◌, arith}
use Rattle.std.specs.List.{AllByRecursion, All}
use Rattle.std.proofs.lemmas.List.{length-append, length-map, map-append}
use Rattle.std.proofs.lemmas.Nat.{pow-add, div_below, mul-add-lt}
use Rattle.std.proofs.Math.Pow.{pow_pos}
use Rattle.instruction_trees.specs.Bits.{one_if, value, digits, Frame, mask_bit, pattern_bit, mask, pattern}
use Rattle.instruction_trees.specs.Trees.{Item, Fixed, Free, Field, Child, Table, coding, Tree, Done, Pass, Value, Choose, form_bits, size, placed, slice}
use Rattle.instruction_trees.specs.Values.{own_values, inner_values, values}
use Rattle.instruction_trees.proofs.Numbers.{value_lt, value_digits_mod, length-digits, digits_low}
use Rattle.instruction_trees.proofs.Trees.{no_bits, digits_add}
use Rattle.tree_fields.specs.Placed.{places, IsClear}
use Rattle.tree_fields.proofs.Ranges.{IsBetween, all_map, all_both, all_append, all_at, own_between, inner_between}

-- ---- what stands above a field doesn't show in it

same_fronts : (xs us ys vs : List Bool) → length xs ≡ length us → xs ++ ys ≡ us ++ vs → xs ≡ us
same_fronts [] [] ys vs l e = refl
same_fronts [] (u ∷ us) ys vs l e = absurd cc
same_fronts (x ∷ xs) [] ys vs l e = absurd cc
same_fronts (x ∷ xs) (u ∷ us) ys vs l e = ap₂ (λ (b : Bool) (bs : List Bool). b ∷ bs) (cc) (same_fronts xs us ys vs (cc) (cc))

slice_below : (a m r : ℕ) (p : ℕ × ℕ) → p.0 + p.1 ≤ m → slice (a * 2 ^ m + r) p ≡ slice r p
slice_below a m r p h =
    let w = a * 2 ^ m + r in
    let cut : digits p.1 (w / 2 ^ p.0) ++ digits p.0 w ≡ digits p.1 (r / 2 ^ p.0) ++ digits p.0 r = sym (digits_add p.1 p.0 w) ∙ digits_low (p.1 + p.0) m a r (omega (arith, h)) ∙ digits_add p.1 p.0 r in
    let same = same_fronts (digits p.1 (w / 2 ^ p.0)) (digits p.1 (r / 2 ^ p.0)) (digits p.0 w) (digits p.0 r) (length-digits p.1 (w / 2 ^ p.0) ∙ sym (length-digits p.1 (r / 2 ^ p.0))) cut in
    sym (value_digits_mod p.1 (w / 2 ^ p.0)) ∙ ap value same ∙ value_digits_mod p.1 (r / 2 ^ p.0)

zero_mod : (n : ℕ) → 0 < n → 0 % n ≡ 0
zero_mod n h = omega arith

slice_above : (low n r : ℕ) → r < 2 ^ low → slice r (low, n) ≡ 0
slice_above low n r h =
    let none : r / 2 ^ low ≡ 0 = (let d = div_below r (2 ^ low) 1 (pow_pos low) (omega (arith, h)) in omega (arith, d)) in
    ap (λ (k : ℕ). k % 2 ^ n) none ∙ zero_mod (2 ^ n) (pow_pos n)

-- ---- on bits

below_more : (v s r low : ℕ) → v < 2 ^ s → r < 2 ^ low → v * 2 ^ low + r < 2 ^ (low + s)
below_more v s r low h l = let e : 2 ^ (low + s) ≡ 2 ^ low * 2 ^ s = pow-add 2 low s in let m = mul-add-lt v (2 ^ low) r (2 ^ s) h l in omega (arith, e, m)

spread : (a v s low r : ℕ) → (a * 2 ^ s + v) * 2 ^ low + r ≡ a * 2 ^ (low + s) + (v * 2 ^ low + r)
spread a v s low r = let e : 2 ^ (low + s) ≡ 2 ^ low * 2 ^ s = pow-add 2 low s in rw e (grind arith)

value_append : (xs ys : List Bool) → value (xs ++ ys) ≡ value xs * 2 ^ length ys + value ys
value_append [] ys = omega arith
value_append (x ∷ xs) ys =
    ap₂ (λ (a b : ℕ). one_if x * a + b) (ap (λ (k : ℕ). 2 ^ k) (length-append xs ys) ∙ pow-add 2 (length xs) (length ys)) (value_append xs ys)
    ∙ grind arith

module _ (pick : Option Bool → Bool) (nothing : pick None ≡ false) where
  abbrev picked : Frame → ℕ
  picked fs = value (map pick fs)

  picked_append : (fs gs : Frame) → picked (fs ++ gs) ≡ picked fs * 2 ^ length gs + picked gs
  picked_append fs gs = ap value (map-append pick fs gs) ∙ value_append (map pick fs) (map pick gs) ∙ ap (λ (k : ℕ). picked fs * 2 ^ k + picked gs) (length-map gs pick)

  picked_open : (n : ℕ) → picked (no_bits n) ≡ 0
  picked_open zero = refl
  picked_open (suc n) = let e = picked_open n in ap (λ (b : Bool). one_if b * 2 ^ length (map pick (no_bits n)) + picked (no_bits n)) nothing ∙ omega (arith, e)

  picked_lt : (fs : Frame) → picked fs < 2 ^ length fs
  picked_lt fs = let e = length-map fs pick in let h = value_lt (map pick fs) in let s : 2 ^ length (map pick fs) ≡ 2 ^ length fs = ap (λ (k : ℕ). 2 ^ k) e in omega (arith, h, s)

  module _ {V : Type 0} (table : Table) where
    -- the bits that are picked, and further ones below them
    abbrev total : ℕ → ℕ → Tree V → List Item → ℕ
    total low r t items = picked (form_bits table t items) * 2 ^ low + r

    -- what is clear in the lower part is clear in the whole
    lower : (a low r : ℕ) (t : Tree V) (items : List Item) (w : ℕ) (ps : List (ℕ × ℕ)) → w ≡ a * 2 ^ (low + size table t items) + total low r t items
        → AllByRecursion (IsBetween low (low + size table t items)) ps → AllByRecursion (IsClear (total low r t items)) ps → AllByRecursion (IsClear w) ps
    lower a low r t items w ps is between clear =
        all_both (IsBetween low (low + size table t items)) (IsClear (total low r t items)) (IsClear w)
        (λ p b c. ap (λ (k : ℕ). slice k p) is ∙ slice_below a (low + size table t items) (total low r t items) p b.below ∙ c) ps between clear

    headed : (b : Bool) (low r : ℕ) (t : Tree V) (items : List Item) → (one_if b * 2 ^ length (map pick (form_bits table t items)) + picked (form_bits table t items)) * 2 ^ low + r ≡ one_if b * 2 ^ (low + size table t items) + total low r t items
    headed b low r t items =
        ap (λ (k : ℕ). (one_if b * 2 ^ k + picked (form_bits table t items)) * 2 ^ low + r) (length-map (form_bits table t items) pick)
        ∙ spread (one_if b) (picked (form_bits table t items)) (size table t items) low r

    fielded : (n low r : ℕ) (t : Tree V) (items : List Item) → picked (no_bits n ++ form_bits table t items) * 2 ^ low + r ≡ 0 * 2 ^ (low + size table t items) + total low r t items
    fielded n low r t items =
        ap (λ (k : ℕ). k * 2 ^ low + r) (picked_append (no_bits n) (form_bits table t items) ∙ ap (λ (k : ℕ). k * 2 ^ size table t items + picked (form_bits table t items)) (picked_open n))
        ∙ omega arith

    joined : (k low r : ℕ) (own t : Tree V) (items : List Item)
        → picked (form_bits table own (coding table k) ++ form_bits table t items) * 2 ^ low + r ≡ picked (form_bits table own (coding table k)) * 2 ^ (low + size table t items) + total low r t items
    joined k low r own t items =
        ap (λ (v : ℕ). v * 2 ^ low + r) (picked_append (form_bits table own (coding table k)) (form_bits table t items))
        ∙ spread (picked (form_bits table own (coding table k))) (picked (form_bits table t items)) (size table t items) low r

    small : (low r : ℕ) (t : Tree V) (items : List Item) → r < 2 ^ low → total low r t items < 2 ^ (low + size table t items)
    small low r t items h = below_more (picked (form_bits table t items)) (size table t items) r low (picked_lt (form_bits table t items)) h

    own_clear : (low r : ℕ) (t : Tree V) (items : List Item) → r < 2 ^ low → AllByRecursion (IsClear (total low r t items)) (own_values (placed table low t items))
    own_clear low r Done items h = tt
    own_clear low r (Pass t) (Fixed b ∷ items) h = lower (one_if (pick (Some b))) low r t items _ _ (headed (pick (Some b)) low r t items) (own_between table low t items) (own_clear low r t items h)
    own_clear low r (Pass t) (Free ∷ items) h = lower (one_if (pick None)) low r t items _ _ (headed (pick None) low r t items) (own_between table low t items) (own_clear low r t items h)
    own_clear low r (Value v t) (Field n ∷ items) h = (
      ap (λ (k : ℕ). slice k (low + size table t items, n)) (fielded n low r t items ∙ omega arith) ∙ slice_above (low + size table t items) n (total low r t items) (small low r t items h),
      lower 0 low r t items _ _ (fielded n low r t items) (own_between table low t items) (own_clear low r t items h),
    )
    own_clear low r (Choose k own t) (Child ks ∷ items) h = lower (picked (form_bits table own (coding table k))) low r t items _ _ (joined k low r own t items) (own_between table low t items) (own_clear low r t items h)
    own_clear low r _ _ h = tt

    inner_clear : (low r : ℕ) (t : Tree V) (items : List Item) → r < 2 ^ low → AllByRecursion (IsClear (total low r t items)) (inner_values (placed table low t items))
    inner_clear low r Done items h = tt
    inner_clear low r (Pass t) (Fixed b ∷ items) h = lower (one_if (pick (Some b))) low r t items _ _ (headed (pick (Some b)) low r t items) (inner_between table low t items) (inner_clear low r t items h)
    inner_clear low r (Pass t) (Free ∷ items) h = lower (one_if (pick None)) low r t items _ _ (headed (pick None) low r t items) (inner_between table low t items) (inner_clear low r t items h)
    inner_clear low r (Value v t) (Field n ∷ items) h = lower 0 low r t items _ _ (fielded n low r t items) (inner_between table low t items) (inner_clear low r t items h)
    inner_clear low r (Choose k own t) (Child ks ∷ items) h =
        let up = low + size table t items in
        let p = placed table up own (coding table k) in
        let rest = total low r t items in
        let whole = picked (form_bits table own (coding table k) ++ form_bits table t items) * 2 ^ low + r in
        all_append (IsClear whole) (own_values p ++ inner_values p) (inner_values (placed table low t items))
        (all_map (IsClear (total up rest own (coding table k))) (IsClear whole) (λ q c. ap (λ (n : ℕ). slice n q) (joined k low r own t items) ∙ c) (own_values p ++ inner_values p)
        (all_append (IsClear (total up rest own (coding table k))) (own_values p) (inner_values p) (own_clear up rest own (coding table k) (small low r t items h)) (inner_clear up rest own (coding table k) (small low r t items h))))
        (lower (picked (form_bits table own (coding table k))) low r t items _ _ (joined k low r own t items) (inner_between table low t items) (inner_clear low r t items h))
    inner_clear low r _ _ h = tt

    pub all_clear : (t : Tree V) (items : List Item) → All (IsClear (picked (form_bits table t items))) (places table t items)
    all_clear t items =
        let p = placed table 0 t items in
        let whole : total 0 0 t items ≡ picked (form_bits table t items) = omega arith in
        λ k d h. ap (λ (n : ℕ). slice n (get_or (values p) k d)) (sym whole) ∙ all_at (IsClear (total 0 0 t items)) (values p) (all_append (IsClear (total 0 0 t items)) (own_values p) (inner_values p) (own_clear 0 0 t items (omega arith)) (inner_clear 0 0 t items (omega arith))) k d h

pub mask_clear : {V : Type 0} (table : Table) (t : Tree V) (items : List Item) → All (IsClear (mask (form_bits table t items))) (places table t items)
mask_clear table t items = all_clear mask_bit refl table t items

pub pattern_clear : {V : Type 0} (table : Table) (t : Tree V) (items : List Item) → All (IsClear (pattern (form_bits table t items))) (places table t items)
pattern_clear table t items = all_clear pattern_bit refl table t items
