-- Forms by their numbers.
use Rattle.std.proofs.Common.{◌≡◌, ◌<◌, ◌≤◌, ◌+◌, ◌*◌, ◌-◌, ◌++◌, ℕ, zero, suc, List, [], ◌∷◌, cond, nat_lt, length, map, refl, sym, ap, ◌∙◌, arith, subst, ⊎_elim}
use Rattle.std.specs.List.{flat_map}
use Rattle.std.proofs.lemmas.Bool.{cases_lt, lt-ltb, le-ltb, cond-true, cond-false}
use Rattle.std.proofs.lemmas.List.{length-append, length-map}
use Rattle.instruction_trees.specs.Trees.{Form, Choose, In, here, there}
use Rattle.coding_tables.specs.Instructions.{total}
use Rattle.instruction_forms.specs.declared.picking.Pick.{Pick}
use Rattle.instruction_forms.specs.Picks.{nth, pick_at, pick}

pub nth_map : (g : Form → Form) (fs : List Form) (i : ℕ) → i < length fs → nth (map g fs) i ≡ g (nth fs i)
nth_map g [] i h = absurd (omega arith)
nth_map g (f ∷ fs) zero h = refl
nth_map g (f ∷ fs) (suc i) h = nth_map g fs i (omega arith)

nth_left : (fs gs : List Form) (i : ℕ) → i < length fs → nth (fs ++ gs) i ≡ nth fs i
nth_left [] gs i h = absurd (omega arith)
nth_left (f ∷ fs) gs zero h = refl
nth_left (f ∷ fs) gs (suc i) h = nth_left fs gs i (omega arith)

nth_right : (fs gs : List Form) (i j : ℕ) → i ≡ length fs + j → nth (fs ++ gs) i ≡ nth gs j
nth_right [] gs i j e = ap (nth gs) (let s : i ≡ j = omega arith in s)
nth_right (f ∷ fs) gs zero j e = absurd (omega arith)
nth_right (f ∷ fs) gs (suc i) j e = nth_right fs gs i j (omega arith)

pub nth_in : (fs : List Form) (i : ℕ) → i < length fs → In (nth fs i) fs
nth_in [] i h = absurd (omega arith)
nth_in (f ∷ fs) zero h = here
nth_in (f ∷ fs) (suc i) h = there (nth_in fs i (omega arith))

-- ---- rows of equal length

row_on : (q m r : ℕ) → suc q * m + r ≡ m + (q * m + r)
row_on q m r = grind arith

row_first : (m r : ℕ) → 0 * m + r ≡ r
row_first m r = omega arith

rows_more : (a m : ℕ) → m + a * m ≡ suc a * m
rows_more a m = grind arith

rows_shared : (a b m : ℕ) → a * m + b * m ≡ (a + b) * m
rows_shared a b m = grind arith

module _ (k : ℕ) (rest : List Form) where
  abbrev row : Form → List Form
  row own = map (Choose k own) rest

  abbrev rows : List Form → List Form
  rows owns = flat_map row owns

  nth_row : (owns : List Form) (q r : ℕ) → q < length owns → r < length rest → nth (rows owns) (q * length rest + r) ≡ Choose k (nth owns q) (nth rest r)
  nth_row [] q r h i = absurd (omega arith)
  nth_row (own ∷ owns) zero r h i =
      let l = length-map rest (Choose k own) in
      ap (nth (rows (own ∷ owns))) (row_first (length rest) r)
      ∙ nth_left (row own) (rows owns) r (omega (arith, l, i))
      ∙ nth_map (Choose k own) rest r i
  nth_row (own ∷ owns) (suc q) r h i =
      let l = length-map rest (Choose k own) in
      let e = row_on q (length rest) r in
      nth_right (row own) (rows owns) (suc q * length rest + r) (q * length rest + r) (omega (arith, l, e))
      ∙ nth_row owns q r (omega arith) i

  rows_count : (owns : List Form) → length (rows owns) ≡ length owns * length rest
  rows_count [] = let e : 0 ≡ 0 * length rest = omega arith in e
  rows_count (own ∷ owns) =
      let l = length-append (row own) (rows owns) in
      let m = length-map rest (Choose k own) in
      let r = rows_count owns in
      let s : length (row own ++ rows owns) ≡ length rest + length owns * length rest = omega (arith, l, m, r) in
      s ∙ rows_more (length owns) (length rest)

-- ---- the rows of several operations

module _ (owns : ℕ → List Form) (rest : List Form) where
  abbrev counted : ℕ → ℕ
  counted k = length (owns k)

  abbrev pub all_rows : List ℕ → List Form
  all_rows ks = flat_map (λ k. rows k rest (owns k)) ks

  abbrev chosen : Pick → ℕ → Form
  chosen p r = Choose p.operation (nth (owns p.operation) p.number) (nth rest r)

  before : (q c m r : ℕ) → c ≤ q → q * m + r ≡ c * m + ((q - c) * m + r)
  before q c m r h =
      let e : c + (q - c) ≡ q = omega arith in
      let s = rows_shared c (q - c) m in
      let t : q * m ≡ (c + (q - c)) * m = ap (λ (z : ℕ). z * m) (sym e) in
      omega (arith, s, t)

  pub nth_chosen : (ks : List ℕ) (q r low : ℕ) → q < total counted ks → r < length rest → nth (all_rows ks) (q * length rest + r) ≡ chosen (pick counted ks q low) r
  nth_chosen [] q r low h i = absurd (omega arith)
  nth_chosen (k ∷ ks) q r low h i =
      ⊎_elim
      (λ here_it.
      let e : q * length rest + r < counted k * length rest = fits q (counted k) r (length rest) here_it i in
      let c = rows_count k rest (owns k) in
      nth_left (rows k rest (owns k)) (all_rows ks) (q * length rest + r) (omega (arith, e, c))
      ∙ nth_row k rest (owns k) q r here_it i
      ∙ ap (λ (p : Pick). chosen p r) (sym (cond-true (nat_lt q (counted k)) (pick_at k q low) (pick counted ks (q - counted k) low) (lt-ltb q (counted k) here_it))))
      (λ later.
      let c = rows_count k rest (owns k) in
      let b = before q (counted k) (length rest) r later in
      nth_right (rows k rest (owns k)) (all_rows ks) (q * length rest + r) ((q - counted k) * length rest + r) (omega (arith, c, b))
      ∙ nth_chosen ks (q - counted k) r low (omega (arith, later, h)) i
      ∙ ap (λ (p : Pick). chosen p r) (sym (cond-false (nat_lt q (counted k)) (pick_at k q low) (pick counted ks (q - counted k) low) (le-ltb q (counted k) later))))
      (cases_lt q (counted k))
    where
      fits : (q c r m : ℕ) → q < c → r < m → q * m + r < c * m
      fits q c r m h i =
          let e : suc q + (c - suc q) ≡ c = omega arith in
          let s = rows_shared (suc q) (c - suc q) m in
          let t : c * m ≡ (suc q + (c - suc q)) * m = ap (λ (z : ℕ). z * m) (sym e) in
          let u = rows_more q m in
          omega (arith, s, t, u, i)

-- a pick is one of the operations, and a number of one of its forms
pub record IsOneOf (f : ℕ → ℕ) (ks : List ℕ) (p : Pick) (low : ℕ) : Type 0 where
  pub among : In p.operation ks
  pub within : p.number < f p.operation
  pub at : p.low ≡ low

pub one_of : (f : ℕ → ℕ) (ks : List ℕ) (q low : ℕ) → q < total f ks → IsOneOf f ks (pick f ks q low) low
one_of f [] q low h = absurd (omega arith)
one_of f (k ∷ ks) q low h = ⊎_elim
    (λ here_it. let P : Pick → Type 0 = λ p. IsOneOf f (k ∷ ks) p low in subst P (sym (cond-true (nat_lt q (f k)) (pick_at k q low) (pick f ks (q - f k) low) (lt-ltb q (f k) here_it))) (record { among = here; within = here_it; at = refl }))
    (λ later.
    let r = one_of f ks (q - f k) low (omega (arith, later, h)) in
    let P : Pick → Type 0 = λ p. IsOneOf f (k ∷ ks) p low in
    subst P (sym (cond-false (nat_lt q (f k)) (pick_at k q low) (pick f ks (q - f k) low) (le-ltb q (f k) later))) (record { among = there r.among; within = r.within; at = r.at }))
    (cases_lt q (f k))

-- where the counts are told as they are, the same is picked
pub pick_told : (f g : ℕ → ℕ) (ks : List ℕ) (q low : ℕ) → ((k : ℕ) → In k ks → f k ≡ g k) → pick f ks q low ≡ pick g ks q low
pick_told f g [] q low h = refl
pick_told f g (k ∷ ks) q low h =
    ap (λ (n : ℕ). cond (nat_lt q n) (pick_at k q low) (pick f ks (q - n) low)) (h k here)
    ∙ ap (λ (p : Pick). cond (nat_lt q (g k)) (pick_at k q low) p) (pick_told f g ks (q - g k) low (λ m i. h m (there i)))
