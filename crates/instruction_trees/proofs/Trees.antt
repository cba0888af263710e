-- The words of a tree are the words of its form, and a word has one tree of a form.
use Rattle.std.proofs.Common.{◌≡◌, ℕ, zero, suc, ◌+◌, ◌/◌, ◌%◌, ◌^◌, ◌<◌, Bool, List, [], ◌∷◌, ◌++◌, length, map, Some, None, refl, sym, ap, ap₂, ◌∙◌, subst, arith, nat_eq}
use Rattle.std.specs.Prelude.{replicate}
use Rattle.std.proofs.lemmas.List.{length-append, length-map}
use Rattle.std.proofs.lemmas.Nat.{shr-shr, shr_split}
use Rattle.instruction_trees.specs.Bits.{value, digits, Frame, Meets, none, same, free, Has, Covers}
use Rattle.instruction_trees.specs.Trees.{Item, Fixed, Free, Field, Child, Table, coding, Tree, Done, Pass, Value, Choose, Fits, held, IsBelow, bits, form_bits, size, slice, AnyValue, tree_at}
use Rattle.instruction_trees.proofs.Numbers.{length-digits, digits_low, value_digits, value_digits_mod}

-- ---- meeting in parts

pub same_parts : {b c : Bool} {bs : List Bool} {fs : Frame} → Meets (b ∷ bs) (Some c ∷ fs) → (b ≡ c) × Meets bs fs
same_parts (same m) = (refl, m)

pub free_part : {b : Bool} {bs : List Bool} {fs : Frame} → Meets (b ∷ bs) (None ∷ fs) → Meets bs fs
free_part (free m) = m

pub same_at : {b c : Bool} {bs : List Bool} {fs : Frame} → b ≡ c → Meets bs fs → Meets (b ∷ bs) (Some c ∷ fs)
same_at {b} {c} {bs} {fs} e m = subst (λ (d : Bool). Meets (b ∷ bs) (Some d ∷ fs)) e (same m)

pub meets_join : {xs ys : List Bool} {fs gs : Frame} → Meets xs fs → Meets ys gs → Meets (xs ++ ys) (fs ++ gs)
meets_join none n = n
meets_join (same m) n = same (meets_join m n)
meets_join (free m) n = free (meets_join m n)

pub meets_split : (xs ys : List Bool) (fs gs : Frame) → length xs ≡ length fs → Meets (xs ++ ys) (fs ++ gs) → Meets xs fs × Meets ys gs
meets_split [] ys [] gs l m = (none, m)
meets_split [] ys (f ∷ fs) gs l m = absurd cc
meets_split (x ∷ xs) ys [] gs l m = absurd cc
meets_split (x ∷ xs) ys (None ∷ fs) gs l m = let t = meets_split xs ys fs gs (cc) (free_part m) in (free t.0, t.1)
meets_split (x ∷ xs) ys (Some c ∷ fs) gs l m = let p = same_parts m in let t = meets_split xs ys fs gs (cc) p.1 in (same_at p.0 t.0, t.1)

pub meets_itself : (bs : List Bool) → Meets bs (map Some bs)
meets_itself [] = none
meets_itself (b ∷ bs) = same (meets_itself bs)

pub meets_these : (bs cs : List Bool) → Meets bs (map Some cs) → bs ≡ cs
meets_these [] [] m = refl
meets_these [] (c ∷ cs) m = elim m [ ]
meets_these (b ∷ bs) [] m = elim m [ ]
meets_these (b ∷ bs) (c ∷ cs) m = let p = same_parts m in ap₂ (λ (d : Bool) (ds : List Bool). d ∷ ds) p.0 (meets_these bs cs p.1)

pub meets_open : (bs : List Bool) → Meets bs (replicate (length bs) None)
meets_open [] = none
meets_open (b ∷ bs) = free (meets_open bs)

-- ---- digits in parts

pub digits_add : (m n v : ℕ) → digits (m + n) v ≡ digits m (v / 2 ^ n) ++ digits n v
digits_add zero n v = ap (λ (k : ℕ). digits k v) (omega arith)
digits_add (suc m) n v =
    let e : suc m + n ≡ suc (m + n) = omega arith in
    ap (λ (k : ℕ). digits k v) e
    ∙ ap₂ (λ (k : ℕ) (l : List Bool). nat_eq (k % 2) 1 ∷ l) (ap (λ (j : ℕ). v / 2 ^ j) (omega arith) ∙ sym (shr-shr v n m)) (digits_add m n v)

pub digits_mod : (n v : ℕ) → digits n v ≡ digits n (v % 2 ^ n)
digits_mod n v = ap (digits n) (sym (shr_split v n)) ∙ digits_low n n (v / 2 ^ n) (v % 2 ^ n) (omega arith)

pub digits_same : (n v u : ℕ) → v < 2 ^ n → digits n u ≡ digits n v → v ≡ u % 2 ^ n
digits_same n v u h e = sym (value_digits n v h) ∙ ap value (sym e) ∙ value_digits_mod n u

-- ---- lengths

abbrev pub no_bits : ℕ → Frame
no_bits n = replicate n None

pub length-open : (n : ℕ) → length (no_bits n) ≡ n
length-open zero = refl
length-open (suc n) = ap suc (length-open n)

pub sizes : (table : Table) (t : Tree ℕ) (items : List Item) → length (bits table t items) ≡ size table t items
sizes table (Pass t) (Fixed b ∷ items) = ap suc (sizes table t items)
sizes table (Pass t) (Free ∷ items) = ap suc (sizes table t items)
sizes table (Value v t) (Field n ∷ items) =
    length-append (held n v) (bits table t items) ∙ ap₂ (λ (a b : ℕ). a + b) (length-map (digits n v) (λ b. Some b) ∙ length-digits n v ∙ sym (length-open n)) (sizes table t items)
    ∙ sym (length-append (no_bits n) (form_bits table t items))
sizes table (Choose k own t) (Child ks ∷ items) =
    length-append (bits table own (coding table k)) (bits table t items) ∙ ap₂ (λ (a b : ℕ). a + b) (sizes table own (coding table k)) (sizes table t items)
    ∙ sym (length-append (form_bits table own (coding table k)) (form_bits table t items))
sizes table Done items = refl
sizes table _ _ = refl

-- ---- a word of a form gives a tree of it

-- the word's bits from `low` on
abbrev part : ℕ → ℕ → ℕ → List Bool
part w n low = digits n (w / 2 ^ low)

parts : (w m n low : ℕ) → part w (m + n) low ≡ part w m (low + n) ++ part w n low
parts w m n low = digits_add m n (w / 2 ^ low) ∙ ap (λ (k : ℕ). digits m k ++ part w n low) (shr-shr w low n)

module _ {V : Type 0} (table : Table) (w : ℕ) where
  pub reads : (low : ℕ) (t : Tree V) (items : List Item) → Fits AnyValue table t items
      → Meets (part w (size table t items) low) (form_bits table t items)
      → Meets (part w (size table t items) low) (bits table (tree_at table w low t items) items)
  reads low Done [] fits m = m
  reads low (Pass t) (Fixed b ∷ items) fits m = let p = same_parts m in same_at p.0 (reads low t items fits p.1)
  reads low (Pass t) (Free ∷ items) fits m = free (reads low t items fits (free_part m))
  reads low (Value v t) (Field n ∷ items) fits m =
      let k = size table t items in
      let e : part w (size table (Value v t) (Field n ∷ items)) low ≡ part w n (low + k) ++ part w k low = ap (λ (j : ℕ). part w j low) (length-append (no_bits n) (form_bits table t items) ∙ ap (λ (j : ℕ). j + k) (length-open n)) ∙ parts w n k low in
      let split = meets_split (part w n (low + k)) (part w k low) (no_bits n) (form_bits table t items) (length-digits n (w / 2 ^ (low + k)) ∙ sym (length-open n)) (subst (λ (l : List Bool). Meets l (no_bits n ++ form_bits table t items)) e m) in
      let own : Meets (part w n (low + k)) (held n (slice w (low + k, n))) = subst (λ (l : List Bool). Meets (part w n (low + k)) (map (λ b. Some b) l)) (digits_mod n (w / 2 ^ (low + k))) (meets_itself (part w n (low + k))) in
      subst (λ (l : List Bool). Meets l (held n (slice w (low + k, n)) ++ bits table (tree_at table w low t items) items)) (sym e) (meets_join own (reads low t items fits.1 split.1))
  reads low (Choose c own t) (Child ks ∷ items) fits m =
      let k = size table t items in
      let n = size table own (coding table c) in
      let e : part w (size table (Choose c own t) (Child ks ∷ items)) low ≡ part w n (low + k) ++ part w k low = ap (λ (j : ℕ). part w j low) (length-append (form_bits table own (coding table c)) (form_bits table t items)) ∙ parts w n k low in
      let split = meets_split (part w n (low + k)) (part w k low) (form_bits table own (coding table c)) (form_bits table t items) (length-digits n (w / 2 ^ (low + k))) (subst (λ (l : List Bool). Meets l (form_bits table own (coding table c) ++ form_bits table t items)) e m) in
      subst (λ (l : List Bool). Meets l (bits table (tree_at table w (low + k) own (coding table c)) (coding table c) ++ bits table (tree_at table w low t items) items)) (sym e)
      (meets_join (reads (low + k) own (coding table c) fits.1 split.0) (reads low t items fits.2 split.1))
  reads low _ _ fits m = absurd fits

-- ---- and only one

module _ (table : Table) (w : ℕ) where
  pub only : (low : ℕ) (t : Tree ℕ) (items : List Item) → Fits IsBelow table t items
      → Meets (part w (size table t items) low) (bits table t items)
      → t ≡ tree_at table w low t items
  only low Done [] fits m = refl
  only low (Pass t) (Fixed b ∷ items) fits m = ap (λ (u : Tree ℕ). Pass u) (only low t items fits (same_parts m).1)
  only low (Pass t) (Free ∷ items) fits m = ap (λ (u : Tree ℕ). Pass u) (only low t items fits (free_part m))
  only low (Value v t) (Field n ∷ items) fits m =
      let k = size table t items in
      let e : part w (size table (Value v t) (Field n ∷ items)) low ≡ part w n (low + k) ++ part w k low = ap (λ (j : ℕ). part w j low) (length-append (no_bits n) (form_bits table t items) ∙ ap (λ (j : ℕ). j + k) (length-open n)) ∙ parts w n k low in
      let l : length (part w n (low + k)) ≡ length (held n v) = length-digits n (w / 2 ^ (low + k)) ∙ sym (length-digits n v) ∙ sym (length-map (digits n v) (λ b. Some b)) in
      let split = meets_split (part w n (low + k)) (part w k low) (held n v) (bits table t items) l (subst (λ (l : List Bool). Meets l (held n v ++ bits table t items)) e m) in
      ap₂ (λ (x : ℕ) (u : Tree ℕ). Value x u) (digits_same n v (w / 2 ^ (low + k)) fits.0 (meets_these (part w n (low + k)) (digits n v) split.0)) (only low t items fits.1 split.1)
  only low (Choose c own t) (Child ks ∷ items) fits m =
      let k = size table t items in
      let n = size table own (coding table c) in
      let e : part w (size table (Choose c own t) (Child ks ∷ items)) low ≡ part w n (low + k) ++ part w k low = ap (λ (j : ℕ). part w j low) (length-append (form_bits table own (coding table c)) (form_bits table t items)) ∙ parts w n k low in
      let split = meets_split (part w n (low + k)) (part w k low) (bits table own (coding table c)) (bits table t items) (length-digits n (w / 2 ^ (low + k)) ∙ sym (sizes table own (coding table c))) (subst (λ (l : List Bool). Meets l (bits table own (coding table c) ++ bits table t items)) e m) in
      ap₂ (λ (x u : Tree ℕ). Choose c x u) (only (low + k) own (coding table c) fits.1 split.0) (only low t items fits.2 split.1)
  only low _ _ fits m = absurd fits

-- ---- what a tree has, its form has

pub covered_meets : {fs gs : Frame} {bs : List Bool} → Covers fs gs → Meets bs gs → Meets bs fs
covered_meets none m = m
covered_meets (same c) (same m) = same (covered_meets c m)
covered_meets (free c) (same m) = free (covered_meets c m)
covered_meets (free c) (free m) = free (covered_meets c m)

pub covers_length : {fs gs : Frame} → Covers fs gs → length fs ≡ length gs
covers_length none = refl
covers_length (same c) = ap suc (covers_length c)
covers_length (free c) = ap suc (covers_length c)

pub covered_has : {fs gs : Frame} (w : ℕ) → Covers fs gs → Has w gs → Has w fs
covered_has {fs} {gs} w c has = record {
  below = subst (λ (n : ℕ). w < 2 ^ n) (sym (covers_length c)) has.below;
  agrees = covered_meets c (subst (λ (n : ℕ). Meets (digits n w) gs) (sym (covers_length c)) has.agrees);
}

covers_join : {fs gs hs is : Frame} → Covers fs gs → Covers hs is → Covers (fs ++ hs) (gs ++ is)
covers_join none d = d
covers_join (same c) d = same (covers_join c d)
covers_join (free c) d = free (covers_join c d)

field_covers : (n v : ℕ) → Covers (no_bits n) (held n v)
field_covers zero v = none
field_covers (suc n) v = free (field_covers n v)

pub form_covers : (table : Table) (t : Tree ℕ) (items : List Item) → Covers (form_bits table t items) (bits table t items)
form_covers table Done items = none
form_covers table (Pass t) (Fixed b ∷ items) = same (form_covers table t items)
form_covers table (Pass t) (Free ∷ items) = free (form_covers table t items)
form_covers table (Value v t) (Field n ∷ items) = covers_join (field_covers n v) (form_covers table t items)
form_covers table (Choose c own t) (Child ks ∷ items) = covers_join (form_covers table own (coding table c)) (form_covers table t items)
form_covers table _ _ = none

pub form_has : (table : Table) (t : Tree ℕ) (items : List Item) (w : ℕ) → Has w (bits table t items) → Has w (form_bits table t items)
form_has table t items w has = covered_has w (form_covers table t items) has

-- ---- the same of whole words

at_zero : (n w : ℕ) → digits n w ≡ part w n 0
at_zero n w = ap (digits n) (omega arith)

pub has_only : (table : Table) (w : ℕ) (t : Tree ℕ) (items : List Item) → Fits IsBelow table t items → Has w (bits table t items) → t ≡ tree_at table w 0 t items
has_only table w t items fits has = only table w 0 t items fits (subst (λ (ds : List Bool). Meets ds (bits table t items)) (ap (λ (n : ℕ). digits n w) (sizes table t items) ∙ at_zero (size table t items) w) has.agrees)

-- what is read has as many bits
read_sizes : {V : Type 0} (table : Table) (w low : ℕ) (t : Tree V) (items : List Item) → length (bits table (tree_at table w low t items) items) ≡ size table t items
read_sizes table w low (Pass t) (Fixed b ∷ items) = ap suc (read_sizes table w low t items)
read_sizes table w low (Pass t) (Free ∷ items) = ap suc (read_sizes table w low t items)
read_sizes table w low (Value v t) (Field n ∷ items) =
    let u = slice w (low + size table t items, n) in
    length-append (held n u) (bits table (tree_at table w low t items) items) ∙ ap₂ (λ (a b : ℕ). a + b) (length-map (digits n u) (λ b. Some b) ∙ length-digits n u ∙ sym (length-open n)) (read_sizes table w low t items)
    ∙ sym (length-append (no_bits n) (form_bits table t items))
read_sizes table w low (Choose k own t) (Child ks ∷ items) =
    length-append (bits table (tree_at table w (low + size table t items) own (coding table k)) (coding table k)) (bits table (tree_at table w low t items) items)
    ∙ ap₂ (λ (a b : ℕ). a + b) (read_sizes table w (low + size table t items) own (coding table k)) (read_sizes table w low t items)
    ∙ sym (length-append (form_bits table own (coding table k)) (form_bits table t items))
read_sizes table w low _ _ = refl

pub has_some : {V : Type 0} (table : Table) (w : ℕ) (t : Tree V) (items : List Item) → Fits AnyValue table t items → Has w (form_bits table t items) → Has w (bits table (tree_at table w 0 t items) items)
has_some table w t items fits has =
    let n = size table t items in
    let m = reads table w 0 t items fits (subst (λ (ds : List Bool). Meets ds (form_bits table t items)) (at_zero n w) has.agrees) in
    record {
      below = subst (λ (k : ℕ). w < 2 ^ k) (sym (read_sizes table w 0 t items)) has.below;
      agrees = subst (λ (ds : List Bool). Meets ds (bits table (tree_at table w 0 t items) items)) (sym (at_zero n w) ∙ ap (λ (k : ℕ). digits k w) (sym (read_sizes table w 0 t items))) m;
    }
