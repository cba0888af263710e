-- Where each operation writes each field and each child once, each form writes each of its fields once.
use Rattle.std.proofs.Common.{◌≡◌, ℕ, zero, suc, ◌+◌, ◌-◌, ◌<◌, ◌≤◌, Bool, true, false, cond, nat_eq, List, [], ◌∷◌, ◌++◌, length, map, refl, sym, ap, ap₂, ◌∙◌, subst, arith, inl, inr}
use Rattle.std.specs.Prelude.{slice_index_or}
use Rattle.std.specs.List.{flat_map}
use Rattle.std.proofs.lemmas.Bool.{cases_lt}
use Rattle.std.proofs.lemmas.List.Concat.{flat_map-append}
use Rattle.instruction_trees.specs.Trees.{Item, Fixed, Free, Field, Child, Table, coding, Tree, Done, Pass, Value, Choose, Fits, AnyValue, Form, In, here, there}
use Rattle.instruction_trees.specs.Forms.{Distinct, none, more}
use Rattle.instruction_trees.specs.Values.{numbered, owns, inners}
use Rattle.instruction_trees.proofs.Listing.{in_flat, from_flat, distinct_flat}
use Rattle.instruction_texts.specs.Symbols.{Kind, Element, Content, Text, Number, Part, Sym, Byte, Gap, Shown, own_fields, shown_at, text_sym, written_by, gap, others, assemble, parts_of, shown_values, symbols, is_clean, AreWide}
use Rattle.instruction_texts.specs.Texts.{IsReadable}
use Rattle.instruction_texts.specs.Once.{Key, OfField, OfPart, own_keys, keys, fields_of, children_of, IsWrittenOnce}

-- ---- what an operation shows is what its keys show

shown_append : {V : Type 0} (x y : List (Sym V)) → shown_values (x ++ y) ≡ shown_values x ++ shown_values y
shown_append [] y = refl
shown_append (Byte c ∷ x) y = shown_append x y
shown_append (Gap ∷ x) y = shown_append x y
shown_append {V = V} (Shown kind n v ∷ x) y = ap (λ (l : List V). v ∷ l) (shown_append x y)

abbrev one_field : {V : Type 0} → List (ℕ × V) → ℕ → List V
one_field [] k = []
one_field (f ∷ fs) zero = f.1 ∷ []
one_field (f ∷ fs) (suc k) = one_field fs k

abbrev one_part : {V : Type 0} → List (List (Sym V)) → ℕ → List V
one_part [] k = []
one_part (p ∷ ps) zero = shown_values p
one_part (p ∷ ps) (suc k) = one_part ps k

abbrev of_key : {V : Type 0} → List (ℕ × V) → List (List (Sym V)) → Key → List V
of_key fs ps (OfField k) = one_field fs k
of_key fs ps (OfPart k) = one_part ps k

field_shown : {V : Type 0} (kind : Kind) (k : ℕ) (fs : List (ℕ × V)) → shown_values (shown_at kind k fs) ≡ one_field fs k
field_shown kind k [] = refl
field_shown kind zero (f ∷ fs) = refl
field_shown kind (suc k) (f ∷ fs) = field_shown kind k fs

part_shown : {V : Type 0} (ps : List (List (Sym V))) (k : ℕ) → shown_values (slice_index_or ps k []) ≡ one_part ps k
part_shown [] k = refl
part_shown (p ∷ ps) zero = refl
part_shown (p ∷ ps) (suc k) = part_shown ps k

abbrev text_syms : {V : Type 0} → List ℕ → List (Sym V)
text_syms bs = map text_sym bs

abbrev one_gap : {V : Type 0} → Bool → List (Sym V)
one_gap b = gap b

bytes_shown : {V : Type 0} (bs : List ℕ) → shown_values {V = V} (text_syms bs) ≡ []
bytes_shown [] = refl
bytes_shown {V = V} (b ∷ bs) = go (nat_eq b 32) (bytes_shown {V = V} bs) where
  go : (c : Bool) → shown_values {V = V} (text_syms bs) ≡ [] → shown_values {V = V} (cond c Gap (Byte b) ∷ text_syms bs) ≡ []
  go true h = h
  go false h = h

gap_shown : {V : Type 0} (b : Bool) (x : List (Sym V)) → shown_values {V = V} (one_gap b ++ x) ≡ shown_values x
gap_shown true x = refl
gap_shown false x = refl

ends_nil : {V : Type 0} (xs : List V) → xs ≡ xs ++ []
ends_nil [] = refl
ends_nil {V = V} (x ∷ xs) = ap (λ (l : List V). x ∷ l) (ends_nil xs)

content_shown : {V : Type 0} (fs : List (ℕ × V)) (ps : List (List (Sym V))) (c : Content) → shown_values (written_by fs ps c) ≡ flat_map (of_key fs ps) (own_keys c)
content_shown fs ps (Text bs) = bytes_shown bs
content_shown fs ps (Number kind k) = field_shown kind k fs ∙ ends_nil (one_field fs k)
content_shown fs ps (Part k) = part_shown ps k ∙ ends_nil (one_part ps k)

module _ {V : Type 0} (fs : List (ℕ × V)) (ps : List (List (Sym V))) where
  two_shown : (c : Content) (x : List (Sym V)) (es : List Element) → shown_values x ≡ flat_map (of_key fs ps) (keys es) → shown_values (written_by fs ps c ++ x) ≡ flat_map (of_key fs ps) (own_keys c ++ keys es)
  two_shown c x es h = shown_append (written_by fs ps c) x ∙ ap₂ (λ (a b : List V). a ++ b) (content_shown fs ps c) h ∙ sym (flat_map-append (of_key fs ps) (own_keys c) (keys es))

  others_shown : (es : List Element) → shown_values (others fs ps es) ≡ flat_map (of_key fs ps) (keys es)
  others_shown [] = refl
  others_shown (e ∷ es) = gap_shown e.joined (written_by fs ps e.content ++ others fs ps es) ∙ two_shown e.content (others fs ps es) es (others_shown es)

  assemble_shown : (es : List Element) → shown_values (assemble fs ps es) ≡ flat_map (of_key fs ps) (keys es)
  assemble_shown [] = refl
  assemble_shown (e ∷ es) = two_shown e.content (others fs ps es) es (others_shown es)

-- ---- exactly the numbers from one to another, each once

pub record Exactly (low high : ℕ) (xs : List ℕ) : Type 0 where
  pub inside : (i : ℕ) → In i xs → (low ≤ i) × (i < high)
  pub all : (i : ℕ) → low ≤ i → i < high → In i xs
  pub once : Distinct xs

pub data Tiled : ℕ → ℕ → List (List (Sym ℕ)) → Type 0 where
  end : {low : ℕ} → Tiled low low []
  tile : {low middle high : ℕ} {p : List (Sym ℕ)} {ps : List (List (Sym ℕ))} → Exactly low middle (shown_values p) → low ≤ middle → middle ≤ high → Tiled middle high ps → Tiled low high (p ∷ ps)

tiled_inside : {low high : ℕ} {ps : List (List (Sym ℕ))} → Tiled low high ps → (j i : ℕ) → In i (one_part ps j) → (low ≤ i) × (i < high)
tiled_inside end j i h = elim h [ ]
tiled_inside (tile e l m t) zero i h = let x = e.inside i h in (x.0, omega (arith, x.1))
tiled_inside (tile e l m t) (suc j) i h = let x = tiled_inside t j i h in (omega (arith, x.0), x.1)

tiled_all : {low high : ℕ} {ps : List (List (Sym ℕ))} → Tiled low high ps → (i : ℕ) → low ≤ i → i < high → (j : ℕ) × (j < length ps) × In i (one_part ps j)
tiled_all end i a b = absurd (omega arith)
tiled_all (tile {middle = middle} {ps = ps} e l m t) i a b = elim (cases_lt i middle) [ inl lt ↦ (0, omega arith, e.all i a lt) | inr le ↦ (let x = tiled_all t i le b in (suc x.0, omega (arith, x.1), x.2)) ]

tiled_once : {low high : ℕ} {ps : List (List (Sym ℕ))} → Tiled low high ps → (j : ℕ) → Distinct (one_part ps j)
tiled_once end j = none
tiled_once (tile e l m t) zero = e.once
tiled_once (tile e l m t) (suc j) = tiled_once t j

tiled_same : {low high : ℕ} {ps : List (List (Sym ℕ))} → Tiled low high ps → (j k i : ℕ) → In i (one_part ps j) → In i (one_part ps k) → j ≡ k
tiled_same end j k i h g = elim h [ ]
tiled_same (tile e l m t) zero zero i h g = refl
tiled_same (tile e l m t) (suc j) (suc k) i h g = ap suc (tiled_same t j k i h g)
tiled_same (tile e l m t) zero (suc k) i h g = let x = e.inside i h in let y = tiled_inside t k i g in absurd (omega (arith, x.1, y.0))
tiled_same (tile e l m t) (suc j) zero i h g = let x = e.inside i g in let y = tiled_inside t j i h in absurd (omega (arith, x.1, y.0))

-- ---- own fields are numbered from a on

at_head : (i a : ℕ) → In i (a ∷ []) → i ≡ a
at_head i a (here) = refl
at_head i a (there h) = elim h [ ]

field_once : {V : Type 0} (fs : List (ℕ × V)) (k : ℕ) → Distinct (one_field fs k)
field_once [] k = none
field_once (f ∷ fs) zero = more (λ h. elim h [ ]) none
field_once (f ∷ fs) (suc k) = field_once fs k

-- ---- what a key shows

lies : (a n m : ℕ) (fs : List (ℕ × ℕ)) (ps : List (List (Sym ℕ))) → ((k i : ℕ) → In i (one_field fs k) → (i ≡ a + k) × (k < n)) → Tiled (a + n) (a + n + m) ps
    → (x : Key) (i : ℕ) → In i (of_key fs ps x) → (a ≤ i) × (i < a + (n + m))
lies a n m fs ps number tiled (OfField k) i h = let x = number k i h in (omega (arith, x.0), omega (arith, x.0, x.1))
lies a n m fs ps number tiled (OfPart k) i h = let x = tiled_inside tiled k i h in (omega (arith, x.0), omega (arith, x.1))

same_key : (a n m : ℕ) (fs : List (ℕ × ℕ)) (ps : List (List (Sym ℕ))) → ((k i : ℕ) → In i (one_field fs k) → (i ≡ a + k) × (k < n)) → Tiled (a + n) (a + n + m) ps
    → (x y : Key) (i : ℕ) → In i (of_key fs ps x) → In i (of_key fs ps y) → x ≡ y
same_key a n m fs ps number tiled (OfField k) (OfField l) i h g = let x = number k i h in let y = number l i g in ap (λ (j : ℕ). OfField j) (omega (arith, x.0, y.0))
same_key a n m fs ps number tiled (OfPart k) (OfPart l) i h g = ap (λ (j : ℕ). OfPart j) (tiled_same tiled k l i h g)
same_key a n m fs ps number tiled (OfField k) (OfPart l) i h g = let x = number k i h in let y = tiled_inside tiled l i g in absurd (omega (arith, x.0, x.1, y.0))
same_key a n m fs ps number tiled (OfPart k) (OfField l) i h g = let x = number l i g in let y = tiled_inside tiled k i h in absurd (omega (arith, x.0, x.1, y.0))

key_once : {low high : ℕ} (fs : List (ℕ × ℕ)) (ps : List (List (Sym ℕ))) → Tiled low high ps → (x : Key) → Distinct (of_key fs ps x)
key_once fs ps tiled (OfField k) = field_once fs k
key_once fs ps tiled (OfPart k) = tiled_once tiled k

module _ {V : Type 0} (table : Table) where
  field_number : (a b : ℕ) (t : Tree V) (items : List Item) → Fits AnyValue table t items → (k i : ℕ) → In i (one_field (own_fields (numbered a b t) items) k) → (i ≡ a + k) × (k < owns t)
  field_number a b Done [] fits k i h = elim h [ ]
  field_number a b (Pass t) (Fixed c ∷ items) fits k i h = field_number a b t items fits k i h
  field_number a b (Pass t) (Free ∷ items) fits k i h = field_number a b t items fits k i h
  field_number a b (Value v t) (Field n ∷ items) fits zero i h = (at_head i a h ∙ omega arith, omega arith)
  field_number a b (Value v t) (Field n ∷ items) fits (suc k) i h = let x = field_number (suc a) b t items fits.1 k i h in (x.0 ∙ omega arith, omega (arith, x.1))
  field_number a b (Choose c own t) (Child ks ∷ items) fits k i h = field_number a (b + (owns own + inners own)) t items fits.2 k i h
  field_number a b _ _ fits k i h = absurd fits

  field_in : (a b : ℕ) (t : Tree V) (items : List Item) → Fits AnyValue table t items → (k : ℕ) → k < owns t → In (a + k) (one_field (own_fields (numbered a b t) items) k)
  field_in a b Done [] fits k lt = absurd (omega arith)
  field_in a b (Pass t) (Fixed c ∷ items) fits k lt = field_in a b t items fits k lt
  field_in a b (Pass t) (Free ∷ items) fits k lt = field_in a b t items fits k lt
  field_in a b (Value v t) (Field n ∷ items) fits zero lt = let e : a ≡ a + 0 = omega arith in subst (λ (i : ℕ). In i (a ∷ [])) e here
  field_in a b (Value v t) (Field n ∷ items) fits (suc k) lt = let e : suc a + k ≡ a + suc k = omega arith in subst (λ (i : ℕ). In i (one_field (own_fields (numbered (suc a) b t) items) k)) e (field_in (suc a) b t items fits.1 k (omega arith))
  field_in a b (Choose c own t) (Child ks ∷ items) fits k lt = field_in a (b + (owns own + inners own)) t items fits.2 k lt
  field_in a b _ _ fits k lt = absurd fits

  owns_fields : (t : Tree V) (items : List Item) → Fits AnyValue table t items → owns t ≡ fields_of items
  owns_fields Done [] fits = refl
  owns_fields (Pass t) (Fixed c ∷ items) fits = owns_fields t items fits
  owns_fields (Pass t) (Free ∷ items) fits = owns_fields t items fits
  owns_fields (Value v t) (Field n ∷ items) fits = ap suc (owns_fields t items fits.1)
  owns_fields (Choose c own t) (Child ks ∷ items) fits = owns_fields t items fits.2
  owns_fields _ _ fits = absurd fits

  module _ (syntax : List (List Element)) where
    how_many : (a b : ℕ) (t : Tree V) (items : List Item) → Fits AnyValue table t items → length (parts_of table syntax (numbered a b t)) ≡ children_of items
    how_many a b Done [] fits = refl
    how_many a b (Pass t) (Fixed c ∷ items) fits = how_many a b t items fits
    how_many a b (Pass t) (Free ∷ items) fits = how_many a b t items fits
    how_many a b (Value v t) (Field n ∷ items) fits = how_many (suc a) b t items fits.1
    how_many a b (Choose c own t) (Child ks ∷ items) fits = ap suc (how_many a (b + (owns own + inners own)) t items fits.2)
    how_many a b _ _ fits = absurd fits

    module _ (written : (k : ℕ) → IsWrittenOnce (coding table k) (slice_index_or syntax k [])) where
      whole : (k a : ℕ) (t : Tree V) → Fits AnyValue table t (coding table k) → Tiled (a + owns t) (a + owns t + inners t) (parts_of table syntax (numbered a (a + owns t) t))
          → Exactly a (a + (owns t + inners t)) (shown_values (symbols table syntax k (numbered a (a + owns t) t)))
      whole k a t fits tiled =
          let items = coding table k in
          let fs = own_fields (numbered a (a + owns t) t) items in
          let ps = parts_of table syntax (numbered a (a + owns t) t) in
          let es = slice_index_or syntax k [] in
          let w = written k in
          let e : shown_values (assemble fs ps es) ≡ flat_map (of_key fs ps) (keys es) = assemble_shown fs ps es in
          let number = field_number a (a + owns t) t items fits in
          record {
            inside = λ i h.
                let x = from_flat (of_key fs ps) (keys es) (subst (λ (l : List ℕ). In i l) e h) in
                lies a (owns t) (inners t) fs ps number tiled x.0 i x.2;
            all = λ i low high. subst (λ (l : List ℕ). In i l) (sym e) (elim (cases_lt i (a + owns t)) [
              | inl lt ↦ (
                  let j = i - a in
                  let is : a + j ≡ i = omega arith in
                  let few : j < owns t = omega arith in
                  in_flat (of_key fs ps) (w.fields j (omega (arith, owns_fields t items fits))) (subst (λ (n : ℕ). In n (one_field fs j)) is (field_in a (a + owns t) t items fits j few)))
              | inr le ↦ (
                  let x = tiled_all tiled i le (omega arith) in
                  in_flat (of_key fs ps) (w.parts x.0 (omega (arith, x.1, how_many a (a + owns t) t items fits))) x.2)
            ]);
            once = subst (λ (l : List ℕ). Distinct l) (sym e) (distinct_flat (of_key fs ps) (same_key a (owns t) (inners t) fs ps number tiled) (key_once fs ps tiled) w.distinct);
          }

      pub tiles : (a b : ℕ) (t : Tree V) (items : List Item) → Fits AnyValue table t items → Tiled b (b + inners t) (parts_of table syntax (numbered a b t))
      tiles a b Done [] fits = let e : b ≡ b + 0 = omega arith in subst (λ (n : ℕ). Tiled b n []) e end
      tiles a b (Pass t) (Fixed c ∷ items) fits = tiles a b t items fits
      tiles a b (Pass t) (Free ∷ items) fits = tiles a b t items fits
      tiles a b (Value v t) (Field n ∷ items) fits = tiles (suc a) b t items fits.1
      tiles a b (Choose c own t) (Child ks ∷ items) fits =
          let n = owns own + inners own in
          let e : b + n + inners t ≡ b + (n + inners t) = omega arith in
          subst (λ (h : ℕ). Tiled b h (parts_of table syntax (numbered a b (Choose c own t)))) e
          (tile (whole c b own fits.1 (tiles b (b + owns own) own (coding table c) fits.1)) (omega arith) (omega arith) (tiles a (b + n) t items fits.2))
      tiles a b _ _ fits = absurd fits

      -- a form writes each of its fields once
      pub order_is : (k : ℕ) (t : Tree V) → Fits AnyValue table t (coding table k) → Exactly 0 (owns t + inners t) (shown_values (symbols table syntax k (numbered 0 (owns t) t)))
      order_is k t fits =
          let z : 0 + owns t ≡ owns t = omega arith in
          let y : 0 + (owns t + inners t) ≡ owns t + inners t = omega arith in
          subst (λ (n : ℕ). Exactly 0 n (shown_values (symbols table syntax k (numbered 0 (owns t) t)))) y
          (subst (λ (m : ℕ). Exactly 0 (0 + (owns t + inners t)) (shown_values (symbols table syntax k (numbered 0 m t)))) z
          (whole k 0 t fits (tiles 0 (0 + owns t) t (coding table k) fits)))

-- ---- so a form with no field of width 0 and no run behind a number may be compared

pub may_be_compared : (table : Table) (syntax : List (List Element)) → ((k : ℕ) → IsWrittenOnce (coding table k) (slice_index_or syntax k [])) → (k : ℕ) (t : Form) → Fits AnyValue table t (coding table k)
    → is_clean (symbols table syntax k (numbered 0 (owns t) t)) ≡ true → AreWide (symbols table syntax k (numbered 0 (owns t) t)) → IsReadable table syntax k t
may_be_compared table syntax written k t fits clean wide =
    let e = order_is table syntax written k t fits in
    record { clean = clean; wide = wide; covered = λ i lt. e.all i (omega arith) lt; once = e.once }
