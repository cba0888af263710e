-- The entries of plain forms.
use Rattle.std.proofs.Common.{◌≡◌, ℕ, zero, suc, ◌+◌, ◌<◌, ◌≤◌, Bool, true, false, ◌&&◌, List, [], ◌∷◌, ◌++◌, length, drop, refl, sym, ap, ap₂, ◌∙◌, subst, arith, inl, inr}
use Rattle.std.specs.Prelude.{slice_index_or, nat_eq, bit_and}
use Rattle.std.specs.List.{IsDistinct, AllByRecursion}
use Rattle.std.proofs.lemmas.List.{drop_more, append_assoc}
use Rattle.std.proofs.lemmas.Bool.{cases_Bool, and_parts, eqb-true, true≢false}
use Rattle.instruction_trees.specs.Trees.{In, here, there}
use Rattle.pattern_tables.specs.declared.bit_pattern.BitPattern.{BitPattern}
use Rattle.pattern_tables.specs.declared.entry.Entry.{Entry}
use Rattle.pattern_tables.specs.Patterns.{IsPlain, AreApart}
use Rattle.pattern_tables.specs.Entries.{entry, plain_entries}

-- ---- one form more

pub entries_taken : (ps : List BitPattern) (bs : List Bool) (i : ℕ) (d : BitPattern) (b : Bool) → i < length ps → length bs ≡ length ps → slice_index_or bs i b ≡ true
    → plain_entries i (drop i ps) (drop i bs) ≡ entry (slice_index_or ps i d).mask (slice_index_or ps i d).pattern i ∷ plain_entries (suc i) (drop (i + 1) ps) (drop (i + 1) bs)
entries_taken ps bs i d b inside level e =
    ap₂ (plain_entries i) (drop_more ps i d inside) (drop_more bs i b (omega arith) ∙ ap (λ (x : Bool). x ∷ drop (i + 1) bs) e)

pub entries_passed : (ps : List BitPattern) (bs : List Bool) (i : ℕ) (d : BitPattern) (b : Bool) → i < length ps → length bs ≡ length ps → slice_index_or bs i b ≡ false
    → plain_entries i (drop i ps) (drop i bs) ≡ plain_entries (suc i) (drop (i + 1) ps) (drop (i + 1) bs)
entries_passed ps bs i d b inside level e =
    ap₂ (plain_entries i) (drop_more ps i d inside) (drop_more bs i b (omega arith) ∙ ap (λ (x : Bool). x ∷ drop (i + 1) bs) e)

pub taken : (ps : List BitPattern) (bs : List Bool) (i : ℕ) (d : BitPattern) (b : Bool) (old new whole : List Entry) → i < length ps → length bs ≡ length ps → slice_index_or bs i b ≡ true
    → new ≡ old ++ entry (slice_index_or ps i d).mask (slice_index_or ps i d).pattern i ∷ [] → old ++ plain_entries i (drop i ps) (drop i bs) ≡ whole
    → new ++ plain_entries (i + 1) (drop (i + 1) ps) (drop (i + 1) bs) ≡ whole
taken ps bs i d b old new whole inside level e pushed so_far =
    let e1 = entry (slice_index_or ps i d).mask (slice_index_or ps i d).pattern i in
    (let next : i + 1 ≡ suc i = omega arith in ap₂ (λ (xs : List Entry) (n : ℕ). xs ++ plain_entries n (drop (i + 1) ps) (drop (i + 1) bs)) pushed next)
    ∙ append_assoc old (e1 ∷ []) (plain_entries (suc i) (drop (i + 1) ps) (drop (i + 1) bs))
    ∙ ap (λ (xs : List Entry). old ++ xs) (sym (entries_taken ps bs i d b inside level e)) ∙ so_far

pub passed : (ps : List BitPattern) (bs : List Bool) (i : ℕ) (d : BitPattern) (b : Bool) (old whole : List Entry) → i < length ps → length bs ≡ length ps → slice_index_or bs i b ≡ false
    → old ++ plain_entries i (drop i ps) (drop i bs) ≡ whole → old ++ plain_entries (i + 1) (drop (i + 1) ps) (drop (i + 1) bs) ≡ whole
passed ps bs i d b old whole inside level e so_far =
    ap (λ (n : ℕ). old ++ plain_entries n (drop (i + 1) ps) (drop (i + 1) bs)) {x = i + 1} {y = suc i} (omega arith) ∙ ap (λ (xs : List Entry). old ++ xs) (sym (entries_passed ps bs i d b inside level e)) ∙ so_far

-- ---- which forms have an entry

pub record EntryOf (n : ℕ) (ps : List BitPattern) (bs : List Bool) (e : Entry) : Type 0 where
  pub place : ℕ
  pub number : e.form ≡ n + place
  pub within : place < length ps
  pub is_plain : IsPlain bs place
  pub masked : (d : BitPattern) → e.mask ≡ (slice_index_or ps place d).mask
  pub patterned : (d : BitPattern) → e.pattern ≡ (slice_index_or ps place d).pattern

later : (n : ℕ) (p : BitPattern) (ps : List BitPattern) (b : Bool) (bs : List Bool) (e : Entry) → EntryOf (suc n) ps bs e → EntryOf n (p ∷ ps) (b ∷ bs) e
later n p ps b bs e is =
    let number = is.number in
    let within = is.within in
    record { place = suc is.place; number = omega arith; within = omega arith; is_plain = is.is_plain; masked = is.masked; patterned = is.patterned }

pub entry_of : (n : ℕ) (ps : List BitPattern) (bs : List Bool) (e : Entry) → In e (plain_entries n ps bs) → EntryOf n ps bs e
entry_of n [] bs e i = elim i [ ]
entry_of n (p ∷ ps) [] e i = elim i [ ]
entry_of n (p ∷ ps) (true ∷ bs) e here = record { place = 0; number = omega arith; within = omega arith; is_plain = refl; masked = λ d. refl; patterned = λ d. refl }
entry_of n (p ∷ ps) (true ∷ bs) e (there i) = later n p ps true bs e (entry_of (suc n) ps bs e i)
entry_of n (p ∷ ps) (false ∷ bs) e i = later n p ps false bs e (entry_of (suc n) ps bs e i)

pub has_entry : (n : ℕ) (ps : List BitPattern) (bs : List Bool) (i : ℕ) (d : BitPattern) → i < length ps → IsPlain bs i
    → In (entry (slice_index_or ps i d).mask (slice_index_or ps i d).pattern (n + i)) (plain_entries n ps bs)
has_entry n [] bs i d inside is = absurd (omega arith)
has_entry n (p ∷ ps) [] i d inside is = absurd (true≢false (sym is))
has_entry n (p ∷ ps) (false ∷ bs) zero d inside is = absurd (true≢false (sym is))
has_entry n (p ∷ ps) (true ∷ bs) zero d inside is = subst (λ (k : ℕ). In (entry p.mask p.pattern k) (plain_entries n (p ∷ ps) (true ∷ bs))) {x = n} {y = n + 0} (omega arith) here
has_entry n (p ∷ ps) (true ∷ bs) (suc i) d inside is =
    subst (λ (k : ℕ). In (entry (slice_index_or ps i d).mask (slice_index_or ps i d).pattern k) (plain_entries n (p ∷ ps) (true ∷ bs))) {x = suc n + i} {y = n + suc i} (omega arith)
    (there (has_entry (suc n) ps bs i d (omega arith) is))
has_entry n (p ∷ ps) (false ∷ bs) (suc i) d inside is =
    subst (λ (k : ℕ). In (entry (slice_index_or ps i d).mask (slice_index_or ps i d).pattern k) (plain_entries n (p ∷ ps) (false ∷ bs))) {x = suc n + i} {y = n + suc i} (omega arith)
    (has_entry (suc n) ps bs i d (omega arith) is)

-- ---- no two have one mask and one pattern

abbrev pub same_key : Entry → Entry → Bool
same_key d e = nat_eq d.mask e.mask && nat_eq d.pattern e.pattern

apart_later : (p : BitPattern) (ps : List BitPattern) (b : Bool) (bs : List Bool) → AreApart (p ∷ ps) (b ∷ bs) → AreApart ps bs
apart_later p ps b bs apart = λ i j c. apart (suc i) (suc j) (let order = c.order in let within = c.within in record { order = omega arith; within = omega arith; first = c.first; second = c.second; agree = c.agree })

same_agrees : (m n p q : ℕ) → m ≡ n → p ≡ q → bit_and p n ≡ bit_and q m
same_agrees m n p q e f = ap₂ bit_and f (sym e)

by_recursion : (P : Entry → Type 0) (xs : List Entry) → ((x : Entry) → In x xs → P x) → AllByRecursion P xs
by_recursion P [] all = tt
by_recursion P (x ∷ xs) all = (all x here, by_recursion P xs (λ y i. all y (there i)))

head_apart : (n : ℕ) (p : BitPattern) (ps : List BitPattern) (bs : List Bool) → AreApart (p ∷ ps) (true ∷ bs) → (e : Entry) → In e (plain_entries (suc n) ps bs) → same_key (entry p.mask p.pattern n) e ≡ false
head_apart n p ps bs apart e i = elim (cases_Bool (same_key (entry p.mask p.pattern n) e)) [
  | inl t ↦ (
      let parts = and_parts (nat_eq p.mask e.mask) (nat_eq p.pattern e.pattern) t in
      let is = entry_of (suc n) ps bs e i in
      let within = is.within in
      absurd (apart 0 (suc is.place) (record {
        order = omega arith;
        within = omega arith;
        first = refl;
        second = is.is_plain;
        agree = λ d. same_agrees p.mask (slice_index_or ps is.place d).mask p.pattern (slice_index_or ps is.place d).pattern (eqb-true p.mask e.mask parts.0 ∙ is.masked d) (eqb-true p.pattern e.pattern parts.1 ∙ is.patterned d);
      })))
  | inr f ↦ f
]

pub entries_apart : (n : ℕ) (ps : List BitPattern) (bs : List Bool) → AreApart ps bs → IsDistinct same_key (plain_entries n ps bs)
unfolding IsDistinct
entries_apart n [] bs apart = tt
entries_apart n (p ∷ ps) [] apart = tt
entries_apart n (p ∷ ps) (true ∷ bs) apart =
    (by_recursion (λ e. same_key (entry p.mask p.pattern n) e ≡ false) (plain_entries (suc n) ps bs) (head_apart n p ps bs apart), entries_apart (suc n) ps bs (apart_later p ps true bs apart))
entries_apart n (p ∷ ps) (false ∷ bs) apart = entries_apart (suc n) ps bs (apart_later p ps false bs apart)

pub length-entries : (n : ℕ) (ps : List BitPattern) (bs : List Bool) → length (plain_entries n ps bs) ≤ length ps
length-entries n [] bs = omega arith
length-entries n (p ∷ ps) [] = omega arith
length-entries n (p ∷ ps) (true ∷ bs) = let e = length-entries (suc n) ps bs in omega arith
length-entries n (p ∷ ps) (false ∷ bs) = let e = length-entries (suc n) ps bs in omega arith
