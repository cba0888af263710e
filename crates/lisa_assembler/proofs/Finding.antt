-- Memories are found by their names.
use Rattle.std.proofs.Common.{◌≡◌, ◌<◌, ◌≤◌, ◌+◌, ltb, ℕ, zero, suc, Bool, true, false, cond, List, [], ◌∷◌, Option, None, Some, length, refl, sym, ap, subst, ◌∙◌, arith}
use Rattle.std.specs.Prelude.{find, slice_get, All}
use Rattle.std.specs.Option.{option_or}
use Rattle.std.specs.Str.{bytes_eq}
use Rattle.std.proofs.lemmas.Bool.{ltb-false}
use Rattle.std.proofs.lemmas.List.Elements.{All-head, All-tail}
use Rattle.lisa_engine.specs.declared.parts.ArrayItem.{ArrayItem}
use Rattle.lisa_tree.specs.Descriptions.{DescriptionTree}
use Rattle.lisa_assembler.specs.Memories.{memory_items, memory_named}
use Rattle.lisa_assembler.specs.Places.{place_from, HasWords}

abbrev pub named : List ArrayItem → List ℕ → Option ArrayItem
named all n = find (λ a. bytes_eq a.name n) all

record IsAt (place i : ℕ) (all : List ArrayItem) (n : List ℕ) : Type 0 where
  offset : ℕ
  is : i ≡ place + offset
  found : slice_get all offset ≡ named all n

some_is : (i j : ℕ) → Some i ≡ Some j → i ≡ j
some_is i j e = cc e

found_from : (place : ℕ) (all : List ArrayItem) (n : List ℕ) (i : ℕ) → place_from place all n ≡ Some i → IsAt place i all n
found_from place [] n i e = absurd (cc e)
found_from place (a ∷ all) n i e = by (bytes_eq a.name n) refl (λ f. found_from (place + 1) all n i f)
  where
    later : (b : Bool) → bytes_eq a.name n ≡ b → b ≡ false → IsAt (place + 1) i all n → IsAt place i (a ∷ all) n
    later b t off r = record {
      offset = suc r.offset;
      is = (let s : i ≡ place + 1 + r.offset = r.is in omega (arith, s));
      found = r.found ∙ sym (ap (λ (x : Bool). cond x (Some a) (named all n)) (t ∙ off));
    }

    by : (b : Bool) → bytes_eq a.name n ≡ b → (place_from (place + 1) all n ≡ Some i → IsAt (place + 1) i all n) → IsAt place i (a ∷ all) n
    by true t rest =
        let here : Some place ≡ Some i = sym (ap (λ (x : Bool). option_or (cond x (Some place) None) (place_from (place + 1) all n)) t) ∙ e in
        let same : place ≡ i = some_is place i here in
        record { offset = 0; is = omega (arith, same); found = sym (ap (λ (x : Bool). cond x (Some a) (named all n)) t) }
    by false t rest = later false t refl (rest (sym (ap (λ (x : Bool). option_or (cond x (Some place) None) (place_from (place + 1) all n)) t) ∙ e))

place_low : (place : ℕ) (all : List ArrayItem) (n : List ℕ) (i : ℕ) → place_from place all n ≡ Some i → i < place + length all
place_low place [] n i e = absurd (cc e)
place_low place (a ∷ all) n i e = by (bytes_eq a.name n) refl (λ f. place_low (place + 1) all n i f)
  where
    by : (b : Bool) → bytes_eq a.name n ≡ b → (place_from (place + 1) all n ≡ Some i → i < place + 1 + length all) → i < place + length (a ∷ all)
    by true t rest =
        let here : Some place ≡ Some i = sym (ap (λ (x : Bool). option_or (cond x (Some place) None) (place_from (place + 1) all n)) t) ∙ e in
        let same : place ≡ i = some_is place i here in
        omega (arith, same)
    by false t rest =
        let h = rest (sym (ap (λ (x : Bool). option_or (cond x (Some place) None) (place_from (place + 1) all n)) t) ∙ e) in
        omega (arith, h)

pub place_below : (all : List ArrayItem) (n : List ℕ) (i : ℕ) → place_from 0 all n ≡ Some i → i < length all
place_below all n i e = let h = place_low 0 all n i e in omega (arith, h)

pub found_at : (all : List ArrayItem) (n : List ℕ) (i : ℕ) → place_from 0 all n ≡ Some i → slice_get all i ≡ named all n
found_at all n i e =
    let r = found_from 0 all n i e in
    let is : i ≡ 0 + r.offset = r.is in
    let same : i ≡ r.offset = omega (arith, is) in
    ap (slice_get all) same ∙ r.found

pub none_found : (place : ℕ) (all : List ArrayItem) (n : List ℕ) → place_from place all n ≡ None → None ≡ named all n
none_found place [] n e = refl
none_found place (a ∷ all) n e = by (bytes_eq a.name n) refl (λ f. none_found (place + 1) all n f)
  where
    by : (b : Bool) → bytes_eq a.name n ≡ b → (place_from (place + 1) all n ≡ None → None ≡ named all n) → None ≡ named (a ∷ all) n
    by true t rest = absurd (let here : Some place ≡ None = sym (ap (λ (x : Bool). option_or (cond x (Some place) None) (place_from (place + 1) all n)) t) ∙ e in cc here)
    by false t rest =
        rest (sym (ap (λ (x : Bool). option_or (cond x (Some place) None) (place_from (place + 1) all n)) t) ∙ e)
        ∙ sym (ap (λ (x : Bool). cond x (Some a) (named all n)) t)

pub words_at : (all : List ArrayItem) (i : ℕ) (a : ArrayItem) → All HasWords all → slice_get all i ≡ Some a → HasWords a
words_at [] i a words e = absurd (cc e)
words_at (b ∷ all) zero a words e = let same : b ≡ a = cc e in subst HasWords same (All-head HasWords b all words)
words_at (b ∷ all) (suc i) a words e = words_at all i a (All-tail HasWords b all words) e

-- a place that is told is one of the list
pub no_place : (all : List ArrayItem) (n : List ℕ) (i : ℕ) → place_from 0 all n ≡ Some i → false ≡ ltb i (length all) → ⊥
no_place all n i e f = let h = place_below all n i e in let past : length all ≤ i = ltb-false i (length all) (sym f) in omega (arith, h, past)

-- a memory of the description, or none, is found by its name
pub named_is : (d : DescriptionTree) (all : List ArrayItem) (n : List ℕ) (found told : Option ArrayItem) → all ≡ memory_items d → found ≡ named all n → found ≡ told → memory_named d n ≡ told
named_is d all n found told are e f = ap (λ (items : List ArrayItem). named items n) (sym are) ∙ sym e ∙ f
