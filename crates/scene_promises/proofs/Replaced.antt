-- Lists of values that fit, with another value at one place.
use Rattle.std.proofs.Common.{◌≡◌, ◌<◌, ◌^◌, ◌∙◌, ℕ, zero, suc, Bool, true, false, List, [], ◌∷◌, Option, None, Some, length, get_or, set, take, nat_eq, refl, sym, ap, subst, arith}
use Rattle.std.specs.Prelude.{filter_map, slice_get}
use Rattle.std.specs.List.{cons_option}
use Rattle.std.proofs.lemmas.Bool.{eqb-true, eqb-false}
use Rattle.std.proofs.lemmas.List.{length-set, get_or-set_same, get_or-set_other}
use Rattle.std.proofs.lemmas.Option.{same_Some, slice_get-get_or}
use Rattle.lisa_tree.specs.Descriptions.{ResourceTree}
use Rattle.lisa_engine.specs.declared.parts.Item.{Item}
use Rattle.lisa_engine.specs.declared.parts.ArrayItem.{ArrayItem}
use Rattle.lisa_engine.specs.Shape.{IsFitting, AreCells}

pub fitting_set : (items : List Item) (vs : List ℕ) (j : ℕ) (i : Item) (bits : ℕ) → slice_get items j ≡ Some i → bits < 2 ^ i.width → IsFitting items vs → IsFitting items (set vs j bits)
fitting_set items vs j i bits there fits fit = record {
  count = length-set vs j bits ∙ fit.count;
  within = λ k one low. by k one low (nat_eq k j) refl;
}
  where
    by : (k : ℕ) (one : Item) → k < length items → (b : Bool) → nat_eq k j ≡ b → get_or (set vs j bits) k 0 < 2 ^ (get_or items k one).width
    by k one low true e =
        let same : k ≡ j = eqb-true k j e in
        let at : i ≡ get_or items k one = same_Some i (get_or items k one) (sym there ∙ ap (slice_get items) (sym same) ∙ slice_get-get_or items k one low) in
        let count = fit.count in
        let held : get_or (set vs j bits) k 0 ≡ bits = ap (λ (n : ℕ). get_or (set vs j bits) n 0) same ∙ get_or-set_same vs j bits 0 (omega (arith, same, low, count)) in
        subst (λ (n : ℕ). n < 2 ^ (get_or items k one).width) (sym held) (subst (λ (x : Item). bits < 2 ^ x.width) at fits)
    by k one low false e =
        subst (λ (n : ℕ). n < 2 ^ (get_or items k one).width) (sym (get_or-set_other vs j k bits 0 (eqb-false k j e))) (fit.within k one low)

row_within : (row : List ℕ) (index bits width : ℕ) → bits < 2 ^ width → ((j : ℕ) → j < length row → get_or row j 0 < 2 ^ width) → (j : ℕ) → j < length (set row index bits) → get_or (set row index bits) j 0 < 2 ^ width
row_within row index bits width fits old j low = by (nat_eq j index) refl
  where
    by : (b : Bool) → nat_eq j index ≡ b → get_or (set row index bits) j 0 < 2 ^ width
    by true e =
        let same : j ≡ index = eqb-true j index e in
        let count = length-set row index bits in
        let held : get_or (set row index bits) j 0 ≡ bits = ap (λ (n : ℕ). get_or (set row index bits) n 0) same ∙ get_or-set_same row index bits 0 (omega (arith, same, low, count)) in
        subst (λ (n : ℕ). n < 2 ^ width) (sym held) fits
    by false e =
        let count = length-set row index bits in
        subst (λ (n : ℕ). n < 2 ^ width) (sym (get_or-set_other row index j bits 0 (eqb-false j index e))) (old j (omega (arith, low, count)))

-- the rows with another one at a place, which is as long and as narrow
abbrev HasRow : List ArrayItem → ℕ → List ℕ → Type 0
HasRow arrays k row = (a : ArrayItem) → (length row ≡ (get_or arrays k a).depth) × ((j : ℕ) → j < length row → get_or row j 0 < 2 ^ (get_or arrays k a).width)

pub cells_set : (arrays : List ArrayItem) (cells : List (List ℕ)) (p : ℕ) (a : ArrayItem) (index bits : ℕ) → slice_get arrays p ≡ Some a → bits < 2 ^ a.width → AreCells arrays cells
    → AreCells arrays (set cells p (set (get_or cells p []) index bits))
cells_set arrays cells p a index bits there fits all = record {
  count = length-set cells p new ∙ all.count;
  depths = λ k one low. (by k low (nat_eq k p) refl one).0;
  within = λ k j one low inside. (by k low (nat_eq k p) refl one).1 j inside;
}
  where
    new : List ℕ
    new = set (get_or cells p []) index bits

    by : (k : ℕ) → k < length arrays → (b : Bool) → nat_eq k p ≡ b → HasRow arrays k (get_or (set cells p (set (get_or cells p []) index bits)) k [])
    by k low true e one =
        let row = get_or cells p [] in
        let next = set row index bits in
        let same : k ≡ p = eqb-true k p e in
        let count = all.count in
        let at : a ≡ get_or arrays k one = same_Some a (get_or arrays k one) (sym there ∙ ap (slice_get arrays) (sym same) ∙ slice_get-get_or arrays k one low) in
        let held : get_or (set cells p next) k [] ≡ next = ap (λ (n : ℕ). get_or (set cells p next) n []) same ∙ get_or-set_same cells p next [] (omega (arith, same, low, count)) in
        let old : HasRow arrays p row = λ x. (all.depths p x (omega (arith, same, low)), λ j inside. all.within p j x (omega (arith, same, low)) inside) in
        let was : HasRow arrays k row = subst (λ (n : ℕ). HasRow arrays n row) (sym same) old in
        let wide : bits < 2 ^ (get_or arrays k one).width = subst (λ (x : ArrayItem). bits < 2 ^ x.width) at fits in
        subst (λ (l : List ℕ). (length l ≡ (get_or arrays k one).depth) × ((j : ℕ) → j < length l → get_or l j 0 < 2 ^ (get_or arrays k one).width)) (sym held)
        (length-set row index bits ∙ (was one).0, row_within row index bits (get_or arrays k one).width wide (was one).1)
    by k low false e one =
        subst (λ (l : List ℕ). (length l ≡ (get_or arrays k one).depth) × ((j : ℕ) → j < length l → get_or l j 0 < 2 ^ (get_or arrays k one).width))
        (sym (get_or-set_other cells p k (set (get_or cells p []) index bits) [] (eqb-false k p e)))
        (all.depths k one low, λ j inside. all.within k j one low inside)

-- where a resource stands among those of its sort
pub placed : {P : Type 0} (part : ResourceTree → Option P) (rs : List ResourceTree) (k : ℕ) (r : ResourceTree) (p : P) → slice_get rs k ≡ Some r → part r ≡ Some p
    → slice_get (filter_map part rs) (length (filter_map part (take k rs))) ≡ Some p
placed part [] k r p e f = absurd (cc e)
placed {P = P} part (x ∷ rs) zero r p e f = ap (λ (o : Option P). slice_get (cons_option o (filter_map part rs)) 0) (ap part (same_Some x r e) ∙ f)
placed {P = P} part (x ∷ rs) (suc k) r p e f = by (part x) (placed part rs k r p e f)
  where
    by : (o : Option P) → slice_get (filter_map part rs) (length (filter_map part (take k rs))) ≡ Some p → slice_get (cons_option o (filter_map part rs)) (length (cons_option o (filter_map part (take k rs)))) ≡ Some p
    by None h = h
    by (Some y) h = h
