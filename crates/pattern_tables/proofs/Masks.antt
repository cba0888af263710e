-- Masks and patterns decide which words a frame meets, and whether two frames have a word in common.
use Rattle.std.proofs.Common.{◌≡◌, ℕ, ◌^◌, ◌<◌, Bool, true, false, ◌&&◌, ◌||◌, List, [], ◌∷◌, length, Some, None, refl, sym, ap, ap₂, ◌∙◌, subst}
use Rattle.std.specs.Prelude.{bit_and, bit_or}
use Rattle.std.proofs.lemmas.List.{length-map}
use Rattle.instruction_trees.specs.Bits.{value, digits, Frame, Meets, none, same, free, Has, Covers, mask_bit, pattern_bit, mask_bits, pattern_bits, mask, pattern}
use Rattle.pattern_tables.specs.declared.bit_pattern.BitPattern.{BitPattern}
use Rattle.pattern_tables.specs.Patterns.{Stands, Agree, IsContained}
use Rattle.instruction_trees.proofs.Covering.{bits_have}
use Rattle.instruction_trees.proofs.Trees.{covers_length}
use Rattle.instruction_trees.proofs.Numbers.{zipped, value_and, value_or, value_same, length-zipped, length-digits, value_digits}

abbrev pub both : List Bool → List Bool → List Bool
both xs ys = zipped (λ a b. a && b) xs ys

abbrev pub either : List Bool → List Bool → List Bool
either xs ys = zipped (λ a b. a || b) xs ys

-- ---- on lists of bits

pub meets_masked : {bs : List Bool} {fs : Frame} → Meets bs fs → both bs (mask_bits fs) ≡ pattern_bits fs
meets_masked none = refl
meets_masked (same {b = true} m) = ap (λ (l : List Bool). true ∷ l) (meets_masked m)
meets_masked (same {b = false} m) = ap (λ (l : List Bool). false ∷ l) (meets_masked m)
meets_masked (free {b = true} m) = ap (λ (l : List Bool). false ∷ l) (meets_masked m)
meets_masked (free {b = false} m) = ap (λ (l : List Bool). false ∷ l) (meets_masked m)

pub masked_meets : (bs : List Bool) (fs : Frame) → length bs ≡ length fs → both bs (mask_bits fs) ≡ pattern_bits fs → Meets bs fs
masked_meets [] [] l e = none
masked_meets [] (f ∷ fs) l e = absurd cc
masked_meets (b ∷ bs) [] l e = absurd cc
masked_meets (b ∷ bs) (None ∷ fs) l e = free (masked_meets bs fs (cc) (cc))
masked_meets (true ∷ bs) (Some true ∷ fs) l e = same (masked_meets bs fs (cc) (cc))
masked_meets (false ∷ bs) (Some false ∷ fs) l e = same (masked_meets bs fs (cc) (cc))
masked_meets (true ∷ bs) (Some false ∷ fs) l e = absurd cc
masked_meets (false ∷ bs) (Some true ∷ fs) l e = absurd cc

pub common_masked : {bs : List Bool} {fs gs : Frame} → Meets bs fs → Meets bs gs → both (pattern_bits fs) (mask_bits gs) ≡ both (pattern_bits gs) (mask_bits fs)
common_masked none none = refl
common_masked (same {b = b} m) (same n) = ap₂ (λ (c : Bool) (l : List Bool). c ∷ l) refl (common_masked m n)
common_masked (same {b = true} m) (free n) = ap (λ (l : List Bool). false ∷ l) (common_masked m n)
common_masked (same {b = false} m) (free n) = ap (λ (l : List Bool). false ∷ l) (common_masked m n)
common_masked (free m) (same {b = true} n) = ap (λ (l : List Bool). false ∷ l) (common_masked m n)
common_masked (free m) (same {b = false} n) = ap (λ (l : List Bool). false ∷ l) (common_masked m n)
common_masked (free m) (free n) = ap (λ (l : List Bool). false ∷ l) (common_masked m n)

cons_bool : Bool → List Bool → List Bool
cons_bool b bs = b ∷ bs

-- where the fixed bits of two frames agree, this word meets both
pub common_meets : (fs gs : Frame) → length fs ≡ length gs → both (pattern_bits fs) (mask_bits gs) ≡ both (pattern_bits gs) (mask_bits fs)
    → Meets (either (pattern_bits fs) (pattern_bits gs)) fs × Meets (either (pattern_bits fs) (pattern_bits gs)) gs
common_meets [] [] l e = (none, none)
common_meets [] (g ∷ gs) l e = absurd cc
common_meets (f ∷ fs) [] l e = absurd cc
common_meets (None ∷ fs) (None ∷ gs) l e = let t = common_meets fs gs (cc) (cc) in (free t.0, free t.1)
common_meets (None ∷ fs) (Some g ∷ gs) l e = let t = common_meets fs gs (cc) (cc) in (free t.0, same t.1)
common_meets (Some true ∷ fs) (None ∷ gs) l e = let t = common_meets fs gs (cc) (cc) in (same t.0, free t.1)
common_meets (Some false ∷ fs) (None ∷ gs) l e = let t = common_meets fs gs (cc) (cc) in (same t.0, free t.1)
common_meets (Some true ∷ fs) (Some true ∷ gs) l e = let t = common_meets fs gs (cc) (cc) in (same t.0, same t.1)
common_meets (Some false ∷ fs) (Some false ∷ gs) l e = let t = common_meets fs gs (cc) (cc) in (same t.0, same t.1)
common_meets (Some true ∷ fs) (Some false ∷ gs) l e = absurd cc
common_meets (Some false ∷ fs) (Some true ∷ gs) l e = absurd cc

-- ---- on numbers

same_lengths : (fs gs : Frame) → length fs ≡ length gs → length (pattern_bits fs) ≡ length (mask_bits gs)
same_lengths fs gs l = length-map fs pattern_bit ∙ l ∙ sym (length-map gs mask_bit)

pub has_masked : (w : ℕ) (fs : Frame) → Has w fs → bit_and w (mask fs) ≡ pattern fs
has_masked w fs has =
    let ds = digits (length fs) w in
    ap (λ (k : ℕ). bit_and k (mask fs)) (sym (value_digits (length fs) w has.below))
    ∙ value_and ds (mask_bits fs) (length-digits (length fs) w ∙ sym (length-map fs mask_bit))
    ∙ ap value (meets_masked has.agrees)

pub masked_has : (w : ℕ) (fs : Frame) → w < 2 ^ length fs → bit_and w (mask fs) ≡ pattern fs → Has w fs
masked_has w fs below e =
    let ds = digits (length fs) w in
    let l : length ds ≡ length (mask_bits fs) = length-digits (length fs) w ∙ sym (length-map fs mask_bit) in
    let whole : value (both ds (mask_bits fs)) ≡ value (pattern_bits fs) = sym (value_and ds (mask_bits fs) l) ∙ ap (λ (k : ℕ). bit_and k (mask fs)) (value_digits (length fs) w below) ∙ e in
    record {
      below = below;
      agrees = masked_meets ds fs (length-digits (length fs) w)
          (value_same (both ds (mask_bits fs)) (pattern_bits fs) (length-zipped (λ a b. a && b) ds (mask_bits fs) l ∙ length-digits (length fs) w ∙ sym (length-map fs pattern_bit)) whole);
    }

-- a word of two frames shows that their fixed bits agree
pub common_agrees : (w : ℕ) (fs gs : Frame) → length fs ≡ length gs → Has w fs → Has w gs → bit_and (pattern fs) (mask gs) ≡ bit_and (pattern gs) (mask fs)
common_agrees w fs gs l f g =
    value_and (pattern_bits fs) (mask_bits gs) (same_lengths fs gs l)
    ∙ ap value (common_masked f.agrees (subst (λ (n : ℕ). Meets (digits n w) gs) (sym l) g.agrees))
    ∙ sym (value_and (pattern_bits gs) (mask_bits fs) (same_lengths gs fs (sym l)))

pub agreeing_common : (fs gs : Frame) → length fs ≡ length gs → bit_and (pattern fs) (mask gs) ≡ bit_and (pattern gs) (mask fs)
    → Has (bit_or (pattern fs) (pattern gs)) fs × Has (bit_or (pattern fs) (pattern gs)) gs
agreeing_common fs gs l e =
    let word = either (pattern_bits fs) (pattern_bits gs) in
    let ls : length (pattern_bits fs) ≡ length (pattern_bits gs) = length-map fs pattern_bit ∙ l ∙ sym (length-map gs pattern_bit) in
    let is : bit_or (pattern fs) (pattern gs) ≡ value word = value_or (pattern_bits fs) (pattern_bits gs) ls in
    let agree : both (pattern_bits fs) (mask_bits gs) ≡ both (pattern_bits gs) (mask_bits fs) =
    value_same (both (pattern_bits fs) (mask_bits gs)) (both (pattern_bits gs) (mask_bits fs))
    (length-zipped (λ a b. a && b) (pattern_bits fs) (mask_bits gs) (same_lengths fs gs l) ∙ length-map fs pattern_bit ∙ l ∙ sym (length-map gs pattern_bit) ∙ sym (length-zipped (λ a b. a && b) (pattern_bits gs) (mask_bits fs) (same_lengths gs fs (sym l))))
    (sym (value_and (pattern_bits fs) (mask_bits gs) (same_lengths fs gs l)) ∙ e ∙ value_and (pattern_bits gs) (mask_bits fs) (same_lengths gs fs (sym l))) in
    let meets = common_meets fs gs l agree in
    (subst (λ (k : ℕ). Has k fs) (sym is) (bits_have word fs meets.0), subst (λ (k : ℕ). Has k gs) (sym is) (bits_have word gs meets.1))

-- ---- which frames are covered

pub covers_masks : {fs gs : Frame} → Covers fs gs → both (mask_bits fs) (mask_bits gs) ≡ mask_bits fs
covers_masks none = refl
covers_masks (same c) = ap (λ (l : List Bool). true ∷ l) (covers_masks c)
covers_masks (free c) = ap (λ (l : List Bool). false ∷ l) (covers_masks c)

pub covers_patterns : {fs gs : Frame} → Covers fs gs → both (pattern_bits gs) (mask_bits fs) ≡ pattern_bits fs
covers_patterns none = refl
covers_patterns (same {b = true} c) = ap (λ (l : List Bool). true ∷ l) (covers_patterns c)
covers_patterns (same {b = false} c) = ap (λ (l : List Bool). false ∷ l) (covers_patterns c)
covers_patterns (free {g = None} c) = ap (λ (l : List Bool). false ∷ l) (covers_patterns c)
covers_patterns (free {g = Some true} c) = ap (λ (l : List Bool). false ∷ l) (covers_patterns c)
covers_patterns (free {g = Some false} c) = ap (λ (l : List Bool). false ∷ l) (covers_patterns c)

pub masks_cover : (fs gs : Frame) → length fs ≡ length gs → both (mask_bits fs) (mask_bits gs) ≡ mask_bits fs → both (pattern_bits gs) (mask_bits fs) ≡ pattern_bits fs → Covers fs gs
masks_cover [] [] l m p = none
masks_cover [] (g ∷ gs) l m p = absurd cc
masks_cover (f ∷ fs) [] l m p = absurd cc
masks_cover (None ∷ fs) (g ∷ gs) l m p = free (masks_cover fs gs (cc) (cc) (cc))
masks_cover (Some b ∷ fs) (None ∷ gs) l m p = absurd cc
masks_cover (Some true ∷ fs) (Some true ∷ gs) l m p = same (masks_cover fs gs (cc) (cc) (cc))
masks_cover (Some false ∷ fs) (Some false ∷ gs) l m p = same (masks_cover fs gs (cc) (cc) (cc))
masks_cover (Some true ∷ fs) (Some false ∷ gs) l m p = absurd cc
masks_cover (Some false ∷ fs) (Some true ∷ gs) l m p = absurd cc

mask_lengths : (fs gs : Frame) → length fs ≡ length gs → length (mask_bits fs) ≡ length (mask_bits gs)
mask_lengths fs gs l = length-map fs mask_bit ∙ l ∙ sym (length-map gs mask_bit)

pub covers_contained : (fs gs : Frame) → Covers fs gs → (bit_and (mask fs) (mask gs) ≡ mask fs) × (bit_and (pattern gs) (mask fs) ≡ pattern fs)
covers_contained fs gs c =
    let l = covers_length c in (
      value_and (mask_bits fs) (mask_bits gs) (mask_lengths fs gs l) ∙ ap value (covers_masks c),
      value_and (pattern_bits gs) (mask_bits fs) (same_lengths gs fs (sym l)) ∙ ap value (covers_patterns c),
    )

pub contained_covers : (fs gs : Frame) → length fs ≡ length gs → bit_and (mask fs) (mask gs) ≡ mask fs → bit_and (pattern gs) (mask fs) ≡ pattern fs → Covers fs gs
contained_covers fs gs l m p =
    let lm = mask_lengths fs gs l in
    let lp = same_lengths gs fs (sym l) in
    masks_cover fs gs l
    (value_same (both (mask_bits fs) (mask_bits gs)) (mask_bits fs) (length-zipped (λ a b. a && b) (mask_bits fs) (mask_bits gs) lm) (sym (value_and (mask_bits fs) (mask_bits gs) lm) ∙ m))
    (value_same (both (pattern_bits gs) (mask_bits fs)) (pattern_bits fs) (length-zipped (λ a b. a && b) (pattern_bits gs) (mask_bits fs) lp ∙ length-map gs pattern_bit ∙ sym l ∙ sym (length-map fs pattern_bit)) (sym (value_and (pattern_bits gs) (mask_bits fs) lp) ∙ p))

-- ---- of masks and patterns that stand for frames

pub stands_common : (width : ℕ) (fs gs : Frame) (p q : BitPattern) → Stands width fs p → Stands width gs q → Agree p q → Has (bit_or p.pattern q.pattern) fs × Has (bit_or p.pattern q.pattern) gs
stands_common width fs gs p q f g e =
    let t = agreeing_common fs gs (f.wide ∙ sym g.wide) (ap₂ bit_and (sym f.patterned) (sym g.masked) ∙ e ∙ ap₂ bit_and g.patterned f.masked) in
    let same_word : bit_or (pattern fs) (pattern gs) ≡ bit_or p.pattern q.pattern = ap₂ bit_or (sym f.patterned) (sym g.patterned) in
    (subst (λ (w : ℕ). Has w fs) same_word t.0, subst (λ (w : ℕ). Has w gs) same_word t.1)

pub stands_agree : (width : ℕ) (fs gs : Frame) (p q : BitPattern) → Stands width fs p → Stands width gs q → (w : ℕ) → Has w fs → Has w gs → Agree p q
stands_agree width fs gs p q f g w has has' =
    ap₂ bit_and f.patterned g.masked ∙ common_agrees w fs gs (f.wide ∙ sym g.wide) has has' ∙ ap₂ bit_and (sym g.patterned) (sym f.masked)

pub stands_has : (width : ℕ) (fs : Frame) (p : BitPattern) (w : ℕ) → Stands width fs p → w < 2 ^ width → bit_and w p.mask ≡ p.pattern → Has w fs
stands_has width fs p w f below e = masked_has w fs (subst (λ (n : ℕ). w < 2 ^ n) (sym f.wide) below) (ap (bit_and w) (sym f.masked) ∙ e ∙ f.patterned)

pub has_stands : (width : ℕ) (fs : Frame) (p : BitPattern) (w : ℕ) → Stands width fs p → Has w fs → bit_and w p.mask ≡ p.pattern
has_stands width fs p w f has = ap (bit_and w) f.masked ∙ has_masked w fs has ∙ sym f.patterned

pub stands_covers : (width : ℕ) (fs gs : Frame) (p q : BitPattern) → Stands width fs p → Stands width gs q → IsContained p q → Covers fs gs
stands_covers width fs gs p q f g h =
    contained_covers fs gs (f.wide ∙ sym g.wide)
    (ap₂ bit_and (sym f.masked) (sym g.masked) ∙ h.0 ∙ f.masked)
    (ap₂ bit_and (sym g.patterned) (sym f.masked) ∙ h.1 ∙ f.patterned)

pub covers_stands : (width : ℕ) (fs gs : Frame) (p q : BitPattern) → Stands width fs p → Stands width gs q → Covers fs gs → IsContained p q
covers_stands width fs gs p q f g c =
    let h = covers_contained fs gs c in
    (ap₂ bit_and f.masked g.masked ∙ h.0 ∙ sym f.masked, ap₂ bit_and g.patterned f.masked ∙ h.1 ∙ sym f.patterned)
