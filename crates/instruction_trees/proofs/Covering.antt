-- A frame that has each word of another one covers it.
use Rattle.std.proofs.Common.{◌≡◌, ℕ, suc, ◌^◌, ◌<◌, Bool, true, false, List, [], ◌∷◌, length, Some, None, refl, sym, ap, ◌∙◌, subst}
use Rattle.instruction_trees.specs.Bits.{value, digits, Frame, Meets, none, same, free, Has, Covers}
use Rattle.instruction_trees.specs.Trees.{Item, Table, Form, Fits, AnyValue, form_bits, size}
use Rattle.instruction_trees.specs.Words.{IsWordOf}
use Rattle.instruction_trees.proofs.Numbers.{value_lt, digits_value}
use Rattle.instruction_trees.proofs.Trees.{same_parts, free_part}
use Rattle.instruction_trees.proofs.FormWords.{word_has, has_word}

-- bits of the second that differ from the first where they may
contrary : Frame → Frame → List Bool
contrary (Some true ∷ fs) (None ∷ gs) = false ∷ contrary fs gs
contrary (Some false ∷ fs) (None ∷ gs) = true ∷ contrary fs gs
contrary (None ∷ fs) (None ∷ gs) = false ∷ contrary fs gs
contrary (f ∷ fs) (Some c ∷ gs) = c ∷ contrary fs gs
contrary _ _ = []

contrary_meets : (fs gs : Frame) → length fs ≡ length gs → Meets (contrary fs gs) gs
unfolding contrary
contrary_meets [] [] l = none
contrary_meets [] (g ∷ gs) l = absurd cc
contrary_meets (f ∷ fs) [] l = absurd cc
contrary_meets (Some true ∷ fs) (None ∷ gs) l = free (contrary_meets fs gs (cc))
contrary_meets (Some false ∷ fs) (None ∷ gs) l = free (contrary_meets fs gs (cc))
contrary_meets (None ∷ fs) (None ∷ gs) l = free (contrary_meets fs gs (cc))
contrary_meets (None ∷ fs) (Some c ∷ gs) l = same (contrary_meets fs gs (cc))
contrary_meets (Some true ∷ fs) (Some c ∷ gs) l = same (contrary_meets fs gs (cc))
contrary_meets (Some false ∷ fs) (Some c ∷ gs) l = same (contrary_meets fs gs (cc))

agreed : {b c : Bool} {fs gs : Frame} → c ≡ b → Covers fs gs → Covers (Some b ∷ fs) (Some c ∷ gs)
agreed {b} {c} {fs} {gs} e h = subst (λ (d : Bool). Covers (Some d ∷ fs) (Some c ∷ gs)) e (same h)

contrary_covers : (fs gs : Frame) → length fs ≡ length gs → Meets (contrary fs gs) fs → Covers fs gs
unfolding contrary
contrary_covers [] [] l m = none
contrary_covers [] (g ∷ gs) l m = absurd cc
contrary_covers (f ∷ fs) [] l m = absurd cc
contrary_covers (Some true ∷ fs) (None ∷ gs) l m = let e = (same_parts m).0 in absurd cc
contrary_covers (Some false ∷ fs) (None ∷ gs) l m = let e = (same_parts m).0 in absurd cc
contrary_covers (None ∷ fs) (None ∷ gs) l m = free (contrary_covers fs gs (cc) (free_part m))
contrary_covers (None ∷ fs) (Some c ∷ gs) l m = free (contrary_covers fs gs (cc) (free_part m))
contrary_covers (Some true ∷ fs) (Some c ∷ gs) l m = let p = same_parts m in agreed p.0 (contrary_covers fs gs (cc) p.1)
contrary_covers (Some false ∷ fs) (Some c ∷ gs) l m = let p = same_parts m in agreed p.0 (contrary_covers fs gs (cc) p.1)

meets_length : {bs : List Bool} {fs : Frame} → Meets bs fs → length bs ≡ length fs
meets_length none = refl
meets_length (same m) = ap suc (meets_length m)
meets_length (free m) = ap suc (meets_length m)

pub bits_have : (bs : List Bool) (fs : Frame) → Meets bs fs → Has (value bs) fs
bits_have bs fs m = record {
  below = subst (λ (n : ℕ). value bs < 2 ^ n) (meets_length m) (value_lt bs);
  agrees = subst (λ (cs : List Bool). Meets cs fs) (sym (ap (λ (n : ℕ). digits n (value bs)) (sym (meets_length m)) ∙ digits_value bs)) m;
}

pub frame_covers : (fs gs : Frame) → length fs ≡ length gs → ((w : ℕ) → Has w gs → Has w fs) → Covers fs gs
frame_covers fs gs l all =
    let bs = contrary fs gs in
    let m = contrary_meets fs gs l in
    let has = all (value bs) (bits_have bs gs m) in
    contrary_covers fs gs l (subst (λ (cs : List Bool). Meets cs fs) (ap (λ (n : ℕ). digits n (value bs)) (l ∙ sym (meets_length m)) ∙ digits_value bs) has.agrees)

pub words_cover : (table : Table) (items : List Item) (f g : Form) → Fits AnyValue table f items → Fits AnyValue table g items → size table f items ≡ size table g items
    → ((w : ℕ) → IsWordOf table items g w → IsWordOf table items f w) → Covers (form_bits table f items) (form_bits table g items)
words_cover table items f g a b l all = frame_covers (form_bits table f items) (form_bits table g items) l (λ w has. word_has table items f w (all w (has_word table items g w b has)))
