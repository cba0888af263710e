-- The form that has a word is the one that the word is decoded as.
use Rattle.std.proofs.Common.{◌≡◌, ◌<◌, ◌≤◌, ◌+◌, ◌^◌, ◌∙◌, ℕ, zero, suc, Bool, true, false, cond, not, List, [], ◌∷◌, Option, None, Some, length, get_or, nat_eq, nat_lt, refl, sym, ap, arith}
use Rattle.std.specs.Prelude.{bit_and, position, zip}
use Rattle.std.specs.List.{position_or_len}
use Rattle.std.proofs.lemmas.Bool.{and_parts, and_from, both_ways, eq-eqb, eqb-true, lt-ltb, ltb-true, ltb-false}
use Rattle.std.proofs.lemmas.List.{length-map}
use Rattle.std.proofs.lemmas.List.Quantifiers.{position-Some}
use Rattle.std.proofs.lemmas.Slice.Zip.{get_or-zip, length-zip}
use Rattle.lisa_tree.specs.Descriptions.{DescriptionTree}
use Rattle.lisa_tree.specs.Operations.{is_alias}
use Rattle.instruction_trees.specs.Bits.{Frame, Has, mask, pattern}
use Rattle.instruction_trees.specs.Trees as plain
use Rattle.instruction_trees.specs.Trees.{form_bits, is_plain}
use Rattle.lisa_forms.specs.coding_tables.Codings.{coding_table}
use Rattle.lisa_forms.specs.coding_tables.Instructions.{instruction_items, forms_of}
use Rattle.lisa_forms.specs.pattern_tables.Tables.{IsDecoded}
use Rattle.lisa_forms.proofs.pattern_tables_proofs.Masks.{has_masked, masked_has}
use Rattle.lisa_forms.specs.form_patterns.Instructions.{instruction_frames, instruction_plain}
use Rattle.lisa_forms.specs.declared.coding.Coding.{Coding}
use Rattle.lisa_forms.specs.Codings.{IsCodingOf, IsDecodedAs}
use Rattle.lisa_forms.proofs.Decoded.{decoded}
use Rattle.lisa_forms.proofs.Known.{one_form}
use Rattle.lisa_meaning.specs.Scenes.{is_word_of, is_plain_form_of, form_with}

-- ---- words of frames

pub word_has : (w : ℕ) (fs : Frame) → is_word_of w fs ≡ true → Has w fs
word_has w fs e =
    let parts = and_parts (nat_lt w (2 ^ length fs)) (nat_eq (bit_and w (mask fs)) (pattern fs)) e in
    masked_has w fs (ltb-true w (2 ^ length fs) parts.0) (eqb-true (bit_and w (mask fs)) (pattern fs) parts.1)

has_word : (w : ℕ) (fs : Frame) → Has w fs → is_word_of w fs ≡ true
has_word w fs has =
    and_from (nat_lt w (2 ^ length fs)) (nat_eq (bit_and w (mask fs)) (pattern fs)) (lt-ltb w (2 ^ length fs) has.below) (eq-eqb (bit_and w (mask fs)) (pattern fs) (has_masked w fs has))

-- ---- what isn't found isn't there

none_passes : {X : Type 0} (p : X → Bool) (xs : List X) (i : ℕ) (d : X) → length xs ≤ position_or_len p xs → i < length xs → p (get_or xs i d) ≡ true → ⊥
none_passes p [] i d all low is = absurd (omega (arith, low))
none_passes p (x ∷ xs) zero d all low is = by (p x) refl all
  where
    by : (b : Bool) → p x ≡ b → suc (length xs) ≤ cond (not b) (1 + position_or_len p xs) 0 → ⊥
    by true e h = absurd (omega (arith, h))
    by false e h = both_ways (p x) e is
none_passes p (x ∷ xs) (suc i) d all low is = by (p x) refl all (λ h. none_passes p xs i d h (omega (arith, low)) is)
  where
    by : (b : Bool) → p x ≡ b → suc (length xs) ≤ cond (not b) (1 + position_or_len p xs) 0 → (length xs ≤ position_or_len p xs → ⊥) → ⊥
    by true e h rest = absurd (omega (arith, h))
    by false e h rest = rest (omega (arith, h))

past_all : {X : Type 0} (p : X → Bool) (xs : List X) → position p xs ≡ None → length xs ≤ position_or_len p xs
past_all p xs e = by (nat_lt (position_or_len p xs) (length xs)) refl e
  where
    by : (b : Bool) → nat_lt (position_or_len p xs) (length xs) ≡ b → cond b (Some (position_or_len p xs)) None ≡ None → length xs ≤ position_or_len p xs
    by true is h = absurd (cc h)
    by false is h = ltb-false (position_or_len p xs) (length xs) is

-- ---- the first plain form that has a word

module _ (w : ℕ) (plain : List Bool) (frames : List Frame) (level : length plain ≡ length frames) where
  abbrev Forms : List (Bool × Frame)
  Forms = zip plain frames

  counted : length Forms ≡ length frames
  counted = let l = length-zip plain frames in omega (arith, l, level)

  at : (k : ℕ) → k < length frames → get_or Forms k (false, []) ≡ (get_or plain k false, get_or frames k [])
  at k low = get_or-zip plain frames k (false, []) (omega (arith, low, level)) low

  first_is : (found : Option ℕ) → position (is_plain_form_of w) Forms ≡ found → IsDecoded frames plain w found
  first_is None e = λ k low is has.
      none_passes (is_plain_form_of w) Forms k (false, []) (past_all (is_plain_form_of w) Forms e) (omega (arith, low, counted))
      (ap (is_plain_form_of w) (at k low) ∙ and_from (get_or plain k false) (is_word_of w (get_or frames k [])) is (has_word w (get_or frames k []) has))
  first_is (Some k) e =
      let there = position-Some (is_plain_form_of w) Forms k (false, []) e in
      let low : k < length frames = omega (arith, there.0, counted) in
      let parts = and_parts (get_or plain k false) (is_word_of w (get_or frames k [])) (sym (ap (is_plain_form_of w) (at k low)) ∙ there.1) in
      (low, parts.0, word_has w (get_or frames k []) parts.1)

-- ---- of a description

module _ (d : DescriptionTree) where
  pub level : length (instruction_plain d) ≡ length (instruction_frames d)
  level =
      length-map (forms_of d) (λ (f : plain.Form). is_plain (is_alias d) f)
      ∙ sym (length-map (forms_of d) (λ (f : plain.Form). form_bits (coding_table d) f (instruction_items d)))

  pub with_form : (w : ℕ) → IsDecoded (instruction_frames d) (instruction_plain d) w (form_with d w)
  with_form w = first_is w (instruction_plain d) (instruction_frames d) level (form_with d w) refl

  pub decoded_once : (c : Coding) (w : ℕ) (r : Option ℕ) → IsCodingOf d c → IsDecodedAs d w r → r ≡ form_with d w
  decoded_once c w r is decodes = one_form d c w r (form_with d w) is decodes (decoded d w (form_with d w) is.accepted is.apart (with_form w))
