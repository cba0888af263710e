-- Whether some plain form has a word is decided.
use Rattle.std.proofs.Common.{◌≡◌, ◌<◌, ◌≤◌, ◌^◌, ℕ, zero, suc, Bool, true, false, List, length, Option, None, Some, ◌⊎◌, inl, inr, ⊎_elim, sym, ◌∙◌, subst, arith}
use Rattle.std.specs.Prelude.{bit_and, slice_index_or}
use Rattle.std.proofs.lemmas.Bool.{cases_Bool, cases_eq, cases_lt}
use Rattle.instruction_trees.specs.Bits.{Frame, Has, mask, pattern}
use Rattle.pattern_tables.specs.Patterns.{frame_at, IsPlain}
use Rattle.pattern_tables.specs.Tables.{IsDecoded}
use Rattle.pattern_tables.proofs.Masks.{has_masked, masked_has}

has_or_not : (w : ℕ) (fs : Frame) → Has w fs ⊎ (Has w fs → ⊥)
has_or_not w fs = ⊎_elim
    (λ below. ⊎_elim
    (λ e. inl (masked_has w fs below e))
    (λ other. inr (λ has. other (has_masked w fs has)))
    (cases_eq (bit_and w (mask fs)) (pattern fs)))
    (λ over. inr (λ has. let below = has.below in omega (arith, below, over)))
    (cases_lt w (2 ^ length fs))

module _ (frames : List Frame) (plain : List Bool) (w : ℕ) where
  abbrev IsFound : ℕ → Type 0
  IsFound k = (k < length frames) × IsPlain plain k × Has w (frame_at frames k)

  abbrev NoneBefore : ℕ → Type 0
  NoneBefore n = (k : ℕ) → k < n → IsPlain plain k → Has w (frame_at frames k) → ⊥

  false_plain : (k : ℕ) → slice_index_or plain k false ≡ false → IsPlain plain k → ⊥
  false_plain k e f = let g : false ≡ true = sym e ∙ f in cc

  one_more : (n : ℕ) → NoneBefore n → (IsPlain plain n → Has w (frame_at frames n) → ⊥) → NoneBefore (suc n)
  one_more n none not_here k less is_plain has = ⊎_elim
      (λ before. none k before is_plain has)
      (λ at. let e : k ≡ n = omega (arith, less, at) in not_here (subst (λ (j : ℕ). IsPlain plain j) e is_plain) (subst (λ (j : ℕ). Has w (frame_at frames j)) e has))
      (cases_lt k n)

  at_form : (n : ℕ) → n < length frames → NoneBefore n → ((k : ℕ) × IsFound k) ⊎ NoneBefore (suc n)
  at_form n within none = ⊎_elim
      (λ is_plain. ⊎_elim
      (λ has. inl (n, (within, is_plain, has)))
      (λ other. inr (one_more n none (λ p has. other has)))
      (has_or_not w (frame_at frames n)))
      (λ alias. inr (one_more n none (λ p has. false_plain n alias p)))
      (cases_Bool (slice_index_or plain n false))

  among : (n : ℕ) → n ≤ length frames → ((k : ℕ) × IsFound k) ⊎ NoneBefore n
  among zero within = inr (λ k less is_plain has. absurd (omega (arith, less)))
  among (suc n) within = ⊎_elim (λ f. inl f) (λ none. at_form n (omega (arith, within)) none) (among n (omega (arith, within)))

  pub decoded_or_not : (r : Option ℕ) × IsDecoded frames plain w r
  decoded_or_not = ⊎_elim
      (λ f. (Some f.0, f.1))
      (λ none. (None, none))
      (among (length frames) (omega arith))
