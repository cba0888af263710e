-- The parts of a text.
use Rattle.std.proofs.Common.{◌≡◌, ℕ, ◌+◌, ◌<◌, ◌≤◌, Bool, true, false, cond, List, [], ◌∷◌, length, refl, sym, ap, subst, ◌∙◌, arith, ne_eqb}
use Rattle.std.specs.Prelude.{◌==◌}
use Rattle.std.specs.List.{slice_split, onto_first}
use Rattle.std.proofs.lemmas.List.Splits.{length-slice_split}
use Rattle.lisa_object.specs.Reading.{Word, is_nil, is_last}

not_nil : (ws : List Word) → 0 < length ws → is_nil ws ≡ false
not_nil [] h = absurd (omega arith)
not_nil (w ∷ ws) h = refl

-- there is always a first part
pub some_part : (p : ℕ → Bool) (text : List ℕ) → is_nil (slice_split p text) ≡ false
some_part p text = not_nil (slice_split p text) (omega (arith, length-slice_split p text))

more_follows : (w : Word) (ws : List Word) → is_nil ws ≡ false → is_last (w ∷ ws) ≡ false
more_follows [] [] e = absurd cc
more_follows [] (v ∷ vs) e = refl
more_follows (b ∷ bs) ws e = refl

first_filled : (b : ℕ) (ws : List Word) → is_last (onto_first b ws) ≡ false
first_filled b [] = refl
first_filled b (w ∷ ws) = refl

pub not_last : (p : ℕ → Bool) (text : List ℕ) → 1 ≤ length text → is_last (slice_split p text) ≡ false
not_last p [] h = absurd (omega arith)
not_last p (b ∷ bs) h = go (p b)
  where
    go : (t : Bool) → is_last (cond t ([] ∷ slice_split p bs) (onto_first b (slice_split p bs))) ≡ false
    go true = more_follows [] (slice_split p bs) (some_part p bs)
    go false = first_filled b (slice_split p bs)

pub last_is : (p : ℕ → Bool) (text : List ℕ) → (length text == 0) ≡ is_last (slice_split p text)
last_is p [] = refl
last_is p (b ∷ bs) = ne_eqb (length (b ∷ bs)) 0 (λ e. omega arith) ∙ sym (not_last p (b ∷ bs) (omega arith))
