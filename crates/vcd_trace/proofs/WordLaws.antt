-- What words_from says of blanks, and of a word.
use Rattle.std.proofs.Common.{◌≡◌, ℕ, suc, ◌+◌, ◌<◌, Bool, true, false, cond, List, [], ◌∷◌, ◌++◌, length, take, drop, refl, sym, ap, subst, ◌∙◌, arith}
use Rattle.std.specs.Prelude.{not}
use Rattle.std.specs.List.{list_all, prefix_len}
use Rattle.std.proofs.lemmas.Bool.{and_parts}
use Rattle.lisa_words.specs.Bytes.{is_blank, front_is}
use Rattle.lisa_words.proofs.Runs.{run_ends, run_from}
use Rattle.vcd_trace.specs.VcdWords.{Placed, word_at, is_solid, with_byte, words_from}

blanks_off : (at : ℕ) (bs : List ℕ) → words_from at bs ≡ words_from (at + prefix_len is_blank bs) (drop (prefix_len is_blank bs) bs)
blanks_off at [] = refl
blanks_off at (b ∷ bs) = go (is_blank b) refl (blanks_off (at + 1) bs)
  where
    n : ℕ
    n = prefix_len is_blank bs

    go : (t : Bool) → is_blank b ≡ t → words_from (at + 1) bs ≡ words_from (at + 1 + prefix_len is_blank bs) (drop (prefix_len is_blank bs) bs)
        → cond t (words_from (at + 1) bs) (with_byte at b (front_is is_solid bs) (words_from (at + 1) bs))
        ≡ words_from (at + cond t (1 + prefix_len is_blank bs) 0) (drop (cond t (1 + prefix_len is_blank bs) 0) (b ∷ bs))
    go true e rec =
        let one : 1 + prefix_len is_blank bs ≡ suc (prefix_len is_blank bs) = omega arith in
        let far : at + 1 + prefix_len is_blank bs ≡ at + (1 + prefix_len is_blank bs) = omega arith in
        rec ∙ ap (λ (k : ℕ). words_from k (drop (prefix_len is_blank bs) bs)) far ∙ ap (λ (k : ℕ). words_from (at + (1 + prefix_len is_blank bs)) (drop k (b ∷ bs))) (sym one)
    go false e rec =
        let none : at + 0 ≡ at = omega arith in
        sym (ap (λ (k : ℕ). words_from k (b ∷ bs)) none ∙ ap (λ (t : Bool). cond t (words_from (at + 1) bs) (with_byte at b (front_is is_solid bs) (words_from (at + 1) bs))) e)

pub solid_word : (at b : ℕ) (bs : List ℕ) → is_blank b ≡ false
    → words_from at (b ∷ bs) ≡ word_at at (b ∷ take (prefix_len is_solid bs) bs) ∷ words_from (at + 1 + prefix_len is_solid bs) (drop (prefix_len is_solid bs) bs)
solid_word at b [] e = ap (λ (t : Bool). cond t [] (word_at at (b ∷ []) ∷ [])) e
solid_word at b (c ∷ cs) e =
    ap (λ (t : Bool). cond t (words_from (at + 1) (c ∷ cs)) (with_byte at b (front_is is_solid (c ∷ cs)) (words_from (at + 1) (c ∷ cs)))) e
    ∙ go (is_blank c) refl (solid_word (at + 1) c cs)
  where
    go : (t : Bool) → is_blank c ≡ t
        → (is_blank c ≡ false → words_from (at + 1) (c ∷ cs) ≡ word_at (at + 1) (c ∷ take (prefix_len is_solid cs) cs) ∷ words_from (at + 1 + 1 + prefix_len is_solid cs) (drop (prefix_len is_solid cs) cs))
        → with_byte at b (not t) (words_from (at + 1) (c ∷ cs))
        ≡ word_at at (b ∷ take (cond (not t) (1 + prefix_len is_solid cs) 0) (c ∷ cs)) ∷ words_from (at + 1 + cond (not t) (1 + prefix_len is_solid cs) 0) (drop (cond (not t) (1 + prefix_len is_solid cs) 0) (c ∷ cs))
    go true f rec =
        let none : at + 1 ≡ at + 1 + 0 = omega arith in
        ap (λ (k : ℕ). word_at at (b ∷ []) ∷ words_from k (c ∷ cs)) none
    go false f rec =
        let one : suc (prefix_len is_solid cs) ≡ 1 + prefix_len is_solid cs = omega arith in
        let far : at + 1 + 1 + prefix_len is_solid cs ≡ at + 1 + suc (prefix_len is_solid cs) = omega arith in
        ap (λ (ws : List Placed). with_byte at b true ws) (rec f)
        ∙ ap (λ (k : ℕ). word_at at (b ∷ c ∷ take (prefix_len is_solid cs) cs) ∷ words_from k (drop (prefix_len is_solid cs) cs)) far
        ∙ ap (λ (n : ℕ). word_at at (b ∷ take n (c ∷ cs)) ∷ words_from (at + 1 + n) (drop n (c ∷ cs))) one

-- no word begins where neither a blank nor another byte stands
over : (at : ℕ) (rest : List ℕ) → front_is is_blank rest ≡ false → prefix_len is_solid rest ≡ 0 → words_from at rest ≡ []
over at [] e z = refl
over at (b ∷ bs) e z = let f : 1 + prefix_len is_solid bs ≡ 0 = sym (ap (λ (t : Bool). cond (not t) (1 + prefix_len is_solid bs) 0) e) ∙ z in absurd (omega (arith, f))

one : (at : ℕ) (rest : List ℕ) → front_is is_blank rest ≡ false → 0 < prefix_len is_solid rest
    → words_from at rest ≡ word_at at (take (prefix_len is_solid rest) rest) ∷ words_from (at + prefix_len is_solid rest) (drop (prefix_len is_solid rest) rest)
one at [] e z = absurd (omega arith)
one at (b ∷ bs) e z =
    let far : at + 1 + prefix_len is_solid bs ≡ at + suc (prefix_len is_solid bs) = omega arith in
    subst (λ (n : ℕ). words_from at (b ∷ bs) ≡ word_at at (take n (b ∷ bs)) ∷ words_from (at + n) (drop n (b ∷ bs))) (sym (run_from is_solid b bs (ap not e)))
    (solid_word at b bs e ∙ ap (λ (k : ℕ). word_at at (b ∷ take (prefix_len is_solid bs) bs) ∷ words_from k (drop (prefix_len is_solid bs) bs)) far)

-- what stands behind the blanks
module _ (at gap size : ℕ) (bs : List ℕ) (is_gap : gap ≡ prefix_len is_blank bs) (is_size : size ≡ prefix_len is_solid (drop gap bs)) where
  front : front_is is_blank (drop gap bs) ≡ false
  front = subst (λ (n : ℕ). front_is is_blank (drop n bs) ≡ false) (sym is_gap) (run_ends is_blank bs)

  behind : words_from at bs ≡ words_from (at + gap) (drop gap bs)
  behind = subst (λ (n : ℕ). words_from at bs ≡ words_from (at + n) (drop n bs)) (sym is_gap) (blanks_off at bs)

  pub none_left : size ≡ 0 → words_from at bs ≡ []
  none_left z = behind ∙ over (at + gap) (drop gap bs) front (sym is_size ∙ z)

  pub one_left : 0 < size → words_from at bs ≡ word_at (at + gap) (take size (drop gap bs)) ∷ words_from (at + gap + size) (drop size (drop gap bs))
  one_left some = behind ∙ subst (λ (n : ℕ). words_from (at + gap) (drop gap bs) ≡ word_at (at + gap) (take n (drop gap bs)) ∷ words_from (at + gap + n) (drop n (drop gap bs))) (sym is_size)
      (one (at + gap) (drop gap bs) front (omega (arith, is_size)))

-- ---- words that are written

-- blanks in front
pub past_blanks : (at : ℕ) (gap rest : List ℕ) → list_all is_blank gap ≡ true → words_from at (gap ++ rest) ≡ words_from (at + length gap) rest
past_blanks at [] rest all = let none : at ≡ at + 0 = omega arith in ap (λ (k : ℕ). words_from k rest) none
past_blanks at (b ∷ gap) rest all =
    let parts = and_parts (is_blank b) (list_all is_blank gap) all in
    let far : at + 1 + length gap ≡ at + suc (length gap) = omega arith in
    ap (λ (t : Bool). cond t (words_from (at + 1) (gap ++ rest)) (with_byte at b (front_is is_solid (gap ++ rest)) (words_from (at + 1) (gap ++ rest)))) parts.0
    ∙ past_blanks (at + 1) gap rest parts.1 ∙ ap (λ (k : ℕ). words_from k rest) far
