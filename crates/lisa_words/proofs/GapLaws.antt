-- What gap_at answers holds of the bytes, and what holds of the bytes is answered.
use Rattle.std.proofs.Common.{◌≡◌, ℕ, suc, ◌+◌, ◌<◌, ◌≤◌, Bool, true, false, cond, eqb, List, [], ◌∷◌, ◌++◌, length, take, drop, Option, Some, None, refl, sym, ap, subst, ◌∙◌, arith, append_assoc}
use Rattle.std.specs.Prelude.{◌&&◌, ◌||◌, not}
use Rattle.std.specs.List.{list_all, prefix_len}
use Rattle.std.proofs.lemmas.Bool.{both_ways, and_parts, and_from, eqb-true, eqb-false, eq-eqb, ne_eqb}
use Rattle.std.proofs.lemmas.List.{take-append-drop, drop_at, take_at, length-append, length-take}
use Rattle.std.proofs.lemmas.List.Sums.{prefix_len-le-length}
use Rattle.std.proofs.lemmas.List.Folds.{length-prefix_len}
use Rattle.lisa_words.specs.declared.gaps.Gap.{Gap}
use Rattle.lisa_words.specs.declared.gaps.Gap.TheVariants.{Absent, Whole, Broken}
use Rattle.lisa_words.specs.Bytes.{is_blank, is_text, is_in_line, front_is}
use Rattle.lisa_words.proofs.Runs.{taken_pass, run_ends, run_is, run_from, run_all, all_run, run_cut, run_stop}
use Rattle.lisa_words.proofs.Ends.{end_splits, end_within}
use Rattle.lisa_words.specs.Gaps.{ends_line, end_of, IsGap, blanks, line, block, BrokenGap, in_line, in_block, no_end, starts_with, starts_comment, GapIs, GapFits, line_at, block_to, block_at, gap_at}

starts_split : (a b : ℕ) (bytes : List ℕ) → starts_with a b bytes ≡ true → bytes ≡ a ∷ b ∷ drop 2 bytes
starts_split a b [] e = absurd cc
starts_split a b (c ∷ []) e = absurd cc
starts_split a b (c ∷ d ∷ bytes) e =
    let parts = and_parts (eqb c a) (eqb d b) e in
    ap (λ (x : ℕ). x ∷ d ∷ bytes) (eqb-true c a parts.0) ∙ ap (λ (x : ℕ). a ∷ x ∷ bytes) (eqb-true d b parts.1)

blanks_is : (bytes : List ℕ) → front_is is_blank bytes ≡ true → GapIs bytes (Whole (prefix_len is_blank bytes))
blanks_is [] e = absurd cc
blanks_is (b ∷ bs) e =
    rw (run_from is_blank b bs e) (ap suc (length-prefix_len is_blank bs), omega arith, blanks e (taken_pass is_blank bs) (run_ends is_blank bs))

two-add : (n : ℕ) → 2 + n ≡ suc (suc n)
two-add n = omega arith

no_text : (b : ℕ) → is_in_line b ≡ false → eqb b 10 ≡ false → is_text b ≡ false
no_text b e f = go (is_text b) (eqb b 10) e f
  where
    go : (p q : Bool) → (p && not q) ≡ false → q ≡ false → p ≡ false
    go true true e f = f
    go true false e f = e
    go false q e f = refl

line_is : (body : List ℕ) → GapIs (47 ∷ 47 ∷ body) (line_at body)
line_is body = rw (two-add (prefix_len is_in_line body)) (go (drop (prefix_len is_in_line body) body) refl (run_ends is_in_line body))
  where
    n : ℕ
    n = prefix_len is_in_line body

    whole : (l : List ℕ) → drop (prefix_len is_in_line body) body ≡ l → ends_line l ≡ true → GapIs (47 ∷ 47 ∷ body) (Whole (suc (suc (prefix_len is_in_line body))))
    whole l e f =
        (ap (λ (k : ℕ). suc (suc k)) (length-prefix_len is_in_line body), omega arith, line (taken_pass is_in_line body) (ap ends_line e ∙ f))

    go : (l : List ℕ) → drop (prefix_len is_in_line body) body ≡ l → front_is is_in_line (drop (prefix_len is_in_line body) body) ≡ false
        → GapIs (47 ∷ 47 ∷ body) (cond (ends_line (drop (prefix_len is_in_line body) body)) (Whole (suc (suc (prefix_len is_in_line body)))) (Broken (suc (suc (prefix_len is_in_line body)))))
    go [] e f = rw (ap ends_line e) (whole [] e refl)
    go (b ∷ rest) e f = rw (ap ends_line e) (ended (eqb b 10) refl)
      where
        parts : body ≡ take (prefix_len is_in_line body) body ++ (b ∷ rest)
        parts = sym (take-append-drop (prefix_len is_in_line body) body) ∙ ap (λ (l : List ℕ). take (prefix_len is_in_line body) body ++ l) e

        count : 2 + length (take (prefix_len is_in_line body) body) ≡ suc (suc (prefix_len is_in_line body))
        count = omega (arith, length-prefix_len is_in_line body)

        ended : (c : Bool) → eqb b 10 ≡ c → GapIs (47 ∷ 47 ∷ body) (cond c (Whole (suc (suc (prefix_len is_in_line body)))) (Broken (suc (suc (prefix_len is_in_line body)))))
        ended true g = whole (b ∷ rest) e g
        ended false g =
            let no_line : is_in_line b ≡ false = sym (ap (front_is is_in_line) e) ∙ f in
            subst (λ (l : List ℕ). BrokenGap (47 ∷ 47 ∷ l) (suc (suc (prefix_len is_in_line body)))) (sym parts)
            (subst (λ (k : ℕ). BrokenGap (47 ∷ 47 ∷ (take (prefix_len is_in_line body) body ++ (b ∷ rest))) k) count
            (in_line (take (prefix_len is_in_line body) body) rest b (taken_pass is_in_line body) (no_text b no_line g)))

-- a gap that stands before a rest
whole_is : (text rest : List ℕ) → 0 < length text → IsGap text rest → GapIs (text ++ rest) (Whole (length text))
whole_is text rest some g =
    let front : take (length text) (text ++ rest) ≡ text = take_at text rest (length text) refl in
    let left : drop (length text) (text ++ rest) ≡ rest = drop_at text rest (length text) refl in
    (ap length front, some, subst (λ (l : List ℕ). IsGap l (drop (length text) (text ++ rest))) (sym front) (subst (λ (l : List ℕ). IsGap text l) (sym left) g))

block_made : (body rest : List ℕ) → list_all is_text body ≡ true → end_of (body ++ (42 ∷ 47 ∷ rest)) ≡ Some (length body) → GapIs (47 ∷ 42 ∷ (body ++ (42 ∷ 47 ∷ rest))) (Whole (4 + length body))
block_made body rest all e =
    let text : List ℕ = 47 ∷ 42 ∷ (body ++ 42 ∷ 47 ∷ []) in
    let size : length text ≡ 4 + length body = omega (arith, length-append body (42 ∷ 47 ∷ [])) in
    let regrouped : text ++ rest ≡ 47 ∷ 42 ∷ (body ++ (42 ∷ 47 ∷ rest)) = ap (λ (l : List ℕ). 47 ∷ 42 ∷ l) (append_assoc body (42 ∷ 47 ∷ []) rest) in
    subst (λ (k : ℕ). GapIs (47 ∷ 42 ∷ (body ++ (42 ∷ 47 ∷ rest))) (Whole k)) size
    (subst (λ (l : List ℕ). GapIs l (Whole (length text))) regrouped (whole_is text rest (omega arith) (block body all e)))

block_whole : (body : List ℕ) (n : ℕ) → end_of body ≡ Some n → prefix_len is_text (take n body) ≡ n → GapIs (47 ∷ 42 ∷ body) (Whole (4 + n))
block_whole body n e all =
    let parts = end_splits body n e in
    let size : length (take n body) ≡ n = omega (arith, all, prefix_len-le-length is_text (take n body), length-take n body) in
    let passes : list_all is_text (take n body) ≡ true = all_run is_text (take n body) (all ∙ sym size) in
    let at : end_of (take n body ++ (42 ∷ 47 ∷ drop (suc (suc n)) body)) ≡ Some (length (take n body)) = ap end_of (sym parts) ∙ e ∙ ap (λ (k : ℕ). Some k) (sym size) in
    subst (λ (k : ℕ). GapIs (47 ∷ 42 ∷ body) (Whole (4 + k))) size
    (subst (λ (l : List ℕ). GapIs (47 ∷ 42 ∷ l) (Whole (4 + length (take n body)))) (sym parts) (block_made (take n body) (drop (suc (suc n)) body) passes at))

block_broken : (body : List ℕ) (n : ℕ) → end_of body ≡ Some n → prefix_len is_text (take n body) < n → GapIs (47 ∷ 42 ∷ body) (Broken (2 + prefix_len is_text (take n body)))
block_broken body n e lt =
    let cut : body ≡ take n body ++ drop n body = sym (take-append-drop n body) in
    let full : n ≤ length (take n body) = omega (arith, end_within body n e, length-take n body) in
    let stop = run_stop is_text (take n body) (omega (arith, lt, full)) in
    let m : ℕ = prefix_len is_text (take n body) in
    let before : List ℕ = take m (take n body) in
    let size : length before ≡ m = length-prefix_len is_text (take n body) in
    let parts : body ≡ before ++ (stop.0 ∷ (stop.1 ++ drop n body)) = cut ∙ ap (λ (l : List ℕ). l ++ drop n body) stop.2 ∙ append_assoc before (stop.0 ∷ stop.1) (drop n body) in
    let at : end_of (before ++ (stop.0 ∷ (stop.1 ++ drop n body))) ≡ Some n = ap end_of (sym parts) ∙ e in
    subst (λ (k : ℕ). BrokenGap (47 ∷ 42 ∷ body) (2 + k)) size
    (subst (λ (l : List ℕ). BrokenGap (47 ∷ 42 ∷ l) (2 + length before)) (sym parts)
    (in_block before (stop.1 ++ drop n body) stop.0 n (taken_pass is_text (take n body)) stop.3 at (omega (arith, size, lt))))

block_within : (body : List ℕ) (n : ℕ) → end_of body ≡ Some n → GapIs (47 ∷ 42 ∷ body) (block_to body (Some n))
block_within body n e = go (eqb (prefix_len is_text (take n body)) n) refl
  where
    go : (c : Bool) → eqb (prefix_len is_text (take n body)) n ≡ c → GapIs (47 ∷ 42 ∷ body) (cond c (Whole (4 + n)) (Broken (2 + prefix_len is_text (take n body))))
    go true f = block_whole body n e (eqb-true _ _ f)
    go false f = block_broken body n e (omega (arith, eqb-false (prefix_len is_text (take n body)) n f, prefix_len-le-length is_text (take n body), length-take n body))

block_is : (body : List ℕ) → GapIs (47 ∷ 42 ∷ body) (block_at body)
block_is body = go (end_of body) refl
  where
    go : (o : Option ℕ) → end_of body ≡ o → GapIs (47 ∷ 42 ∷ body) (block_to body o)
    go None e = no_end e
    go (Some n) e = block_within body n e

pub gap_is : (bytes : List ℕ) → GapIs bytes (gap_at bytes)
unfolding gap_at
gap_is bytes = go (front_is is_blank bytes) (starts_with 47 47 bytes) (starts_with 47 42 bytes) refl refl refl
  where
    go : (p q r : Bool) → front_is is_blank bytes ≡ p → starts_with 47 47 bytes ≡ q → starts_with 47 42 bytes ≡ r
        → GapIs bytes (cond p (Whole (prefix_len is_blank bytes)) (cond q (line_at (drop 2 bytes)) (cond r (block_at (drop 2 bytes)) Absent)))
    go true q r e f g = blanks_is bytes e
    go false true r e f g = subst (λ (l : List ℕ). GapIs l (line_at (drop 2 bytes))) (sym (starts_split 47 47 bytes f)) (line_is (drop 2 bytes))
    go false false true e f g = subst (λ (l : List ℕ). GapIs l (block_at (drop 2 bytes))) (sym (starts_split 47 42 bytes g)) (block_is (drop 2 bytes))
    go false false false e f g = (e, rw (f, g) refl)

-- ---- what holds is answered

no_in_line : (rest : List ℕ) → ends_line rest ≡ true → front_is is_in_line rest ≡ false
no_in_line [] e = refl
no_in_line (b ∷ rest) e = let ten : b ≡ 10 = eqb-true b 10 e in ap is_in_line ten

gap_blanks : (bytes : List ℕ) → front_is is_blank bytes ≡ true → gap_at bytes ≡ Whole (prefix_len is_blank bytes)
unfolding gap_at
gap_blanks bytes e = rw e refl

pub gap_whole : {text rest : List ℕ} → IsGap text rest → gap_at (text ++ rest) ≡ Whole (length text)
unfolding gap_at
gap_whole (blanks {b = b} {bs = bs} {rest = rest} e all ends) = gap_blanks (b ∷ (bs ++ rest)) e ∙ ap (λ (n : ℕ). Whole n) (run_is is_blank (b ∷ bs) rest (and_from _ _ e all) ends)
gap_whole (line {body = body} {rest = rest} all ends) =
    let n : prefix_len is_in_line (body ++ rest) ≡ length body = run_is is_in_line body rest all (no_in_line rest ends) in
    let left : drop (length body) (body ++ rest) ≡ rest = drop_at body rest (length body) refl in
    rw (n, left, ends, two-add (length body)) refl
gap_whole (block body {rest = rest} all e) =
    let regrouped : (body ++ 42 ∷ 47 ∷ []) ++ rest ≡ body ++ (42 ∷ 47 ∷ rest) = append_assoc body (42 ∷ 47 ∷ []) rest in
    let size : 4 + length body ≡ suc (suc (length (body ++ 42 ∷ 47 ∷ []))) = omega (arith, length-append body (42 ∷ 47 ∷ [])) in
    ap block_at regrouped ∙ ap (block_to (body ++ (42 ∷ 47 ∷ rest))) e
    ∙ rw (take_at body (42 ∷ 47 ∷ rest) (length body) refl, run_all is_text body all, eq-eqb (length body) (length body) refl) (ap (λ (n : ℕ). Whole n) size)

no_end_line : (b : ℕ) → is_text b ≡ false → eqb b 10 ≡ false
no_end_line b e = go (eqb b 10) refl
  where
    go : (c : Bool) → eqb b 10 ≡ c → c ≡ false
    go true f = absurd (both_ways (is_text b) e (ap is_text (eqb-true b 10 f)))
    go false f = refl

pub gap_broken : {bytes : List ℕ} {n : ℕ} → BrokenGap bytes n → gap_at bytes ≡ Broken n
unfolding gap_at
gap_broken (in_line body rest b all e) =
    let n : prefix_len is_in_line (body ++ b ∷ rest) ≡ length body = run_is is_in_line body (b ∷ rest) all (rw e refl) in
    let left : drop (length body) (body ++ b ∷ rest) ≡ b ∷ rest = drop_at body (b ∷ rest) (length body) refl in
    rw (n, left, no_end_line b e) refl
gap_broken (in_block body rest b n all e at lt) =
    let m : prefix_len is_text (take n (body ++ b ∷ rest)) ≡ length body = run_cut is_text body rest b n all e lt in
    ap (block_to (body ++ b ∷ rest)) at ∙ rw (m, ne_eqb (length body) n (λ f. omega arith)) refl
gap_broken (no_end {body = body} e) = ap (block_to body) e

pub gap_absent : (bytes : List ℕ) → front_is is_blank bytes ≡ false → starts_comment bytes ≡ false → gap_at bytes ≡ Absent
unfolding gap_at
gap_absent bytes e c = go (starts_with 47 47 bytes) (starts_with 47 42 bytes) c
  where
    go : (q r : Bool) → (q || r) ≡ false → cond (front_is is_blank bytes) (Whole (prefix_len is_blank bytes)) (cond q (line_at (drop 2 bytes)) (cond r (block_at (drop 2 bytes)) Absent)) ≡ Absent
    go true r f = absurd cc
    go false true f = absurd cc
    go false false f = rw e refl

broken_within : {bytes : List ℕ} {n : ℕ} → BrokenGap bytes n → n < length bytes
broken_within (in_line body rest b all e) = omega (arith, length-append body (b ∷ rest))
broken_within (in_block body rest b n all e at lt) = omega (arith, length-append body (b ∷ rest))
broken_within (no_end e) = omega arith

pub gap_fits : (bytes : List ℕ) (g : Gap) → GapIs bytes g → GapFits bytes g
gap_fits bytes Absent h = tt
gap_fits bytes (Whole n) h = (h.1, omega (arith, h.0, length-take n bytes))
gap_fits bytes (Broken n) h = broken_within h
