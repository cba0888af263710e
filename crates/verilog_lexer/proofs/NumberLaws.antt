-- The numbers that digits stand for, and those that begin with a size.
use Rattle.std.proofs.Common.{◌≡◌, ℕ, zero, suc, ◌+◌, ◌-◌, ◌*◌, ◌^◌, ◌<◌, ◌≤◌, Bool, true, false, cond, eqb, ltb, leb, List, [], ◌∷◌, ◌++◌, length, take, drop, get_or, Option, Some, None, Ok, Err, refl, sym, ap, subst, ◌∙◌, arith, fold, drop-cons, add-one, one-add}
use Rattle.std.specs.Prelude.{not}
use Rattle.std.specs.List.{list_all, prefix_len}
use Rattle.std.proofs.lemmas.Bool.{eqb-false, and_parts, ne_eqb, leb-true}
use Rattle.std.proofs.lemmas.List.{length-append}
use Rattle.std.proofs.Math.Nat.{mul-le-mul_right}
use Rattle.std.proofs.lemmas.List.Folds.{length-prefix_len}
use Rattle.lisa_words.specs.Bytes.{is_digit, front_is}
use Rattle.verilog_text.specs.Tokens.{VTok, Sized, Plain}
use Rattle.verilog_text.specs.Lexing.{digit_of, digits_number, base_of, has_unknown, may_be_unknown, is_more_digit}
use Rattle.verilog_text.proofs.WrittenTexts.{size_least}
use Rattle.verilog_lexer.specs.Numbers.{next_number}
use Rattle.verilog_lexer.specs.Reading.{Front, is_zero, base_behind, sized_at, plain_at, verdict, judged, sized_verdict, based_verdict}
use Rattle.verilog_lexer.proofs.LongestTokens.{Based, based_is, sized_some, sized_none}
use Rattle.verilog_lexer.proofs.ItemLaws.{judged_parts}

-- more digits make no smaller number
digits_grow : (base : ℕ) → 1 ≤ base → (ds : List ℕ) (n : ℕ) → n ≤ fold (next_number base) n ds
digits_grow base some [] n = omega arith
digits_grow base some (d ∷ ds) n = omega (arith, digits_grow base some ds (next_number base n d), step (eqb d 95))
  where
    step : (b : Bool) → n ≤ cond b n (base * n + digit_of d)
    step true = omega arith
    step false = let more : 1 * n ≤ base * n = mul-le-mul_right n some in omega (arith, more)

pub too_wide : (base : ℕ) (ds : List ℕ) (value i whole : ℕ) → 1 ≤ base → i < length ds → fold (next_number base) value (drop i ds) ≡ whole → (next_number base value (get_or ds i 0) < 2 ^ 64 → ⊥) → whole < 2 ^ 64 → ⊥
too_wide base ds value i whole some less left wide fits =
    let here : fold (next_number base) value (drop i ds) ≡ fold (next_number base) (next_number base value (get_or ds i 0)) (drop (suc i) ds) = ap (fold (next_number base) value) (drop-cons ds i 0 less) in
    wide (omega (arith, digits_grow base some (drop (suc i) ds) (next_number base value (get_or ds i 0)), here, left))

pub size_some : (zs : List ℕ) → 0 < length zs → list_all is_digit zs ≡ true → front_is is_zero zs ≡ false → 1 ≤ digits_number 10 zs
size_some [] some all lead = absurd (omega arith)
size_some (z ∷ zs) some all lead = size_least z zs (and_parts (is_digit z) (list_all is_digit zs) all).0 (λ h. eqb-false z 48 lead h)

pub behind_long : (zs rest : List ℕ) (base : ℕ) → base_behind zs rest ≡ Some base → 3 ≤ length rest
behind_long zs rest base e = let x = based_is zs rest base e in omega (arith, ap length x.parts)

drop_more : (n k : ℕ) (xs ys : List ℕ) → length xs ≡ n → drop (n + k) (xs ++ ys) ≡ drop k ys
drop_more n k [] ys e = let same : n + k ≡ k = omega arith in ap (λ (j : ℕ). drop j ys) same
drop_more zero k (x ∷ xs) ys e = absurd (omega arith)
drop_more (suc n) k (x ∷ xs) ys e = let same : suc n + k ≡ suc (n + k) = omega arith in ap (λ (j : ℕ). drop j (x ∷ (xs ++ ys))) same ∙ drop_more n k xs ys (omega arith)

take_more : (n k : ℕ) (xs ys : List ℕ) → length xs ≡ n → take (n + k) (xs ++ ys) ≡ xs ++ take k ys
take_more n k [] ys e = let same : n + k ≡ k = omega arith in ap (λ (j : ℕ). take j ys) same
take_more zero k (x ∷ xs) ys e = absurd (omega arith)
take_more (suc n) k (x ∷ xs) ys e =
    let same : suc n + k ≡ suc (n + k) = omega arith in ap (λ (j : ℕ). take j (x ∷ (xs ++ ys))) same ∙ ap (λ (l : List ℕ). x ∷ l) (take_more n k xs ys (omega arith))

-- whether digits may be unknown, by the base behind the size
by_base : (zs more : List ℕ) (letter base : ℕ) → list_all is_digit zs ≡ true → base_of letter ≡ Some base → may_be_unknown (zs ++ (39 ∷ letter ∷ more)) ≡ not (eqb base 10)
by_base [] more letter base all e = ap has_unknown e
by_base (z ∷ zs) more letter base all e =
    let p = and_parts (is_digit z) (list_all is_digit zs) all in
    let low = leb-true 48 z (and_parts (leb 48 z) (leb z 57) p.0).0 in
    let other : eqb z 39 ≡ false = ne_eqb z 39 (λ h. absurd (omega (arith, low, h))) in
    rw other (by_base zs more letter base p.1 e)

by_its_base : (at n base width value : ℕ) (text rest : List ℕ) → may_be_unknown text ≡ not (eqb base 10) → verdict at n text (Sized width value) rest ≡ sized_verdict at n base (Sized width value) rest
by_its_base at n base width value text rest e = rw e refl

pub based_judged : (at base : ℕ) (zs rest : List ℕ) → list_all is_digit zs ≡ true → base_behind zs rest ≡ Some base → judged at (zs ++ rest) (sized_at zs rest) ≡ based_verdict at zs base (drop 2 rest)
based_judged at base zs rest all e = go (based_is zs rest base e)
  where
    go : Based zs rest base → judged at (zs ++ rest) (sized_at zs rest) ≡ based_verdict at zs base (drop 2 rest)
    go x =
        let m : ℕ = prefix_len (is_more_digit base) x.bs in
        let body : drop 2 rest ≡ x.b ∷ x.bs = ap (drop 2) x.parts in
        let cut : take (1 + prefix_len (is_more_digit base) x.bs) (x.b ∷ x.bs) ≡ x.b ∷ take (prefix_len (is_more_digit base) x.bs) x.bs = rw one-add refl in
        let left : drop (1 + prefix_len (is_more_digit base) x.bs) (x.b ∷ x.bs) ≡ drop (prefix_len (is_more_digit base) x.bs) x.bs = rw one-add refl in
        let whole : drop (length zs + (3 + prefix_len (is_more_digit base) x.bs)) (zs ++ rest) ≡ drop (prefix_len (is_more_digit base) x.bs) x.bs = behind_size zs rest x in
        let len : length zs + (2 + length (x.b ∷ take (prefix_len (is_more_digit base) x.bs) x.bs)) ≡ length zs + (3 + prefix_len (is_more_digit base) x.bs) = omega (arith, length-prefix_len (is_more_digit base) x.bs) in
        ap (judged at (zs ++ rest)) (sized_some zs rest base x)
        ∙ by_its_base at (length zs + (3 + prefix_len (is_more_digit base) x.bs)) base (digits_number 10 zs) (digits_number base (x.b ∷ take (prefix_len (is_more_digit base) x.bs) x.bs))
        (take (length zs + (3 + prefix_len (is_more_digit base) x.bs)) (zs ++ rest)) (drop (length zs + (3 + prefix_len (is_more_digit base) x.bs)) (zs ++ rest)) (known zs rest all x)
        ∙ ap (λ (l : List ℕ). sized_verdict at (length zs + (3 + prefix_len (is_more_digit base) x.bs)) base (Sized (digits_number 10 zs) (digits_number base (x.b ∷ take (prefix_len (is_more_digit base) x.bs) x.bs))) l) whole
        ∙ ap (λ (k : ℕ). sized_verdict at k base (Sized (digits_number 10 zs) (digits_number base (x.b ∷ take (prefix_len (is_more_digit base) x.bs) x.bs))) (drop (prefix_len (is_more_digit base) x.bs) x.bs)) (sym len)
        ∙ ap (λ (l : List ℕ). sized_verdict at (length zs + (2 + length l)) base (Sized (digits_number 10 zs) (digits_number base l)) (drop (prefix_len (is_more_digit base) x.bs) x.bs)) (sym cut)
        ∙ ap (λ (l : List ℕ). sized_verdict at (length zs + (2 + length (take (1 + prefix_len (is_more_digit base) x.bs) (x.b ∷ x.bs)))) base (Sized (digits_number 10 zs) (digits_number base (take (1 + prefix_len (is_more_digit base) x.bs) (x.b ∷ x.bs)))) l) (sym left)
        ∙ ap (based_verdict at zs base) (sym body)
      where
        known : (zs rest : List ℕ) → list_all is_digit zs ≡ true → (x : Based zs rest base) → may_be_unknown (take (length zs + (3 + prefix_len (is_more_digit base) x.bs)) (zs ++ rest)) ≡ not (eqb base 10)
        known zs rest all x =
            let m : ℕ = prefix_len (is_more_digit base) x.bs in
            let n : 3 + m ≡ suc (suc (suc m)) = omega arith in
            let cut : take (length zs + (3 + m)) (zs ++ rest) ≡ zs ++ (39 ∷ x.letter ∷ x.b ∷ take m x.bs) =
            take_more (length zs) (3 + m) zs rest refl ∙ ap (λ (l : List ℕ). zs ++ take (3 + m) l) x.parts ∙ ap (λ (k : ℕ). zs ++ take k (39 ∷ x.letter ∷ x.b ∷ x.bs)) n in
            ap may_be_unknown cut ∙ by_base zs (x.b ∷ take m x.bs) x.letter base all x.is_base

        behind_size : (zs rest : List ℕ) (x : Based zs rest base) → drop (length zs + (3 + prefix_len (is_more_digit base) x.bs)) (zs ++ rest) ≡ drop (prefix_len (is_more_digit base) x.bs) x.bs
        behind_size zs rest x =
            drop_more (length zs) (3 + prefix_len (is_more_digit base) x.bs) zs rest refl ∙ ap (drop (3 + prefix_len (is_more_digit base) x.bs)) x.parts
            ∙ (let n : 3 + prefix_len (is_more_digit base) x.bs ≡ suc (suc (suc (prefix_len (is_more_digit base) x.bs))) = omega arith in ap (λ (k : ℕ). drop k (39 ∷ x.letter ∷ x.b ∷ x.bs)) n)

pub plain_judged : (at : ℕ) (zs rest : List ℕ) → base_behind zs rest ≡ None → judged at (zs ++ rest) (sized_at zs rest) ≡ verdict at (length zs) zs (Plain (digits_number 10 zs) (length zs)) rest
plain_judged at zs rest e = ap (judged at (zs ++ rest)) (sized_none zs rest e) ∙ judged_parts at (zs ++ rest) zs rest (Plain (digits_number 10 zs) (length zs)) refl
